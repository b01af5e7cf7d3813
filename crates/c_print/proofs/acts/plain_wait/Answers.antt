use Rattle.c_tree.specs.Expressions.{place_of}
use Rattle.c_print.proofs.ActTexts.{wait_text}
use Rattle.c_print.proofs.acts.plain_wait.Goals as goal

pub returns : goal.returns
returns c =
    wait_text c.args.out.now.items c.put.new.out.items c.place.new.out.items c.put-2.new.out.items c.place-2.new.out.items c.put-3.new.out.items (place_of c.args.cond.now) (place_of c.args.mutex.now)
    c.in_ok-put.ensures c.in_ok-place.ensures c.in_ok-put-2.ensures c.in_ok-place-2.ensures c.in_ok-put-3.ensures
