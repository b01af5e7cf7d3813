use Rattle.c_tree.specs.Expressions.{place_of}
use Rattle.c_print.proofs.ActTexts.{init_call_text}
use Rattle.c_print.proofs.acts.init_call.Goals as goal

pub returns : goal.returns
returns c =
    init_call_text c.args.out.now.items c.put.new.out.items c.put-2.new.out.items c.place.new.out.items c.put-3.new.out.items c.args.function.now (place_of c.args.object.now)
    c.in_ok-put.ensures c.in_ok-put-2.ensures c.in_ok-place.ensures c.in_ok-put-3.ensures
