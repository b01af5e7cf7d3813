use Rattle.c_tree.specs.Expressions.{place_of}
use Rattle.c_print.proofs.ActTexts.{try_head_text}
use Rattle.c_print.proofs.statements.try_head.Goals as goal

pub returns : goal.returns
returns c =
    try_head_text c.args.out.now.items c.put.new.out.items c.place.new.out.items c.put-2.new.out.items (place_of c.args.mutex.now)
    c.in_ok-put.ensures c.in_ok-place.ensures c.in_ok-put-2.ensures
