use Rattle.c_tree.specs.Expressions.{place_of}
use Rattle.c_print.proofs.ActTexts.{read_text}
use Rattle.c_print.proofs.acts.read.Goals as goal

pub returns : goal.returns
returns c =
    read_text c.args.out.now.items c.put.new.out.items c.place.new.out.items c.put-2.new.out.items c.args.kind (place_of c.args.target.now)
    c.in_ok-put.ensures c.in_ok-place.ensures c.in_ok-put-2.ensures
