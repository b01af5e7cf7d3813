use Rattle.c_tree.specs.Expressions.{expr_of, place_of}
use Rattle.c_print.proofs.ActTexts.{create_text}
use Rattle.c_print.proofs.acts.create.Goals as goal

pub returns : goal.returns
returns c =
    create_text c.args.out.now.items c.put.new.out.items c.place.new.out.items c.put-2.new.out.items c.put_name.new.out.items c.create_argument.new.out.items c.put-3.new.out.items c.args.kind (place_of c.args.slot.now) c.args.function.now (expr_of c.args.arg.now)
    c.in_ok-put.ensures c.in_ok-place.ensures c.in_ok-put-2.ensures c.in_ok-put_name.ensures c.in_ok-create_argument.ensures c.in_ok-put-3.ensures
