use Rattle.c_tree.specs.Expressions.{value_of}
use Rattle.c_print.proofs.ActTexts.{declare_text}
use Rattle.c_print.proofs.acts.declare.Goals as goal

pub returns : goal.returns
returns c =
    declare_text c.args.out.now.items c.put.new.out.items c.put_name.new.out.items c.initial.new.out.items c.args.kind c.args.name.now (value_of c.args.value.now)
    c.in_ok-put.ensures c.in_ok-put_name.ensures c.in_ok-initial.ensures
