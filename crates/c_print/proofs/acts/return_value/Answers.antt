use Rattle.c_tree.specs.Expressions.{expr_of}
use Rattle.c_print.proofs.ActTexts.{return_value_text}
use Rattle.c_print.proofs.acts.return_value.Goals as goal

pub returns : goal.returns
returns c =
    return_value_text c.args.out.now.items c.put.new.out.items c.expression.new.out.items (expr_of c.args.e.now)
    c.in_ok-put.ensures c.in_ok-expression.ensures
