use Rattle.c_tree.specs.Expressions.{expr_of}
use Rattle.c_print.proofs.ActTexts.{create_argument_text}
use Rattle.c_print.proofs.acts.create_argument.Goals as goal

pub returns : goal.returns
returns c =
    create_argument_text c.args.out.now.items c.put.new.out.items c.operand.new.out.items (expr_of c.args.arg.now)
    c.in_ok-put.ensures (rw c.is_binary-is_in_parentheses.ensures at c.in_ok-operand.ensures)
