use Rattle.std.proofs.Common.{refl, ap, ◌∙◌, rules}
use Rattle.c_tree.specs.Expressions.{expr_of}
use Rattle.c_canonical.specs.Expressions.{expression}
use Rattle.c_print.proofs.Texts.{element_of, arg_of, not_of, minus_of, binary_of, element_text, arg_text, not_text, minus_text, binary_text, wrapped_text}
use Rattle.c_print.proofs.expressions.+expression.Goals as goal

pub expression-returns-in_ok-put-in-Element-3 : goal.expression-returns-in_ok-put-in-Element-3
expression-returns-in_ok-put-in-Element-3 t c =
    element_text c.args.out.now.items c.put-in-Element.new.out.items c.put-in-Element-2.new.out.items c.expression.new.out.items c.put-in-Element-3.new.out.items
    (expr_of c.args.e.now) c.in-Element.name (expr_of c.in-Element.index) (ap expr_of c.in-Element.is ∙ element_of c.in-Element.name c.in-Element.index)
    (search rules) (search rules) (search rules) (search rules)

pub expression-returns-in_ok-put-in-Arg-2 : goal.expression-returns-in_ok-put-in-Arg-2
expression-returns-in_ok-put-in-Arg-2 t c =
    arg_text c.args.out.now.items c.put-in-Arg.new.out.items c.put-in-Arg-2.new.out.items
    (expr_of c.args.e.now) c.in-Arg.name (ap expr_of c.in-Arg.is ∙ arg_of c.in-Arg.name) (search rules) (search rules)

pub expression-returns-in_ok-operand-in-Not : goal.expression-returns-in_ok-operand-in-Not
expression-returns-in_ok-operand-in-Not t c =
    not_text c.args.out.now.items c.put-in-Not.new.out.items c.operand.new.out.items
    (expr_of c.args.e.now) (expr_of c.in-Not.a) c.is_binary.result (ap expr_of c.in-Not.is ∙ not_of c.in-Not.a) (search rules) (search rules) (search rules)

pub expression-returns-in_ok-operand-in-Minus : goal.expression-returns-in_ok-operand-in-Minus
expression-returns-in_ok-operand-in-Minus t c =
    minus_text c.args.out.now.items c.minus.new.out.items c.operand-in-Minus.new.out.items
    (expr_of c.args.e.now) (expr_of c.in-Minus.a) c.is_binary-in-Minus.result c.is_minus.result (ap expr_of c.in-Minus.is ∙ minus_of c.in-Minus.a)
    (search rules) (search rules) (search rules) (search rules)

pub expression-returns-in_ok-operand-in-Binary-2 : goal.expression-returns-in_ok-operand-in-Binary-2
expression-returns-in_ok-operand-in-Binary-2 t c =
    binary_text c.args.out.now.items c.operand-in-Binary.new.out.items c.operator.new.out.items c.operand-in-Binary-2.new.out.items
    (expr_of c.args.e.now) c.in-Binary.op (expr_of c.in-Binary.left) (expr_of c.in-Binary.right) _ _
    (ap expr_of c.in-Binary.is ∙ binary_of c.in-Binary.op c.in-Binary.left c.in-Binary.right)
    refl refl (search rules) (search rules) (search rules)

pub operand-returns-in_ok-put-2 : goal.operand-returns-in_ok-put-2
operand-returns-in_ok-put-2 t c =
    wrapped_text c.args.out.now.items c.put.new.out.items c.expression.new.out.items c.put-then-parentheses.new.out.items
    (expression (expr_of c.args.e.now)) c.args.parentheses c.if-parentheses.true c.in_ok-put.ensures c.in_ok-expression.ensures c.in_ok-put-2.ensures
