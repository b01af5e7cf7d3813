use Rattle.std.proofs.Common.{◌∙◌, ap}
use Rattle.c_layout.specs.Layout.{text}
use Rattle.c_layout.proofs.Readings.{text_append}
use Rattle.c_tree.specs.Expressions.{expr_of, exprs_of}
use Rattle.c_canonical.specs.Expressions.{expression, expressions, followed, separated}
use Rattle.c_print.proofs.Chains.{chain2}
use Rattle.c_print.proofs.acts.arguments.Goals as goal

pub returns-in_ok-following-in-Some : goal.returns-in_ok-following-in-Some
returns-in_ok-following-in-Some c =
    let first = expression (expr_of c.in-Some.first.now) in
    let more = followed (expressions (exprs_of c.in-Some.more.now)) in
    chain2 c.args.out.now.items c.expression.new.out.items c.following.new.out.items (text first) (text more) (text (separated (expressions (exprs_of c.args.es.now))))
    c.in_ok-expression-in-Some.ensures c.in_ok-following-in-Some.ensures
    (ap (λ es. text (separated (expressions (exprs_of es)))) c.in-Some.ensures.cases.0 ∙ text_append first more)
