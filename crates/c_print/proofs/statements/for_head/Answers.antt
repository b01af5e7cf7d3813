use Rattle.c_tree.specs.Expressions.{expr_of}
use Rattle.c_tree.specs.Lined.{stmts_of, bare_stmts}
use Rattle.c_print.proofs.ActTexts.{for_head_text}
use Rattle.c_print.proofs.statements.for_head.Goals as goal

pub returns : goal.returns
returns c =
    for_head_text c.args.out.now.items c.put.new.out.items c.part.new.out.items c.put-2.new.out.items c.expression.new.out.items c.put-3.new.out.items c.part-2.new.out.items c.put-4.new.out.items c.args.kind (bare_stmts (stmts_of c.args.first.now)) (expr_of c.args.test.now) (bare_stmts (stmts_of c.args.step.now))
    c.in_ok-put.ensures c.in_ok-part.ensures c.in_ok-put-2.ensures c.in_ok-expression.ensures c.in_ok-put-3.ensures c.in_ok-part-2.ensures c.in_ok-put-4.ensures
