-- The declared statements with blocks, as the definitions see them.
use Rattle.std.proofs.Common.{◌≡◌, ℕ, List, sym, ◌∙◌, ap}
use Rattle.c_tree.specs.declared.expr.Expr as declared_expr
use Rattle.c_tree.specs.declared.expr.Place as declared_place
use Rattle.c_tree.specs.declared.stmt.Stmt as declared
use Rattle.c_tree.specs.declared.stmt.Act.{fold-Act}
use Rattle.c_tree.specs.declared.stmt.Act.TheVariants as v
use Rattle.c_tree.specs.declared.stmt.Act.TheOpen as open_of
use Rattle.c_tree.specs.declared.stmt.Act.TheFolds.{fold-roll-Act, fold_out-Stmt}
use Rattle.c_tree.specs.Expressions.{expr_of, place_of}
use Rattle.c_tree.specs.Bare.{If, TryLock, While, For}
use Rattle.c_tree.specs.Lined as lined
use Rattle.c_tree.specs.Lined.{act_layer, stmt_layer, stmt_of, stmts_of, bare_stmt, bare_stmts}

pub if_of : (given : declared.Stmt) (test : declared_expr.Expr) (then_arm else_arm : List declared.Stmt) → given.act ≡ v.If test then_arm else_arm
    → bare_stmt (stmt_of given) ≡ If (expr_of test) (bare_stmts (stmts_of then_arm)) (bare_stmts (stmts_of else_arm))
if_of given test then_arm else_arm is =
    ap bare_stmt (fold_out-Stmt (ℕ → lined.Stmt) lined.Stmt act_layer stmt_layer given)
    ∙ ap (λ a. bare_stmt (fold-Act (ℕ → lined.Stmt) lined.Stmt act_layer stmt_layer a given.line)) (is ∙ sym (v.rolls-If test then_arm else_arm))
    ∙ ap (λ f. bare_stmt (f given.line)) (fold-roll-Act (ℕ → lined.Stmt) lined.Stmt act_layer stmt_layer (open_of.If test then_arm else_arm))

pub try_lock_of : (given : declared.Stmt) (place : declared_place.Place) (taken busy : List declared.Stmt) → given.act ≡ v.TryLock place taken busy
    → bare_stmt (stmt_of given) ≡ TryLock (place_of place) (bare_stmts (stmts_of taken)) (bare_stmts (stmts_of busy))
try_lock_of given place taken busy is =
    ap bare_stmt (fold_out-Stmt (ℕ → lined.Stmt) lined.Stmt act_layer stmt_layer given)
    ∙ ap (λ a. bare_stmt (fold-Act (ℕ → lined.Stmt) lined.Stmt act_layer stmt_layer a given.line)) (is ∙ sym (v.rolls-TryLock place taken busy))
    ∙ ap (λ f. bare_stmt (f given.line)) (fold-roll-Act (ℕ → lined.Stmt) lined.Stmt act_layer stmt_layer (open_of.TryLock place taken busy))

pub while_of : (given : declared.Stmt) (test : declared_expr.Expr) (body : List declared.Stmt) → given.act ≡ v.While test body
    → bare_stmt (stmt_of given) ≡ While (expr_of test) (bare_stmts (stmts_of body))
while_of given test body is =
    ap bare_stmt (fold_out-Stmt (ℕ → lined.Stmt) lined.Stmt act_layer stmt_layer given)
    ∙ ap (λ a. bare_stmt (fold-Act (ℕ → lined.Stmt) lined.Stmt act_layer stmt_layer a given.line)) (is ∙ sym (v.rolls-While test body))
    ∙ ap (λ f. bare_stmt (f given.line)) (fold-roll-Act (ℕ → lined.Stmt) lined.Stmt act_layer stmt_layer (open_of.While test body))

pub for_of : (given : declared.Stmt) (first_part : List declared.Stmt) (test : declared_expr.Expr) (step body : List declared.Stmt) → given.act ≡ v.For first_part test step body
    → bare_stmt (stmt_of given) ≡ For (bare_stmts (stmts_of first_part)) (expr_of test) (bare_stmts (stmts_of step)) (bare_stmts (stmts_of body))
for_of given first_part test step body is =
    ap bare_stmt (fold_out-Stmt (ℕ → lined.Stmt) lined.Stmt act_layer stmt_layer given)
    ∙ ap (λ a. bare_stmt (fold-Act (ℕ → lined.Stmt) lined.Stmt act_layer stmt_layer a given.line)) (is ∙ sym (v.rolls-For first_part test step body))
    ∙ ap (λ f. bare_stmt (f given.line)) (fold-roll-Act (ℕ → lined.Stmt) lined.Stmt act_layer stmt_layer (open_of.For first_part test step body))
