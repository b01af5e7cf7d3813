-- Declared statements that hold others, as the definitions see them.
use Rattle.std.proofs.Common.{◌≡◌, ℕ, List, sym, ◌∙◌, ap}
use Rattle.c_tree.specs.declared.expr.Expr as declared_expr
use Rattle.c_tree.specs.declared.expr.Place as declared_place
use Rattle.c_tree.specs.declared.stmt.Stmt as declared
use Rattle.c_tree.specs.declared.stmt.Act.{fold-Act}
use Rattle.c_tree.specs.declared.stmt.Act.TheVariants as act
use Rattle.c_tree.specs.declared.stmt.Act.TheOpen as act_open
use Rattle.c_tree.specs.declared.stmt.Act.TheFolds.{fold-roll-Act, fold_out-Stmt}
use Rattle.c_tree.specs.Expressions.{expr_of, place_of}
use Rattle.c_tree.specs.Lined as lined
use Rattle.c_tree.specs.Lined.{act_layer, stmt_layer, bare_stmt}
use Rattle.c_tree.specs.Bare.{If, While, For, TryLock}
use Rattle.c_meaning.specs.Shown.{shown_stmt, shown_body}

pub if_is : (s : declared.Stmt) (test : declared_expr.Expr) (then_arm else_arm : List declared.Stmt) → s.act ≡ act.If test then_arm else_arm
    → shown_stmt s ≡ If (expr_of test) (shown_body then_arm) (shown_body else_arm)
if_is s test then_arm else_arm is =
    ap bare_stmt (fold_out-Stmt (ℕ → lined.Stmt) lined.Stmt act_layer stmt_layer s
    ∙ ap (λ a. fold-Act (ℕ → lined.Stmt) lined.Stmt act_layer stmt_layer a s.line) (is ∙ sym (act.rolls-If test then_arm else_arm))
    ∙ ap (λ f. f s.line) (fold-roll-Act (ℕ → lined.Stmt) lined.Stmt act_layer stmt_layer (act_open.If test then_arm else_arm)))

pub while_is : (s : declared.Stmt) (test : declared_expr.Expr) (body : List declared.Stmt) → s.act ≡ act.While test body → shown_stmt s ≡ While (expr_of test) (shown_body body)
while_is s test body is =
    ap bare_stmt (fold_out-Stmt (ℕ → lined.Stmt) lined.Stmt act_layer stmt_layer s
    ∙ ap (λ a. fold-Act (ℕ → lined.Stmt) lined.Stmt act_layer stmt_layer a s.line) (is ∙ sym (act.rolls-While test body))
    ∙ ap (λ f. f s.line) (fold-roll-Act (ℕ → lined.Stmt) lined.Stmt act_layer stmt_layer (act_open.While test body)))

pub for_is : (s : declared.Stmt) (first_part : List declared.Stmt) (test : declared_expr.Expr) (step body : List declared.Stmt) → s.act ≡ act.For first_part test step body
    → shown_stmt s ≡ For (shown_body first_part) (expr_of test) (shown_body step) (shown_body body)
for_is s first_part test step body is =
    ap bare_stmt (fold_out-Stmt (ℕ → lined.Stmt) lined.Stmt act_layer stmt_layer s
    ∙ ap (λ a. fold-Act (ℕ → lined.Stmt) lined.Stmt act_layer stmt_layer a s.line) (is ∙ sym (act.rolls-For first_part test step body))
    ∙ ap (λ f. f s.line) (fold-roll-Act (ℕ → lined.Stmt) lined.Stmt act_layer stmt_layer (act_open.For first_part test step body)))

pub try_lock_is : (s : declared.Stmt) (place : declared_place.Place) (taken busy : List declared.Stmt) → s.act ≡ act.TryLock place taken busy
    → shown_stmt s ≡ TryLock (place_of place) (shown_body taken) (shown_body busy)
try_lock_is s place taken busy is =
    ap bare_stmt (fold_out-Stmt (ℕ → lined.Stmt) lined.Stmt act_layer stmt_layer s
    ∙ ap (λ a. fold-Act (ℕ → lined.Stmt) lined.Stmt act_layer stmt_layer a s.line) (is ∙ sym (act.rolls-TryLock place taken busy))
    ∙ ap (λ f. f s.line) (fold-roll-Act (ℕ → lined.Stmt) lined.Stmt act_layer stmt_layer (act_open.TryLock place taken busy)))
