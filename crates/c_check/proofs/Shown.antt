-- Declared statements, as the definitions see them.
use Rattle.std.proofs.Common.{◌≡◌, ℕ, List, sym, ◌∙◌, ap}
use Rattle.c_tree.specs.declared.expr.Expr as declared
use Rattle.c_tree.specs.declared.expr.Place as declared_place
use Rattle.std.specs.declared.option.Option.{Option}
use Rattle.c_tree.specs.declared.stmt.Stmt as declared_stmt
use Rattle.c_tree.specs.declared.stmt.Act.{fold-Act}
use Rattle.c_tree.specs.declared.stmt.Act.TheVariants as act
use Rattle.c_tree.specs.declared.stmt.Act.TheOpen as act_open
use Rattle.c_tree.specs.declared.stmt.Act.TheFolds.{fold-roll-Act, fold_out-Stmt}
use Rattle.c_tree.specs.Expressions.{expr_of, value_of, place_of}
use Rattle.c_tree.specs.Lined as lined
use Rattle.c_tree.specs.Lined.{Declare, If, While, For, TryLock, Create, Join, act_layer, stmt_layer, stmt_of, stmts_of}

pub declare_of : (given : declared_stmt.Stmt) (name : List ℕ) (value : Option declared.Expr) → given.act ≡ act.Declare name value → stmt_of given ≡ Declare given.line name (value_of value)
declare_of given name value is =
    fold_out-Stmt (ℕ → lined.Stmt) lined.Stmt act_layer stmt_layer given
    ∙ ap (λ a. fold-Act (ℕ → lined.Stmt) lined.Stmt act_layer stmt_layer a given.line) (is ∙ sym (act.rolls-Declare name value))
    ∙ ap (λ f. f given.line) (fold-roll-Act (ℕ → lined.Stmt) lined.Stmt act_layer stmt_layer (act_open.Declare name value))

pub if_of : (given : declared_stmt.Stmt) (test : declared.Expr) (then_arm else_arm : List declared_stmt.Stmt) → given.act ≡ act.If test then_arm else_arm
    → stmt_of given ≡ If given.line (expr_of test) (stmts_of then_arm) (stmts_of else_arm)
if_of given test then_arm else_arm is =
    fold_out-Stmt (ℕ → lined.Stmt) lined.Stmt act_layer stmt_layer given
    ∙ ap (λ a. fold-Act (ℕ → lined.Stmt) lined.Stmt act_layer stmt_layer a given.line) (is ∙ sym (act.rolls-If test then_arm else_arm))
    ∙ ap (λ f. f given.line) (fold-roll-Act (ℕ → lined.Stmt) lined.Stmt act_layer stmt_layer (act_open.If test then_arm else_arm))

pub while_of : (given : declared_stmt.Stmt) (test : declared.Expr) (body : List declared_stmt.Stmt) → given.act ≡ act.While test body
    → stmt_of given ≡ While given.line (expr_of test) (stmts_of body)
while_of given test body is =
    fold_out-Stmt (ℕ → lined.Stmt) lined.Stmt act_layer stmt_layer given
    ∙ ap (λ a. fold-Act (ℕ → lined.Stmt) lined.Stmt act_layer stmt_layer a given.line) (is ∙ sym (act.rolls-While test body))
    ∙ ap (λ f. f given.line) (fold-roll-Act (ℕ → lined.Stmt) lined.Stmt act_layer stmt_layer (act_open.While test body))

pub for_of : (given : declared_stmt.Stmt) (first_part : List declared_stmt.Stmt) (test : declared.Expr) (step body : List declared_stmt.Stmt) → given.act ≡ act.For first_part test step body
    → stmt_of given ≡ For given.line (stmts_of first_part) (expr_of test) (stmts_of step) (stmts_of body)
for_of given first_part test step body is =
    fold_out-Stmt (ℕ → lined.Stmt) lined.Stmt act_layer stmt_layer given
    ∙ ap (λ a. fold-Act (ℕ → lined.Stmt) lined.Stmt act_layer stmt_layer a given.line) (is ∙ sym (act.rolls-For first_part test step body))
    ∙ ap (λ f. f given.line) (fold-roll-Act (ℕ → lined.Stmt) lined.Stmt act_layer stmt_layer (act_open.For first_part test step body))

pub try_of : (given : declared_stmt.Stmt) (place : declared_place.Place) (taken busy : List declared_stmt.Stmt) → given.act ≡ act.TryLock place taken busy
    → stmt_of given ≡ TryLock given.line (place_of place) (stmts_of taken) (stmts_of busy)
try_of given place taken busy is =
    fold_out-Stmt (ℕ → lined.Stmt) lined.Stmt act_layer stmt_layer given
    ∙ ap (λ a. fold-Act (ℕ → lined.Stmt) lined.Stmt act_layer stmt_layer a given.line) (is ∙ sym (act.rolls-TryLock place taken busy))
    ∙ ap (λ f. f given.line) (fold-roll-Act (ℕ → lined.Stmt) lined.Stmt act_layer stmt_layer (act_open.TryLock place taken busy))

pub create_of : (given : declared_stmt.Stmt) (slot : declared_place.Place) (function : List ℕ) (arg : declared.Expr) → given.act ≡ act.Create slot function arg
    → stmt_of given ≡ Create given.line (place_of slot) function (expr_of arg)
create_of given slot function arg is =
    fold_out-Stmt (ℕ → lined.Stmt) lined.Stmt act_layer stmt_layer given
    ∙ ap (λ a. fold-Act (ℕ → lined.Stmt) lined.Stmt act_layer stmt_layer a given.line) (is ∙ sym (act.rolls-Create slot function arg))
    ∙ ap (λ f. f given.line) (fold-roll-Act (ℕ → lined.Stmt) lined.Stmt act_layer stmt_layer (act_open.Create slot function arg))

pub join_of : (given : declared_stmt.Stmt) (slot : declared_place.Place) → given.act ≡ act.Join slot → stmt_of given ≡ Join given.line (place_of slot)
join_of given slot is =
    fold_out-Stmt (ℕ → lined.Stmt) lined.Stmt act_layer stmt_layer given
    ∙ ap (λ a. fold-Act (ℕ → lined.Stmt) lined.Stmt act_layer stmt_layer a given.line) (is ∙ sym (act.rolls-Join slot))
    ∙ ap (λ f. f given.line) (fold-roll-Act (ℕ → lined.Stmt) lined.Stmt act_layer stmt_layer (act_open.Join slot))
