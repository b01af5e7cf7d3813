-- Declared statements, as the definitions see them.
use Rattle.std.proofs.Common.{◌≡◌, ℕ, List, sym, ◌∙◌, ap}
use Rattle.c_tree.specs.declared.expr.Expr as declared
use Rattle.c_tree.specs.declared.expr.Place as declared_place
use Rattle.c_tree.specs.declared.stmt.Stmt as declared_stmt
use Rattle.c_tree.specs.declared.stmt.Act.{fold-Act}
use Rattle.c_tree.specs.declared.stmt.Act.TheVariants as act
use Rattle.c_tree.specs.declared.stmt.Act.TheOpen as act_open
use Rattle.c_tree.specs.declared.stmt.Act.TheFolds.{fold-roll-Act, fold_out-Stmt}
use Rattle.c_tree.specs.Expressions.{expr_of, place_of}
use Rattle.c_tree.specs.Lined as lined
use Rattle.c_tree.specs.Lined.{If, While, For, Lock, TryLock, Unlock, Wait, Take, Give, act_layer, stmt_layer, stmt_of, stmts_of}

module _ (given : declared_stmt.Stmt) where
  pub if_of : (test : declared.Expr) (a b : List declared_stmt.Stmt) → given.act ≡ act.If test a b → stmt_of given ≡ If given.line (expr_of test) (stmts_of a) (stmts_of b)
  if_of test a b is =
      fold_out-Stmt (ℕ → lined.Stmt) lined.Stmt act_layer stmt_layer given
      ∙ ap (λ x. fold-Act (ℕ → lined.Stmt) lined.Stmt act_layer stmt_layer x given.line) (is ∙ sym (act.rolls-If test a b))
      ∙ ap (λ f. f given.line) (fold-roll-Act (ℕ → lined.Stmt) lined.Stmt act_layer stmt_layer (act_open.If test a b))

  pub while_of : (test : declared.Expr) (body : List declared_stmt.Stmt) → given.act ≡ act.While test body → stmt_of given ≡ While given.line (expr_of test) (stmts_of body)
  while_of test body is =
      fold_out-Stmt (ℕ → lined.Stmt) lined.Stmt act_layer stmt_layer given
      ∙ ap (λ x. fold-Act (ℕ → lined.Stmt) lined.Stmt act_layer stmt_layer x given.line) (is ∙ sym (act.rolls-While test body))
      ∙ ap (λ f. f given.line) (fold-roll-Act (ℕ → lined.Stmt) lined.Stmt act_layer stmt_layer (act_open.While test body))

  pub for_of : (first_part : List declared_stmt.Stmt) (test : declared.Expr) (step body : List declared_stmt.Stmt) → given.act ≡ act.For first_part test step body
      → stmt_of given ≡ For given.line (stmts_of first_part) (expr_of test) (stmts_of step) (stmts_of body)
  for_of first_part test step body is =
      fold_out-Stmt (ℕ → lined.Stmt) lined.Stmt act_layer stmt_layer given
      ∙ ap (λ x. fold-Act (ℕ → lined.Stmt) lined.Stmt act_layer stmt_layer x given.line) (is ∙ sym (act.rolls-For first_part test step body))
      ∙ ap (λ f. f given.line) (fold-roll-Act (ℕ → lined.Stmt) lined.Stmt act_layer stmt_layer (act_open.For first_part test step body))

  pub lock_of : (place : declared_place.Place) → given.act ≡ act.Lock place → stmt_of given ≡ Lock given.line (place_of place)
  lock_of place is =
      fold_out-Stmt (ℕ → lined.Stmt) lined.Stmt act_layer stmt_layer given
      ∙ ap (λ x. fold-Act (ℕ → lined.Stmt) lined.Stmt act_layer stmt_layer x given.line) (is ∙ sym (act.rolls-Lock place))
      ∙ ap (λ f. f given.line) (fold-roll-Act (ℕ → lined.Stmt) lined.Stmt act_layer stmt_layer (act_open.Lock place))

  pub unlock_of : (place : declared_place.Place) → given.act ≡ act.Unlock place → stmt_of given ≡ Unlock given.line (place_of place)
  unlock_of place is =
      fold_out-Stmt (ℕ → lined.Stmt) lined.Stmt act_layer stmt_layer given
      ∙ ap (λ x. fold-Act (ℕ → lined.Stmt) lined.Stmt act_layer stmt_layer x given.line) (is ∙ sym (act.rolls-Unlock place))
      ∙ ap (λ f. f given.line) (fold-roll-Act (ℕ → lined.Stmt) lined.Stmt act_layer stmt_layer (act_open.Unlock place))

  pub try_of : (place : declared_place.Place) (taken busy : List declared_stmt.Stmt) → given.act ≡ act.TryLock place taken busy
      → stmt_of given ≡ TryLock given.line (place_of place) (stmts_of taken) (stmts_of busy)
  try_of place taken busy is =
      fold_out-Stmt (ℕ → lined.Stmt) lined.Stmt act_layer stmt_layer given
      ∙ ap (λ x. fold-Act (ℕ → lined.Stmt) lined.Stmt act_layer stmt_layer x given.line) (is ∙ sym (act.rolls-TryLock place taken busy))
      ∙ ap (λ f. f given.line) (fold-roll-Act (ℕ → lined.Stmt) lined.Stmt act_layer stmt_layer (act_open.TryLock place taken busy))

  pub wait_of : (cond mutex : declared_place.Place) (takes : List ℕ) → given.act ≡ act.Wait cond mutex takes → stmt_of given ≡ Wait given.line (place_of cond) (place_of mutex) takes
  wait_of cond mutex takes is =
      fold_out-Stmt (ℕ → lined.Stmt) lined.Stmt act_layer stmt_layer given
      ∙ ap (λ x. fold-Act (ℕ → lined.Stmt) lined.Stmt act_layer stmt_layer x given.line) (is ∙ sym (act.rolls-Wait cond mutex takes))
      ∙ ap (λ f. f given.line) (fold-roll-Act (ℕ → lined.Stmt) lined.Stmt act_layer stmt_layer (act_open.Wait cond mutex takes))

  pub take_of : (monitor : ℕ) → given.act ≡ act.Take monitor → stmt_of given ≡ Take given.line monitor
  take_of monitor is =
      fold_out-Stmt (ℕ → lined.Stmt) lined.Stmt act_layer stmt_layer given
      ∙ ap (λ x. fold-Act (ℕ → lined.Stmt) lined.Stmt act_layer stmt_layer x given.line) (is ∙ sym (act.rolls-Take monitor))
      ∙ ap (λ f. f given.line) (fold-roll-Act (ℕ → lined.Stmt) lined.Stmt act_layer stmt_layer (act_open.Take monitor))

  pub give_of : (monitor : ℕ) → given.act ≡ act.Give monitor → stmt_of given ≡ Give given.line monitor
  give_of monitor is =
      fold_out-Stmt (ℕ → lined.Stmt) lined.Stmt act_layer stmt_layer given
      ∙ ap (λ x. fold-Act (ℕ → lined.Stmt) lined.Stmt act_layer stmt_layer x given.line) (is ∙ sym (act.rolls-Give monitor))
      ∙ ap (λ f. f given.line) (fold-roll-Act (ℕ → lined.Stmt) lined.Stmt act_layer stmt_layer (act_open.Give monitor))
