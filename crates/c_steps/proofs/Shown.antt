-- Declared statements, as the definitions see them.
use Rattle.std.proofs.Common.{◌≡◌, ℕ, List, sym, ◌∙◌, ap}
use Rattle.std.specs.declared.option.Option.{Option}
use Rattle.c_tree.specs.declared.expr.Expr as declared_expr
use Rattle.c_tree.specs.declared.expr.Place as declared_place
use Rattle.c_tree.specs.declared.stmt.Stmt as declared
use Rattle.c_tree.specs.declared.stmt.Act.{fold-Act}
use Rattle.c_tree.specs.declared.stmt.Act.TheVariants as act
use Rattle.c_tree.specs.declared.stmt.Act.TheOpen as act_open
use Rattle.c_tree.specs.declared.stmt.Act.TheFolds.{fold-roll-Act, fold_out-Stmt}
use Rattle.c_tree.specs.Expressions.{expr_of, exprs_of, value_of, place_of, target_of}
use Rattle.c_tree.specs.Lined as lined
use Rattle.c_tree.specs.Lined.{act_layer, stmt_layer, bare_stmt}
use Rattle.c_tree.specs.Bare as bare
use Rattle.c_meaning.specs.Shown.{shown_stmt, shown_body}

pub declare_is : (s : declared.Stmt) (name : List ℕ) (value : Option declared_expr.Expr) → s.act ≡ act.Declare name value → shown_stmt s ≡ bare.Declare name (value_of value)
declare_is s name value is =
    ap bare_stmt (fold_out-Stmt (ℕ → lined.Stmt) lined.Stmt act_layer stmt_layer s
    ∙ ap (λ a. fold-Act (ℕ → lined.Stmt) lined.Stmt act_layer stmt_layer a s.line) (is ∙ sym (act.rolls-Declare name value))
    ∙ ap (λ f. f s.line) (fold-roll-Act (ℕ → lined.Stmt) lined.Stmt act_layer stmt_layer (act_open.Declare name value)))

pub assign_is : (s : declared.Stmt) (target : declared_place.Place) (value : declared_expr.Expr) → s.act ≡ act.Assign target value → shown_stmt s ≡ bare.Assign (place_of target) (expr_of value)
assign_is s target value is =
    ap bare_stmt (fold_out-Stmt (ℕ → lined.Stmt) lined.Stmt act_layer stmt_layer s
    ∙ ap (λ a. fold-Act (ℕ → lined.Stmt) lined.Stmt act_layer stmt_layer a s.line) (is ∙ sym (act.rolls-Assign target value))
    ∙ ap (λ f. f s.line) (fold-roll-Act (ℕ → lined.Stmt) lined.Stmt act_layer stmt_layer (act_open.Assign target value)))

pub call_is : (s : declared.Stmt) (target : Option declared_place.Place) (function : List ℕ) (args : List declared_expr.Expr) → s.act ≡ act.Call target function args → shown_stmt s ≡ bare.Call (target_of target) function (exprs_of args)
call_is s target function args is =
    ap bare_stmt (fold_out-Stmt (ℕ → lined.Stmt) lined.Stmt act_layer stmt_layer s
    ∙ ap (λ a. fold-Act (ℕ → lined.Stmt) lined.Stmt act_layer stmt_layer a s.line) (is ∙ sym (act.rolls-Call target function args))
    ∙ ap (λ f. f s.line) (fold-roll-Act (ℕ → lined.Stmt) lined.Stmt act_layer stmt_layer (act_open.Call target function args)))

pub if_is : (s : declared.Stmt) (test : declared_expr.Expr) (then_arm else_arm : List declared.Stmt) → s.act ≡ act.If test then_arm else_arm → shown_stmt s ≡ bare.If (expr_of test) (shown_body then_arm) (shown_body else_arm)
if_is s test then_arm else_arm is =
    ap bare_stmt (fold_out-Stmt (ℕ → lined.Stmt) lined.Stmt act_layer stmt_layer s
    ∙ ap (λ a. fold-Act (ℕ → lined.Stmt) lined.Stmt act_layer stmt_layer a s.line) (is ∙ sym (act.rolls-If test then_arm else_arm))
    ∙ ap (λ f. f s.line) (fold-roll-Act (ℕ → lined.Stmt) lined.Stmt act_layer stmt_layer (act_open.If test then_arm else_arm)))

pub while_is : (s : declared.Stmt) (test : declared_expr.Expr) (body : List declared.Stmt) → s.act ≡ act.While test body → shown_stmt s ≡ bare.While (expr_of test) (shown_body body)
while_is s test body is =
    ap bare_stmt (fold_out-Stmt (ℕ → lined.Stmt) lined.Stmt act_layer stmt_layer s
    ∙ ap (λ a. fold-Act (ℕ → lined.Stmt) lined.Stmt act_layer stmt_layer a s.line) (is ∙ sym (act.rolls-While test body))
    ∙ ap (λ f. f s.line) (fold-roll-Act (ℕ → lined.Stmt) lined.Stmt act_layer stmt_layer (act_open.While test body)))

pub for_is : (s : declared.Stmt) (first_part : List declared.Stmt) (test : declared_expr.Expr) (step body : List declared.Stmt) → s.act ≡ act.For first_part test step body → shown_stmt s ≡ bare.For (shown_body first_part) (expr_of test) (shown_body step) (shown_body body)
for_is s first_part test step body is =
    ap bare_stmt (fold_out-Stmt (ℕ → lined.Stmt) lined.Stmt act_layer stmt_layer s
    ∙ ap (λ a. fold-Act (ℕ → lined.Stmt) lined.Stmt act_layer stmt_layer a s.line) (is ∙ sym (act.rolls-For first_part test step body))
    ∙ ap (λ f. f s.line) (fold-roll-Act (ℕ → lined.Stmt) lined.Stmt act_layer stmt_layer (act_open.For first_part test step body)))

pub return_is : (s : declared.Stmt) (value : Option declared_expr.Expr) → s.act ≡ act.Return value → shown_stmt s ≡ bare.Return (value_of value)
return_is s value is =
    ap bare_stmt (fold_out-Stmt (ℕ → lined.Stmt) lined.Stmt act_layer stmt_layer s
    ∙ ap (λ a. fold-Act (ℕ → lined.Stmt) lined.Stmt act_layer stmt_layer a s.line) (is ∙ sym (act.rolls-Return value))
    ∙ ap (λ f. f s.line) (fold-roll-Act (ℕ → lined.Stmt) lined.Stmt act_layer stmt_layer (act_open.Return value)))

pub read_is : (s : declared.Stmt) (target : declared_place.Place) → s.act ≡ act.Read target → shown_stmt s ≡ bare.Read (place_of target)
read_is s target is =
    ap bare_stmt (fold_out-Stmt (ℕ → lined.Stmt) lined.Stmt act_layer stmt_layer s
    ∙ ap (λ a. fold-Act (ℕ → lined.Stmt) lined.Stmt act_layer stmt_layer a s.line) (is ∙ sym (act.rolls-Read target))
    ∙ ap (λ f. f s.line) (fold-roll-Act (ℕ → lined.Stmt) lined.Stmt act_layer stmt_layer (act_open.Read target)))

pub print_is : (s : declared.Stmt) (format : List ℕ) (args : List declared_expr.Expr) → s.act ≡ act.Print format args → shown_stmt s ≡ bare.Print format (exprs_of args)
print_is s format args is =
    ap bare_stmt (fold_out-Stmt (ℕ → lined.Stmt) lined.Stmt act_layer stmt_layer s
    ∙ ap (λ a. fold-Act (ℕ → lined.Stmt) lined.Stmt act_layer stmt_layer a s.line) (is ∙ sym (act.rolls-Print format args))
    ∙ ap (λ f. f s.line) (fold-roll-Act (ℕ → lined.Stmt) lined.Stmt act_layer stmt_layer (act_open.Print format args)))

pub create_is : (s : declared.Stmt) (slot : declared_place.Place) (function : List ℕ) (arg : declared_expr.Expr) → s.act ≡ act.Create slot function arg → shown_stmt s ≡ bare.Create (place_of slot) function (expr_of arg)
create_is s slot function arg is =
    ap bare_stmt (fold_out-Stmt (ℕ → lined.Stmt) lined.Stmt act_layer stmt_layer s
    ∙ ap (λ a. fold-Act (ℕ → lined.Stmt) lined.Stmt act_layer stmt_layer a s.line) (is ∙ sym (act.rolls-Create slot function arg))
    ∙ ap (λ f. f s.line) (fold-roll-Act (ℕ → lined.Stmt) lined.Stmt act_layer stmt_layer (act_open.Create slot function arg)))

pub join_is : (s : declared.Stmt) (slot : declared_place.Place) → s.act ≡ act.Join slot → shown_stmt s ≡ bare.Join (place_of slot)
join_is s slot is =
    ap bare_stmt (fold_out-Stmt (ℕ → lined.Stmt) lined.Stmt act_layer stmt_layer s
    ∙ ap (λ a. fold-Act (ℕ → lined.Stmt) lined.Stmt act_layer stmt_layer a s.line) (is ∙ sym (act.rolls-Join slot))
    ∙ ap (λ f. f s.line) (fold-roll-Act (ℕ → lined.Stmt) lined.Stmt act_layer stmt_layer (act_open.Join slot)))

pub init_mutex_is : (s : declared.Stmt) (place : declared_place.Place) → s.act ≡ act.InitMutex place → shown_stmt s ≡ bare.InitMutex (place_of place)
init_mutex_is s place is =
    ap bare_stmt (fold_out-Stmt (ℕ → lined.Stmt) lined.Stmt act_layer stmt_layer s
    ∙ ap (λ a. fold-Act (ℕ → lined.Stmt) lined.Stmt act_layer stmt_layer a s.line) (is ∙ sym (act.rolls-InitMutex place))
    ∙ ap (λ f. f s.line) (fold-roll-Act (ℕ → lined.Stmt) lined.Stmt act_layer stmt_layer (act_open.InitMutex place)))

pub init_cond_is : (s : declared.Stmt) (place : declared_place.Place) → s.act ≡ act.InitCond place → shown_stmt s ≡ bare.InitCond (place_of place)
init_cond_is s place is =
    ap bare_stmt (fold_out-Stmt (ℕ → lined.Stmt) lined.Stmt act_layer stmt_layer s
    ∙ ap (λ a. fold-Act (ℕ → lined.Stmt) lined.Stmt act_layer stmt_layer a s.line) (is ∙ sym (act.rolls-InitCond place))
    ∙ ap (λ f. f s.line) (fold-roll-Act (ℕ → lined.Stmt) lined.Stmt act_layer stmt_layer (act_open.InitCond place)))

pub lock_is : (s : declared.Stmt) (place : declared_place.Place) → s.act ≡ act.Lock place → shown_stmt s ≡ bare.Lock (place_of place)
lock_is s place is =
    ap bare_stmt (fold_out-Stmt (ℕ → lined.Stmt) lined.Stmt act_layer stmt_layer s
    ∙ ap (λ a. fold-Act (ℕ → lined.Stmt) lined.Stmt act_layer stmt_layer a s.line) (is ∙ sym (act.rolls-Lock place))
    ∙ ap (λ f. f s.line) (fold-roll-Act (ℕ → lined.Stmt) lined.Stmt act_layer stmt_layer (act_open.Lock place)))

pub try_lock_is : (s : declared.Stmt) (place : declared_place.Place) (taken busy : List declared.Stmt) → s.act ≡ act.TryLock place taken busy
    → shown_stmt s ≡ bare.TryLock (place_of place) (shown_body taken) (shown_body busy)
try_lock_is s place taken busy is =
    ap bare_stmt (fold_out-Stmt (ℕ → lined.Stmt) lined.Stmt act_layer stmt_layer s
    ∙ ap (λ a. fold-Act (ℕ → lined.Stmt) lined.Stmt act_layer stmt_layer a s.line) (is ∙ sym (act.rolls-TryLock place taken busy))
    ∙ ap (λ f. f s.line) (fold-roll-Act (ℕ → lined.Stmt) lined.Stmt act_layer stmt_layer (act_open.TryLock place taken busy)))

pub unlock_is : (s : declared.Stmt) (place : declared_place.Place) → s.act ≡ act.Unlock place → shown_stmt s ≡ bare.Unlock (place_of place)
unlock_is s place is =
    ap bare_stmt (fold_out-Stmt (ℕ → lined.Stmt) lined.Stmt act_layer stmt_layer s
    ∙ ap (λ a. fold-Act (ℕ → lined.Stmt) lined.Stmt act_layer stmt_layer a s.line) (is ∙ sym (act.rolls-Unlock place))
    ∙ ap (λ f. f s.line) (fold-roll-Act (ℕ → lined.Stmt) lined.Stmt act_layer stmt_layer (act_open.Unlock place)))

pub wait_is : (s : declared.Stmt) (cond mutex : declared_place.Place) (takes : List ℕ) → s.act ≡ act.Wait cond mutex takes → shown_stmt s ≡ bare.Wait (place_of cond) (place_of mutex) takes
wait_is s cond mutex takes is =
    ap bare_stmt (fold_out-Stmt (ℕ → lined.Stmt) lined.Stmt act_layer stmt_layer s
    ∙ ap (λ a. fold-Act (ℕ → lined.Stmt) lined.Stmt act_layer stmt_layer a s.line) (is ∙ sym (act.rolls-Wait cond mutex takes))
    ∙ ap (λ f. f s.line) (fold-roll-Act (ℕ → lined.Stmt) lined.Stmt act_layer stmt_layer (act_open.Wait cond mutex takes)))

pub signal_is : (s : declared.Stmt) (cond : declared_place.Place) → s.act ≡ act.Signal cond → shown_stmt s ≡ bare.Signal (place_of cond)
signal_is s cond is =
    ap bare_stmt (fold_out-Stmt (ℕ → lined.Stmt) lined.Stmt act_layer stmt_layer s
    ∙ ap (λ a. fold-Act (ℕ → lined.Stmt) lined.Stmt act_layer stmt_layer a s.line) (is ∙ sym (act.rolls-Signal cond))
    ∙ ap (λ f. f s.line) (fold-roll-Act (ℕ → lined.Stmt) lined.Stmt act_layer stmt_layer (act_open.Signal cond)))

pub broadcast_is : (s : declared.Stmt) (cond : declared_place.Place) → s.act ≡ act.Broadcast cond → shown_stmt s ≡ bare.Broadcast (place_of cond)
broadcast_is s cond is =
    ap bare_stmt (fold_out-Stmt (ℕ → lined.Stmt) lined.Stmt act_layer stmt_layer s
    ∙ ap (λ a. fold-Act (ℕ → lined.Stmt) lined.Stmt act_layer stmt_layer a s.line) (is ∙ sym (act.rolls-Broadcast cond))
    ∙ ap (λ f. f s.line) (fold-roll-Act (ℕ → lined.Stmt) lined.Stmt act_layer stmt_layer (act_open.Broadcast cond)))

pub take_is : (s : declared.Stmt) (monitor : ℕ) → s.act ≡ act.Take monitor → shown_stmt s ≡ bare.Take monitor
take_is s monitor is =
    ap bare_stmt (fold_out-Stmt (ℕ → lined.Stmt) lined.Stmt act_layer stmt_layer s
    ∙ ap (λ a. fold-Act (ℕ → lined.Stmt) lined.Stmt act_layer stmt_layer a s.line) (is ∙ sym (act.rolls-Take monitor))
    ∙ ap (λ f. f s.line) (fold-roll-Act (ℕ → lined.Stmt) lined.Stmt act_layer stmt_layer (act_open.Take monitor)))

pub give_is : (s : declared.Stmt) (monitor : ℕ) → s.act ≡ act.Give monitor → shown_stmt s ≡ bare.Give monitor
give_is s monitor is =
    ap bare_stmt (fold_out-Stmt (ℕ → lined.Stmt) lined.Stmt act_layer stmt_layer s
    ∙ ap (λ a. fold-Act (ℕ → lined.Stmt) lined.Stmt act_layer stmt_layer a s.line) (is ∙ sym (act.rolls-Give monitor))
    ∙ ap (λ f. f s.line) (fold-roll-Act (ℕ → lined.Stmt) lined.Stmt act_layer stmt_layer (act_open.Give monitor)))
