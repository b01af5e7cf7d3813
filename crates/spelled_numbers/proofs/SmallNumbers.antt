-- The numbers of writable programs are small.
use Rattle.std.proofs.Common.{◌≡◌, ℕ, List, map, All, Option, Some, None, slice_get, option_map, subst, ap, ◌∙◌}
use Rattle.std.proofs.lemmas.Option.{slice_get-map, slice_get_within, get_or_from_slice_get}
use Rattle.c_tree.specs.declared.program.Program.{Program}
use Rattle.c_tree.specs.Expressions.{Expr, Exprs, Number, Name, Element, Arg, Not, Minus, Binary, Place}
use Rattle.c_tree.specs.Expressions as tree
use Rattle.c_tree.specs.Bare.{Stmt, Stmts, Nil, Cons, Declare, Assign, Call, If, While, For, Return, Read, Print, Create, Join, InitMutex, InitCond, Lock, TryLock, Unlock, Wait, Signal, Broadcast, Take, Give}
use Rattle.c_tree.specs.Lined.{function_of, program_of, bare_function, bare_program}
use Rattle.c_meaning.specs.Numbers.{HasSmallNumbers, HaveSmallNumbers}
use Rattle.c_tree.specs.Everywhere.{Everywhere, EverywhereInside}
use Rattle.c_canonical.specs.Writable.{IsWritable, AreWritable, IsWritableIfAny, IsWritablePlace, IsWritableTarget, IsWritableStmt, AreWritableStmts, IsWritableFunction, IsWritableProgram}
use Rattle.state_parts.specs.Small.{IsSmallIfAny, IsSmallPlace, IsSmallTarget, IsSmall, AreSmall}

-- ---- expressions

expression_small : (e : Expr) → IsWritable e → HasSmallNumbers e
expression_small (Number k) w = w
expression_small (Name name) w = tt
expression_small (Element name index) w = (tt, expression_small index w.1)
expression_small (Arg name) w = tt
expression_small (Not a) w = expression_small a w
expression_small (Minus a) w = expression_small a w
expression_small (Binary op a b) w = (expression_small a w.0, expression_small b w.1)

expressions_small : (es : Exprs) → AreWritable es → HaveSmallNumbers es
expressions_small tree.Nil w = tt
expressions_small (tree.Cons e es) w = (expression_small e w.0, expressions_small es w.1)

small_if_any : (e : Option Expr) → IsWritableIfAny e → IsSmallIfAny e
small_if_any None w = tt
small_if_any (Some e) w = expression_small e w

place_small : (place : Place) → IsWritablePlace place → IsSmallPlace place
place_small place w = (tt, small_if_any place.index w.1)

target_small : (target : Option Place) → IsWritableTarget target → IsSmallTarget target
target_small None w = tt
target_small (Some place) w = place_small place w

-- ---- statements

statement_small : (s : Stmt) → IsWritableStmt s → IsSmall s
statement_small (Declare name value) w = (tt, small_if_any value w.1)
statement_small (Assign target value) w = (place_small target w.0, expression_small value w.1)
statement_small (Call target function args) w = (target_small target w.0, tt, expressions_small args w.2)
statement_small (If test then_arm else_arm) w = expression_small test w.0
statement_small (While test body) w = expression_small test w.0
statement_small (For first_part test step body) w = expression_small test w.1
statement_small (Return value) w = small_if_any value w
statement_small (Read target) w = place_small target w
statement_small (Print format args) w = (tt, expressions_small args w.1)
statement_small (Create slot function arg) w = (place_small slot w.0, tt, expression_small arg w.2)
statement_small (Join slot) w = place_small slot w
statement_small (InitMutex place) w = place_small place w
statement_small (InitCond place) w = place_small place w
statement_small (Lock place) w = place_small place w
statement_small (TryLock place taken busy) w = place_small place w.0
statement_small (Unlock place) w = place_small place w
statement_small (Wait cond mutex takes) w = (place_small cond w.0, place_small mutex w.1, w.2)
statement_small (Signal cond) w = place_small cond w
statement_small (Broadcast cond) w = place_small cond w
statement_small (Take monitor) w = w
statement_small (Give monitor) w = w

mutual
  statements_small : (ss : Stmts) → AreWritableStmts ss → Everywhere IsSmall ss
  statements_small Nil w = tt
  statements_small (Cons s rest) w = (statement_small s w.0, inside_small s w.0, statements_small rest w.1)

  inside_small : (s : Stmt) → IsWritableStmt s → EverywhereInside IsSmall s
  inside_small (If test then_arm else_arm) w = (statements_small then_arm w.1, statements_small else_arm w.2)
  inside_small (While test body) w = statements_small body w.1
  inside_small (For first_part test step body) w = (statements_small first_part w.0, statements_small step w.2, statements_small body w.3)
  inside_small (TryLock place taken busy) w = (statements_small taken w.1, statements_small busy w.2)
  inside_small s w = tt

-- ---- programs

-- a fact of each member of a list that was made from another one in two steps holds at each place
of_place : {A B C : Type 0} (P : C → Type 0) (g : B → C) (h : A → B) (xs : List A) → All P (map g (map h xs)) → (k : ℕ) (x : A) → slice_get xs k ≡ Some x → P (g (h x))
of_place P g h xs all k x there =
    let ys = map g (map h xs) in
    let found : slice_get ys k ≡ Some (g (h x)) = slice_get-map g (map h xs) k ∙ ap (option_map g) (slice_get-map h xs k ∙ ap (option_map h) there) in
    subst P (get_or_from_slice_get ys k (g (h x)) (g (h x)) found) (all k (g (h x)) (slice_get_within ys k (g (h x)) found))

pub writable_is_small : (p : Program) → IsWritableProgram (bare_program (program_of p)) → AreSmall p
writable_is_small p w k f there =
    let known = of_place IsWritableFunction bare_function function_of p.functions w.functions k f there in
    statements_small (bare_function (function_of f)).body known.2
