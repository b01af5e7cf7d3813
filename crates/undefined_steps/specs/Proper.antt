-- What the statements of a program have to name, so that a step is undefined for no other cause.
use Rattle.std.specs.Prelude.{◌≡◌, ◌<◌, ℕ, ℤ, true, bytes_eq, find, is_some, List, Contains, length, Some, ⊤}
use Rattle.c_tree.specs.Expressions.{Place}
use Rattle.c_tree.specs.Values.{constant}
use Rattle.c_tree.specs.Bare as bare
use Rattle.c_tree.specs.Bare.{Stmt, Stmts, Nil, Cons, Object, Function, Program}
use Rattle.c_tree.specs.Numbering.{function_named, thread_in, thread_count}
use Rattle.c_rules.specs.Uses.{is_indexed_so}
use Rattle.rule_facts.specs.Elements.{ElementsOf, ElementsOfAll, ElementsOfValue, MemberOf, TargetOf}
use Rattle.step_effects.specs.Todos.{HoldsInBodies}
use Rattle.reached_states.specs.Creating.{CreatesInMain}

-- ---- places

-- a place is that of one of these objects, with an index where they are an array
pub record IsObject (p : Program) (objects : List Object) (place : Place) : Type 0 where
  pub object : Object
  pub named : find (λ o. bytes_eq o.name place.name) objects ≡ Some object
  pub indexed : is_indexed_so object.len (is_some place.index) ≡ true
  pub reads : ElementsOfValue p.arrays place.index

-- ---- statements

-- a `for` begins with a declaration, with an assignment, or with nothing
abbrev pub BeginsFor : Program → Stmts → Type 0
BeginsFor p Nil = ⊤
BeginsFor p (Cons (bare.Declare name e) Nil) = ElementsOfValue p.arrays e
BeginsFor p (Cons (bare.Assign target e) Nil) = MemberOf p.arrays target.name target.index × ElementsOf p.arrays e
BeginsFor p first_part = ⊥

abbrev pub HasFunction : Program → List ℕ → Type 0
HasFunction p name = (f : Function) × (function_named p name ≡ Some f)

-- a statement's own expressions and names, without those of the statements inside it
abbrev pub IsProper : Program → Stmt → Type 0
IsProper p (bare.Declare name e) = ElementsOfValue p.arrays e
IsProper p (bare.Assign target e) = MemberOf p.arrays target.name target.index × ElementsOf p.arrays e
IsProper p (bare.Call target function args) = TargetOf p.arrays target × HasFunction p function × ElementsOfAll p.arrays args
IsProper p (bare.If test then_arm else_arm) = ElementsOf p.arrays test
IsProper p (bare.While test body) = ElementsOf p.arrays test
IsProper p (bare.For first_part test step body) = BeginsFor p first_part × ElementsOf p.arrays test
IsProper p (bare.Return e) = ElementsOfValue p.arrays e
IsProper p (bare.Read target) = MemberOf p.arrays target.name target.index
IsProper p (bare.Print format args) = ElementsOfAll p.arrays args
IsProper p (bare.Create slot function arg) = HasFunction p function × ((z : ℤ) × (constant arg ≡ Some z))
IsProper p (bare.Join slot) = (u : ℕ) × (thread_in p slot ≡ Some u) × (u < thread_count p)
IsProper p (bare.InitMutex place) = IsObject p p.mutexes place
IsProper p (bare.InitCond place) = IsObject p p.conds place
IsProper p (bare.Lock place) = IsObject p p.mutexes place
IsProper p (bare.TryLock place taken busy) = IsObject p p.mutexes place
IsProper p (bare.Unlock place) = IsObject p p.mutexes place
IsProper p (bare.Wait cond mutex takes) = IsObject p p.conds cond × IsObject p p.mutexes mutex × ((monitor : ℕ) → Contains takes monitor → monitor < length p.monitors)
IsProper p (bare.Signal cond) = IsObject p p.conds cond
IsProper p (bare.Broadcast cond) = IsObject p p.conds cond
IsProper p (bare.Take monitor) = monitor < length p.monitors
IsProper p (bare.Give monitor) = monitor < length p.monitors

-- each statement of each function, and threads are created in main's own list, each once
pub record IsProperProgram (p : Program) : Type 0 where
  pub statements : HoldsInBodies p (IsProper p)
  pub creates : CreatesInMain p
