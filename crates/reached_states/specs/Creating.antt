-- Programs that create threads in main's own list alone, each thread once.
use Rattle.std.specs.Prelude.{◌≡◌, ◌≢◌, ◌+◌, ℕ, ℤ, List, ◌∷◌, Some, ⊤, slice_get}
use Rattle.c_tree.specs.Expressions.{Expr, Place}
use Rattle.c_tree.specs.Bare as bare
use Rattle.c_tree.specs.Bare.{Stmt, Stmts, Nil, Cons, Function, Program}
use Rattle.c_tree.specs.Everywhere.{Everywhere, EverywhereInside}
use Rattle.c_tree.specs.Numbering.{Creation, creations, function_named, main_name, main_body, thread_in}
use Rattle.c_meaning.specs.State.{Locals, Frame, NotBegun, Running, State, frame}
use Rattle.c_meaning.specs.Run.{Reached}
use Rattle.step_effects.specs.Effects.{Is}

-- it begins no thread
abbrev pub CreatesNone : Stmt → Type 0
CreatesNone (bare.Create slot function arg) = ⊥
CreatesNone s = ⊤

-- inside the statements of a list none begins a thread
abbrev pub CreatesItself : Stmts → Type 0
CreatesItself Nil = ⊤
CreatesItself (Cons s rest) = EverywhereInside CreatesNone s × CreatesItself rest

-- it calls and begins other functions than main
abbrev pub NamesOthers : Stmt → Type 0
NamesOthers (bare.Call target function args) = function ≢ main_name
NamesOthers (bare.Create slot function arg) = function ≢ main_name
NamesOthers s = ⊤

pub record CreatesInMain (p : Program) : Type 0 where
  -- in main's own list alone
  pub own : CreatesItself (main_body p)
  pub others : (name : List ℕ) (f : Function) → function_named p name ≡ Some f → name ≢ main_name → Everywhere CreatesNone f.body
  -- nothing calls or begins main
  pub named : (name : List ℕ) (f : Function) → function_named p name ≡ Some f → Everywhere NamesOthers f.body
  -- the slot of the create statement k means the thread k + 1
  pub slots : (k : ℕ) (c : Creation) → slice_get (creations p) k ≡ Some c → thread_in p c.slot ≡ Some (k + 1)

-- where a thread stands at a create statement, its slot means a thread that hasn't begun
abbrev pub CreatesAreFresh : Type 0
CreatesAreFresh =
    (p : Program) (input : List ℤ) (s : State) (t : ℕ) (l : Locals) (slot : Place) (name : List ℕ) (arg : Expr) (rest : Stmts) (more : List Frame)
    → CreatesInMain p → Reached p input s → Is s t (Running (frame l (Cons (bare.Create slot name arg) rest) ∷ more))
    → (u : ℕ) × (thread_in p slot ≡ Some u) × Is s u NotBegun
