-- What holds of each statement that a state has still to do.
use Rattle.std.specs.Prelude.{◌≡◌, ℕ, ℤ, List, [], ◌∷◌, Some, ⊤, slice_get}
use Rattle.c_tree.specs.Expressions.{Expr}
use Rattle.c_tree.specs.Bare.{Stmt, Stmts, For, Function, Program}
use Rattle.c_tree.specs.Everywhere.{Everywhere}
use Rattle.c_tree.specs.Numbering.{function_named}
use Rattle.c_meaning.specs.State.{Frame, Status, NotBegun, Running, Waiting, Reacquiring, Ended, State}
use Rattle.c_meaning.specs.Branching.{loop_of}
use Rattle.c_meaning.specs.Run.{Reached}

-- a fact of each statement of each function, and of the loop of a `for` of which it holds
pub record HoldsInBodies (p : Program) (P : Stmt → Type 0) : Type 0 where
  pub bodies : (name : List ℕ) (f : Function) → function_named p name ≡ Some f → Everywhere P f.body
  pub loops : (first_part step body : Stmts) (test : Expr) → P (For first_part test step body) → P (loop_of test step body)

-- of each statement that is still to do in these frames
abbrev pub HoldsInFrames : (Stmt → Type 0) → List Frame → Type 0
HoldsInFrames P [] = ⊤
HoldsInFrames P (f ∷ more) = Everywhere P f.todo × HoldsInFrames P more

-- of each that a thread has still to do
abbrev pub HoldsInStatus : (Stmt → Type 0) → Status → Type 0
HoldsInStatus P (Running frames) = HoldsInFrames P frames
HoldsInStatus P (Waiting condition mutex frames) = HoldsInFrames P frames
HoldsInStatus P (Reacquiring mutex takes frames) = HoldsInFrames P frames
HoldsInStatus P NotBegun = ⊤
HoldsInStatus P Ended = ⊤

abbrev pub HoldsInTodos : (Stmt → Type 0) → State → Type 0
HoldsInTodos P s = (u : ℕ) (status : Status) → slice_get s.threads u ≡ Some status → HoldsInStatus P status

-- what holds of each statement of each function holds of each that a reached state has still to do
abbrev pub TodosAreOfBodies : (Stmt → Type 0) → Type 0
TodosAreOfBodies P = (p : Program) (input : List ℤ) (s : State) → HoldsInBodies p P → Reached p input s → HoldsInTodos P s
