-- A running thread, at a statement.
use Rattle.std.specs.Prelude.{◌≡◌, ℕ, List, ◌∷◌, Some, slice_get}
use Rattle.c_tree.specs.Bare.{Stmt, Stmts, Cons}
use Rattle.c_tree.specs.declared.program.Program.{Program}
use Rattle.c_meaning.specs.Shown.{shown}
use Rattle.c_meaning.specs.State as run
use Rattle.c_meaning.specs.Outcome.{Outcome}
use Rattle.c_meaning.specs.Step.{acted}
use Rattle.state_parts.specs.Threads.{frames_in}
use Rattle.c_steps.specs.Model.{state_of}
use Rattle.state_parts.specs.declared.threads.Doing.TheVariants.{Running}
use Rattle.state_parts.specs.declared.threads.Thread.{Thread}
use Rattle.c_steps.specs.declared.state.State.{State}

-- the thread t runs, and has a statement to do before the rest
pub record At (p : Program) (s : State) (t : ℕ) (act : Stmt) : Type 0 where
  pub thread : Thread
  pub there : slice_get s.threads.items t ≡ Some thread
  pub runs : thread.doing ≡ Running
  pub locals : run.Locals
  pub rest : Stmts
  pub more : List run.Frame
  pub stands : frames_in p s.tables thread.frames.items ≡ run.frame locals (Cons act rest) ∷ more

-- what comes of that statement
abbrev pub does : (p : Program) (s : State) (t : ℕ) (act : Stmt) → At p s t act → Outcome
does p s t act at = acted (shown p) (state_of p s) t at.locals at.rest at.more act
