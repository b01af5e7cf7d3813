-- A running thread, in its newest frame.
use Rattle.std.specs.Prelude.{◌≡◌, ℕ, List, ◌∷◌, reverse, Some, slice_get}
use Rattle.c_tree.specs.declared.program.Program.{Program}
use Rattle.c_frames.specs.Names.{IsAmong}
use Rattle.c_frames.specs.declared.frames.Frame.{Frame}
use Rattle.c_meaning.specs.State as run
use Rattle.state_parts.specs.First.{NamesHave}
use Rattle.state_parts.specs.Threads.{frames_in}
use Rattle.state_parts.specs.declared.threads.Doing.TheVariants.{Running}
use Rattle.state_parts.specs.declared.threads.Thread.{Thread}
use Rattle.c_steps.specs.declared.state.State.{State}

-- the thread t runs in a frame, above others
pub record Runs (p : Program) (s : State) (t : ℕ) (newest : run.Frame) (more : List run.Frame) : Type 0 where
  pub thread : Thread
  pub there : slice_get s.threads.items t ≡ Some thread
  pub runs : thread.doing ≡ Running
  pub stands : frames_in p s.tables thread.frames.items ≡ newest ∷ more

-- the frame below the newest one of a thread has a local of a name
abbrev pub MaySetBelow : State → ℕ → List ℕ → Type 0
MaySetBelow s t name = (thread : Thread) (x : Frame) → slice_get s.threads.items t ≡ Some thread → slice_get (reverse thread.frames.items) 1 ≡ Some x → NamesHave s.tables x (λ names. IsAmong names name)
