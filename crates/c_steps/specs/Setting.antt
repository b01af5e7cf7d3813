-- What a thread may set.
use Rattle.std.specs.Prelude.{◌≡◌, ℕ, List, reverse, Some, slice_get, IfSome, ⊤}
use Rattle.c_frames.specs.Names.{IsAmong, target}
use Rattle.c_tree.specs.Bare.{Stmt}
use Rattle.c_frames.specs.declared.frames.Frame.{Frame}
use Rattle.state_parts.specs.First.{NamesHave}
use Rattle.c_steps.specs.declared.state.State.{State}
use Rattle.state_parts.specs.declared.target.Target.{Target}
use Rattle.state_parts.specs.declared.target.Target.TheVariants.{Cell, Local}
use Rattle.state_parts.specs.declared.threads.Thread.{Thread}

-- the newest frame of a thread has a local of a name
abbrev pub MaySet : State → ℕ → List ℕ → Type 0
MaySet s t name = (thread : Thread) (x : Frame) → slice_get s.threads.items t ≡ Some thread → slice_get (reverse thread.frames.items) 0 ≡ Some x → NamesHave s.tables x (λ names. IsAmong names name)

abbrev pub MaySetTarget : State → ℕ → Target → Type 0
MaySetTarget s t (Cell cell) = ⊤
MaySetTarget s t (Local name) = MaySet s t name.now

-- what a statement itself sets, a thread's newest frame has
abbrev pub MaySets : State → ℕ → Stmt → Type 0
MaySets s t act = IfSome (target act) (MaySet s t)
