-- What comes of an event.
use Rattle.c_meaning.specs.declared.Did.{Did}
use Rattle.c_meaning.specs.declared.Did.TheVariants as did
use Rattle.c_meaning.specs.State.{State, Frame, goes_on}
use Rattle.std.specs.Prelude.{ℕ, List}

pub data Outcome : Type 0 where
  -- the event can't happen now
  NotEnabled : Outcome
  -- what happens is left undefined, and the run ends here
  Undefined : Outcome
  -- what was done, and the one state behind it
  Done : (done : Did) (next : State) → Outcome

-- the thread goes on with these frames, and nothing else changes
abbrev pub moved : State → ℕ → List Frame → Outcome
moved s t frames = Done did.Step (goes_on s t frames)
