-- How threads begin and are waited for, as POSIX has it.
use Rattle.std.specs.Prelude.{ℕ, ℤ, List, [], ◌∷◌, Some, None, slice_get}
use Rattle.std.specs.declared.option.Option.{Option}
use Rattle.c_tree.specs.Bare.{Function}
use Rattle.c_meaning.specs.declared.Did.TheVariants as did
use Rattle.c_meaning.specs.State.{Frame, Status, NotBegun, Running, Waiting, Reacquiring, Ended, State, frame, with_status, goes_on}
use Rattle.c_meaning.specs.Outcome.{Outcome, NotEnabled, Undefined, Done}
use Rattle.c_meaning.specs.Calls.{passed}

-- the frame in which a thread begins: its start function, with its argument
abbrev pub first_frame : Option Function → Option ℤ → Option Frame
first_frame (Some f) (Some z) = Some (frame (passed f.params (z ∷ [])) f.body)
first_frame (Some f) None = None
first_frame None z = None

-- Create: the thread of that statement begins
abbrev pub created_in : State → ℕ → List Frame → ℕ → Option Status → Option Frame → Outcome
created_in s t frames u (Some NotBegun) (Some begin) = Done (did.Create u) (with_status (goes_on s t frames) u (Running (begin ∷ [])))
created_in s t frames u (Some NotBegun) None = Undefined
created_in s t frames u (Some (Running fs)) begin = Undefined
created_in s t frames u (Some (Waiting condition mutex fs)) begin = Undefined
created_in s t frames u (Some (Reacquiring mutex takes fs)) begin = Undefined
created_in s t frames u (Some Ended) begin = Undefined
created_in s t frames u None begin = Undefined

abbrev pub created : State → ℕ → List Frame → Option ℕ → Option Frame → Outcome
created s t frames (Some u) begin = created_in s t frames u (slice_get s.threads u) begin
created s t frames None begin = Undefined

-- Join: enabled where its thread has ended
abbrev pub joined_to : State → ℕ → List Frame → ℕ → Option Status → Outcome
joined_to s t frames u (Some Ended) = Done (did.Join u) (goes_on s t frames)
joined_to s t frames u (Some NotBegun) = NotEnabled
joined_to s t frames u (Some (Running fs)) = NotEnabled
joined_to s t frames u (Some (Waiting condition mutex fs)) = NotEnabled
joined_to s t frames u (Some (Reacquiring mutex takes fs)) = NotEnabled
joined_to s t frames u None = Undefined

abbrev pub joined : State → ℕ → List Frame → Option ℕ → Outcome
joined s t frames (Some u) = joined_to s t frames u (slice_get s.threads u)
joined s t frames None = Undefined
