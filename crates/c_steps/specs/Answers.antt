-- What an answer says.
use Rattle.std.specs.Prelude.{◌≡◌, Bool, true}
use Rattle.c_tree.specs.declared.program.Program.{Program}
use Rattle.c_meaning.specs.State as run
use Rattle.c_meaning.specs.Outcome as outcome
use Rattle.c_meaning.specs.Outcome.{Outcome}
use Rattle.c_steps.specs.Model.{state_of}
use Rattle.c_steps.specs.declared.state.State.{State}
use Rattle.c_steps.specs.declared.state.Stepped.{Stepped}
use Rattle.c_steps.specs.declared.state.Stepped.TheVariants.{Done, NotEnabled, Undefined, Memory}

-- what came of an event: it was done, and led to the state that stands there now; or it wasn't, and the state is the one
-- before; or memory ran out, which an event may answer only where it asks for memory
abbrev pub Answers : Bool → Outcome → Stepped → run.State → run.State → Type 0
Answers asks came (Done did) old new = came ≡ outcome.Done did new
Answers asks came NotEnabled old new = (came ≡ outcome.NotEnabled) × (new ≡ old)
Answers asks came Undefined old new = (came ≡ outcome.Undefined) × (new ≡ old)
Answers asks came Memory old new = (asks ≡ true) × (new ≡ old)

-- the same, where the code changed one state to another
abbrev pub Steps : Program → State → State → Stepped → Bool → Outcome → Type 0
Steps p old new answer asks came = Answers asks came answer (state_of p old) (state_of p new)
