-- Runs: lists of events each of which is done in its turn.
use Rattle.std.specs.Prelude.{◌≡◌, ℤ, List, [], ◌∷◌, Some, None}
use Rattle.std.specs.declared.option.Option.{Option}
use Rattle.c_tree.specs.Bare.{Program}
use Rattle.c_meaning.specs.declared.Did.{Did}
use Rattle.c_meaning.specs.declared.Event.{Event}
use Rattle.c_meaning.specs.State.{State, start}
use Rattle.c_meaning.specs.Outcome.{Outcome, NotEnabled, Undefined, Done}
use Rattle.c_meaning.specs.Step.{step}

abbrev pub then_on : Outcome → (State → Option State) → Option State
then_on NotEnabled go = None
then_on Undefined go = None
then_on (Done done s) go = go s

-- the state after the events, where each of them is done in its turn
abbrev pub run : Program → List Event → State → Option State
run p [] s = Some s
run p (e ∷ events) s = then_on (step p s e) (run p events)

abbrev pub done_then : Outcome → (State → List Did) → List Did
done_then NotEnabled go = []
done_then Undefined go = []
done_then (Done done s) go = done ∷ go s

-- what was done by the events, up to the first that isn't done in its turn
abbrev pub deeds : Program → List Event → State → List Did
deeds p [] s = []
deeds p (e ∷ events) s = done_then (step p s e) (deeds p events)

-- a state that a program reaches on an input, by some schedule
pub record Reached (p : Program) (input : List ℤ) (s : State) : Type 0 where
  pub events : List Event
  pub reached : run p events (start p input) ≡ Some s
