-- What an error tells.
use Rattle.std.specs.Prelude.{◌≡◌, Option, Some, None, ⊤}
use Rattle.held_counts.specs.Refusals.{Refusal}
use Rattle.outline_pieces.specs.declared.error.FlowError.{FlowError}
use Rattle.outline_pieces.specs.Walks as walks
use Rattle.outline_pieces.specs.declared.error.FlowError.TheVariants.{TooManyPoints, Held, Memory}

-- an error of a walk is want of memory, or tells the refusal
abbrev pub Tells : FlowError → Option Refusal → Type 0
Tells TooManyPoints refusal = ⊥
Tells (Held kind line) refusal = refusal ≡ Some (record { kind = kind; line = line })
Tells Memory refusal = ⊤

abbrev pub refusal_of : walks.Outcome → Option Refusal
refusal_of (walks.Refused refusal) = Some refusal
refusal_of (walks.Held points) = None
