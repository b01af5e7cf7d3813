-- What an assignment, a read or a call's result changes.
use Rattle.std.specs.Prelude.{◌≡◌, ℕ, List, Some, None, ⊤}
use Rattle.std.specs.declared.option.Option.{Option}
use Rattle.c_tree.specs.declared.expr.Place.{Place}
use Rattle.c_meaning.specs.Places as run
use Rattle.state_parts.specs.declared.target.Target.{Target}
use Rattle.state_parts.specs.declared.target.Target.TheVariants.{Cell, Local}

abbrev pub shown_target : Target → run.Target
shown_target (Cell cell) = run.Cell cell
shown_target (Local name) = run.Local name.now

-- a local target has this name
abbrev pub IsTargetOf : List ℕ → Target → Type 0
IsTargetOf place (Cell cell) = ⊤
IsTargetOf place (Local name) = name.now ≡ place

-- a fact of the target of a call, where it has one
abbrev pub IsPlaceIfAny : (Place → Type 0) → Option Place → Type 0
IsPlaceIfAny P None = ⊤
IsPlaceIfAny P (Some place) = P place
