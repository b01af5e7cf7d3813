-- Items with the numbers of what they name.
use Rattle.std.specs.Prelude.{◌≡◌, ℕ, ◌<◌, Bool, true, false, not, List, [], ◌∷◌, map, is_some, ⊤}
use Rattle.std.specs.List.{list_any}
use Rattle.c_tree.specs.Expressions.{exprs_of, place_of, value_of}
use Rattle.c_tree.specs.Leaves.{HasLeavesIfAny}
use Rattle.c_tree.specs.Lined.{Program, bare_program}
use Rattle.c_tree.specs.Numbering.{monitor_resource}
use Rattle.c_meaning.specs.Numbers.{HaveSmallNumbers, small_numbers}
use Rattle.contexts.specs.Constants.{among}
use Rattle.context_items.specs.Items as spec
use Rattle.context_locals.specs.declared.names.ConstantNames.{ConstantNames}
use Rattle.context_locals.specs.Known as known
use Rattle.context_locals.specs.Known.{is_in}
use Rattle.context_locals.specs.Operands.{IsOperandIfAny, IsPlaceOf}
use Rattle.context_walk.specs.declared.steps.Step as declared_step
use Rattle.context_walk.specs.declared.steps.Step.TheVariants.{Opens, Closes, Declares, Locks, Holds, Calls}
use Rattle.context_walk.specs.Places.{callee_at}

-- a step without its numbers
abbrev pub shown_step : declared_step.Step → spec.Item
shown_step Opens = spec.Opens
shown_step Closes = spec.Closes
shown_step (Declares name value local operand) = spec.Declares name.now (value_of value.now)
shown_step (Locks line place mutex) = spec.Locks line (place_of place.now)
shown_step (Holds monitor resource) = spec.Holds monitor
shown_step (Calls name args callee) = spec.Calls name.now (exprs_of args.now)

abbrev pub shown_steps : List declared_step.Step → List spec.Item
shown_steps steps = map shown_step steps

-- ---- numbers

-- the numbers are those of a function at a place, whose locals have these names
abbrev pub IsStep : Program → ℕ → ConstantNames → declared_step.Step → Type 0
IsStep p k names Opens = ⊤
IsStep p k names Closes = ⊤
IsStep p k names (Declares name value local operand) = (known.place_of names name.now ≡ local) × IsOperandIfAny names (value_of value.now) operand
IsStep p k names (Locks line place mutex) = IsPlaceOf (bare_program p) names (place_of place.now) mutex
IsStep p k names (Holds monitor resource) = resource ≡ monitor_resource (bare_program p) monitor
IsStep p k names (Calls name args callee) = (callee ≡ callee_at p k name.now) × HaveSmallNumbers (exprs_of args.now)

-- ---- which bear locks

abbrev pub step_bears : declared_step.Step → Bool
step_bears (Locks line place mutex) = true
step_bears (Holds monitor resource) = true
step_bears (Calls name args callee) = is_some callee
step_bears step = false

abbrev pub steps_bear : List declared_step.Step → Bool
steps_bear steps = list_any step_bears steps

-- ---- items

-- an item has small numbers, and names a monitor that is there
abbrev pub FitsItem : ℕ → spec.Item → Type 0
FitsItem monitors spec.Opens = ⊤
FitsItem monitors spec.Closes = ⊤
FitsItem monitors (spec.Declares name value) = HasLeavesIfAny small_numbers value
FitsItem monitors (spec.Locks line place) = HasLeavesIfAny small_numbers place.index
FitsItem monitors (spec.Holds monitor) = monitor < monitors
FitsItem monitors (spec.Calls name args) = HaveSmallNumbers args

-- what items declare
abbrev pub declared_in : List spec.Item → List (List ℕ)
declared_in [] = []
declared_in (spec.Declares name value ∷ items) = name ∷ declared_in items
declared_in (item ∷ items) = declared_in items

-- a local that is declared is one of the names exactly where nothing writes into it
abbrev pub NamesFit : List (List ℕ) → ConstantNames → spec.Item → Type 0
NamesFit writes names (spec.Declares name value) = is_in names name ≡ not (among writes name)
NamesFit writes names item = ⊤
