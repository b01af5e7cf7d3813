-- What stands outside functions takes tokens that are no definitions, and doesn't depend on those behind it.
use Rattle.std.specs.Prelude.{List}
use Rattle.c_tree.specs.declared.program.Object.{Object}
use Rattle.c_tree.specs.declared.program.Slot.{Slot}
use Rattle.c_grammar.specs.Items.{Item}
use Rattle.c_grammar.specs.Levels.{Tall}
use Rattle.c_grammar.specs.Statements.{SpellsSlots}
use Rattle.c_grammar.specs.Declarations.{Declared, SpellsCells, Sort, SpellsObjects, Capacities, SpellsCapacities, Defined, SpellsFunction}
use Rattle.c_fronts.specs.Fronts.{Takes}

abbrev pub CellsTake : Type 0
CellsTake = (before after : List Item) (all : List Declared) → SpellsCells before after all → Takes (λ b c. SpellsCells b c all) before after

abbrev pub ObjectsTake : Type 0
ObjectsTake = (o : Sort) (before after : List Item) (all : List Object) → SpellsObjects o before after all → Takes (λ b c. SpellsObjects o b c all) before after

abbrev pub SlotsTake : Type 0
SlotsTake = (before after : List Item) (all : List Slot) → SpellsSlots before after all → Takes (λ b c. SpellsSlots b c all) before after

abbrev pub CapacitiesTake : Type 0
CapacitiesTake = (before after : List Item) (x : Capacities) → SpellsCapacities before after x → Takes (λ b c. SpellsCapacities b c x) before after

abbrev pub FunctionsTake : Type 0
FunctionsTake = (before after : List Item) (f : Tall Defined) → SpellsFunction before after f → Takes (λ b c. SpellsFunction b c f) before after
