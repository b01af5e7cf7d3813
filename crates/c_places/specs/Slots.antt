-- Slots of threads as they are kept.
use Rattle.std.specs.Prelude.{ℕ, ℤ, Bool, true, false, ◌&&◌, List, map, bytes_eq, Some, None, option_map}
use Rattle.std.specs.declared.option.Option.{Option}
use Rattle.c_tree.specs.Expressions.{Place}
use Rattle.c_tree.specs.Values.{constant}
use Rattle.c_tree.specs.Bare.{Stmt, Create}
use Rattle.c_tree.specs.Numbering.{Creation, same_constant}
use Rattle.c_places.specs.declared.creations.Slot as declared

-- a slot: its name and its index, of which a number is known where it is constant
pub record Slot : Type 0 where
  pub name : List ℕ
  pub index : Option (Option ℤ)

abbrev pub slot_at : Place → Slot
slot_at place = record { name = place.name; index = option_map constant place.index }

abbrev pub same_index : Option (Option ℤ) → Option (Option ℤ) → Bool
same_index None None = true
same_index (Some a) (Some b) = same_constant a b
same_index a b = false

abbrev pub same : Slot → Slot → Bool
same a b = bytes_eq a.name b.name && same_index a.index b.index

-- a slot as it is kept
abbrev pub kept : declared.Slot → Slot
kept s = record { name = s.name.items; index = s.index }

-- the slot of a create statement
abbrev pub created_slot : Stmt → Option Place
created_slot (Create slot function arg) = Some slot
created_slot s = None

-- the slots of create statements
abbrev pub slots_of : List Creation → List Slot
slots_of cs = map (λ c. slot_at c.slot) cs
