-- Slots of threads, told from each other by their names and the values of their indices.
use Rattle.std.specs.Prelude.{ℕ, ℤ, Bool, false, ◌&&◌, List, bytes_eq, option_map, Some, None}
use Rattle.std.specs.declared.option.Option.{Option}
use Rattle.std.specs.Option.{option_eq, option_map_or}
use Rattle.std.specs.Ordering.{int_eq}
use Rattle.std.specs.List.{list_any}
use Rattle.std.specs.HashSet.{HashSet}
use denote.Ref.{Bor}
use Rattle.c_tree.specs.Expressions.{Expr, Place}
use Rattle.c_tree.specs.Values.{constant}

-- a name, and the value of an index where there is one
abbrev pub Key : Type 0
Key = List ℕ × Option ℤ

abbrev pub same_key : Key → Key → Bool
same_key a b = bytes_eq a.0 b.0 && option_eq int_eq a.1 b.1

-- the value of an index where there is one; none where it isn't constant
abbrev pub index_key : Option Expr → Option (Option ℤ)
index_key None = Some None
index_key (Some e) = option_map (λ value. Some value) (constant e)

abbrev pub key_of : Place → Option Key
key_of slot = option_map (λ index. (slot.name, index)) (index_key slot.index)

-- ---- what the code keeps

abbrev pub shown_key : Bor (List ℕ) × Option ℤ → Key
shown_key key = (key.0.now, key.1)

abbrev pub has_key : List (Bor (List ℕ) × Option ℤ) → Key → Bool
has_key keys key = list_any (λ k. same_key key (shown_key k)) keys

abbrev pub has_slot : {S : Type 0} → HashSet (Bor (List ℕ) × Option ℤ) S → Place → Bool
has_slot slots slot = option_map_or (λ key. has_key slots.keys key) (key_of slot) false
