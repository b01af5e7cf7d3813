-- Slots that are kept in a set.
use Rattle.std.proofs.Common.{◌≡◌, ℕ, ℤ, Bool, true, false, ◌||◌, ◌&&◌, cond, List, [], ◌∷◌, ◌++◌, refl, sym, ap, ◌∙◌, bytes_eq, option_map, Option, None, Some}
use Rattle.std.specs.Option.{option_map_or}
use Rattle.std.specs.Cmp.{IsEquivalence, and_equiv, on_equiv}
use Rattle.std.specs.Cmp.Lexicographic.{lists_equiv, options_equiv}
use Rattle.std.proofs.lemmas.Cmp.{int_eq_equiv, nat_eq_equiv}
use Rattle.std.proofs.lemmas.List.Folds.{list_any-append}
use Rattle.std.specs.List.{list_any}
use denote.Ref.{Bor}
use Rattle.c_tree.specs.Values.{constant}
use Rattle.c_tree.specs.Expressions.{Expr, Place}
use Rattle.c_tree.specs.Numbering.{same_slot, same_index, same_constant}
use Rattle.c_tree.specs.Lined.{Stmt, Create, Join}
use Rattle.c_check.specs.Own.{create_added, join_added}
use Rattle.c_check.specs.Slots.{Key, same_key, shown_key, index_key, key_of, has_key}

abbrev Stored : Type 0
Stored = Bor (List ℕ) × Option ℤ

laws : IsEquivalence same_key
laws = and_equiv (on_equiv (λ k. k.0) (lists_equiv nat_eq_equiv)) (on_equiv (λ k. k.1) (options_equiv int_eq_equiv))

-- ---- keys in a set

swapped : (a b : Bool) → (a || (b || false)) ≡ (b || a)
swapped true true = refl
swapped true false = refl
swapped false true = refl
swapped false false = refl

with_last : (keys : List Stored) (key : Stored) (n : Key) → has_key (keys ++ key ∷ []) n ≡ (same_key n (shown_key key) || has_key keys n)
with_last keys key n = list_any-append (λ k. same_key n (shown_key k)) keys (key ∷ []) ∙ swapped (has_key keys n) (same_key n (shown_key key))

alike : (keys : List Stored) (k n : Key) → same_key n k ≡ true → has_key keys n ≡ has_key keys k
alike keys k n e = λ i. list_any (λ s. laws.congr n k (shown_key s) e i) keys

found : (keys : List Stored) (k n : Key) → has_key keys k ≡ true → has_key keys n ≡ (same_key n k || has_key keys n)
found keys k n h = go (same_key n k) refl
  where
    go : (b : Bool) → same_key n k ≡ b → has_key keys n ≡ (b || has_key keys n)
    go true e = alike keys k n e ∙ h
    go false e = refl

entered : (keys : List Stored) (key : Stored) (n : Key) → has_key (cond (has_key keys (shown_key key)) keys (keys ++ key ∷ [])) n ≡ (same_key n (shown_key key) || has_key keys n)
entered keys key n = go (has_key keys (shown_key key)) refl
  where
    go : (b : Bool) → has_key keys (shown_key key) ≡ b → has_key (cond b keys (keys ++ key ∷ [])) n ≡ (same_key n (shown_key key) || has_key keys n)
    go true e = found keys (shown_key key) n e
    go false e = with_last keys key n

-- ---- slots and their keys

and_false : (b : Bool) → false ≡ (b && false)
and_false true = refl
and_false false = refl

-- a slot with a key is the slot of that key, and one without is like none
abbrev is_of : Option Key → Option Key → Bool
is_of stored asked = option_map_or (λ k. option_map_or (λ n. same_key n k) asked false) stored false

same_values : (m n : List ℕ) (x y : Option ℤ)
    → is_of (option_map (λ i. (m, i)) (option_map (λ v. Some v) x)) (option_map (λ i. (n, i)) (option_map (λ v. Some v) y)) ≡ (bytes_eq m n && same_constant x y)
same_values m n None y = and_false (bytes_eq m n)
same_values m n (Some a) None = and_false (bytes_eq m n)
same_values m n (Some a) (Some b) = laws.symm (n, Some b) (m, Some a)

no_value : (m n : List ℕ) (y : Option ℤ) → is_of (Some (m, None)) (option_map (λ i. (n, i)) (option_map (λ v. Some v) y)) ≡ (bytes_eq m n && false)
no_value m n None = and_false (bytes_eq m n)
no_value m n (Some b) = laws.symm (n, Some b) (m, None)

value_of_none : (m n : List ℕ) (x : Option ℤ) → is_of (option_map (λ i. (m, i)) (option_map (λ v. Some v) x)) (Some (n, None)) ≡ (bytes_eq m n && false)
value_of_none m n None = and_false (bytes_eq m n)
value_of_none m n (Some a) = laws.symm (n, None) (m, Some a)

same_indices : (m n : List ℕ) (x y : Option Expr)
    → is_of (option_map (λ i. (m, i)) (index_key x)) (option_map (λ i. (n, i)) (index_key y)) ≡ (bytes_eq m n && same_index x y)
same_indices m n None None = laws.symm (n, None) (m, None)
same_indices m n None (Some f) = no_value m n (constant f)
same_indices m n (Some e) None = value_of_none m n (constant e)
same_indices m n (Some e) (Some f) = same_values m n (constant e) (constant f)

same_slots : (a b : Place) → is_of (key_of a) (key_of b) ≡ same_slot a b
same_slots a b = same_indices a.name b.name a.index b.index

abbrev has : List Stored → Option Key → Bool
has keys asked = option_map_or (λ n. has_key keys n) asked false

-- a slot that is kept is there, and the others as before
pub kept : (keys new : List Stored) (key : Stored) (slot other : Place) → key_of slot ≡ Some (shown_key key)
    → new ≡ cond (has_key keys (shown_key key)) keys (keys ++ key ∷ []) → has new (key_of other) ≡ (same_slot slot other || has keys (key_of other))
kept keys new key slot other is e = ap (λ ks. has ks (key_of other)) e ∙ go (key_of other) (ap (λ k. is_of k (key_of other)) (sym is) ∙ same_slots slot other)
  where
    go : (asked : Option Key) → is_of (Some (shown_key key)) asked ≡ same_slot slot other
        → has (cond (has_key keys (shown_key key)) keys (keys ++ key ∷ [])) asked ≡ (same_slot slot other || has keys asked)
    go None s = ap (λ b. b || false) s
    go (Some n) s = entered keys key n ∙ ap (λ b. b || has_key keys n) s

-- one without a key is like none
pub passed : (keys : List Stored) (slot other : Place) → key_of slot ≡ None → has keys (key_of other) ≡ (same_slot slot other || has keys (key_of other))
passed keys slot other is = ap (λ b. b || has keys (key_of other)) (ap (λ k. is_of k (key_of other)) (sym is) ∙ same_slots slot other)

-- ---- the slots of creates and joins

same_tests : (f g : Place → Bool) → ((slot : Place) → f slot ≡ g slot) → f ≡ g
same_tests f g h = λ i slot. h slot i

pub created_more : (before after : Place → Bool) (slot : Place) (s : Stmt) (line : ℕ) (function : List ℕ) (arg : Expr)
    → ((other : Place) → after other ≡ (same_slot slot other || before other)) → s ≡ Create line slot function arg → after ≡ create_added before s
created_more before after slot s line function arg h is = same_tests _ _ h ∙ ap (create_added before) (sym is)

pub joined_more : (before after : Place → Bool) (slot : Place) (s : Stmt) (line : ℕ)
    → ((other : Place) → after other ≡ (same_slot slot other || before other)) → s ≡ Join line slot → after ≡ join_added before s
joined_more before after slot s line h is = same_tests _ _ h ∙ ap (join_added before) (sym is)
