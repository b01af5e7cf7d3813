-- Creates and joins are of main's own list, in fixed slots.
use Rattle.std.proofs.Common.{Bool, List, ap, false, not, refl, sym, true, ℕ, ℤ, ◌&&◌, ◌||◌, ◌∙◌, ◌≡◌}
use Rattle.std.specs.Prelude.{None, Some, if◌then◌else◌, is_some, option_and_then}
use Rattle.std.specs.List.{list_any}
use Rattle.std.proofs.lemmas.Slice.Eq.{bytes_eq-Decides}
use Rattle.std.specs.declared.option.Option.{Option}
use Rattle.std.specs.Ordering.{int_eq}
use Rattle.std.proofs.lemmas.Cmp.{int_eq_equiv}
use Rattle.c_tree.specs.declared.program.Mode.{Mode}
use Rattle.c_tree.specs.Lined.{Create, Join, Program}
use Rattle.c_tree.specs.Expressions.{Expr, Place}
use Rattle.c_tree.specs.Numbering.{index_within, same_constant, same_index, same_slot}
use Rattle.c_tree.specs.Values.{constant}
use Rattle.c_rules.specs.declared.rule.Rule.TheVariants as rule
use Rattle.c_rules.specs.Sites.{Site, is_main, sites}
use Rattle.c_rules.specs.Threads.{creates_in, has_name, is_fixed, is_fixed_index, is_unfixed_create, is_unfixed_join, joins_in, number_of, thread_len}
use Rattle.c_rules.specs.Formed.{KeepsRules}
use Rattle.c_rules.specs.Meaning.{meaning}
use Rattle.c_rules.proofs.Members.{In}
use Rattle.rule_facts.proofs.Tests.{none_there}

pub and_parts : (a b c : Bool) → (a && b && c) ≡ true → (a ≡ true) × (b ≡ true) × (c ≡ true)
and_parts true true c e = (refl, refl, e)
and_parts true false c e = absurd (cc e)
and_parts false b c e = absurd (cc e)

pub not_or : (a b : Bool) → (not a || b) ≡ false → (a ≡ true) × (b ≡ false)
not_or true b e = (refl, e)
not_or false b e = absurd (cc e)

pub not_or_more : (a b c : Bool) → (not a || not b || c) ≡ false → a ≡ true
not_or_more true b c e = refl
not_or_more false b c e = absurd (cc e)

pub create_free : (p : Program) (mode : Mode) → KeepsRules p mode → (x : Site) → In x (sites p) → (line : ℕ) (slot : Place) (name : List ℕ) (arg : Expr) → x.stmt ≡ Create line slot name arg
    → is_unfixed_create p x (Create line slot name arg) ≡ false
create_free p mode keeps x at line slot name arg is = ap (is_unfixed_create p x) (sym is) ∙ none_there (λ y. is_unfixed_create p y y.stmt) p (keeps rule.CreateNotFixed) x at

pub join_free : (p : Program) (mode : Mode) → KeepsRules p mode → (x : Site) → In x (sites p) → (line : ℕ) (slot : Place) → x.stmt ≡ Join line slot → is_unfixed_join p x (Join line slot) ≡ false
join_free p mode keeps x at line slot is = ap (is_unfixed_join p x) (sym is) ∙ none_there (λ y. is_unfixed_join p y y.stmt) p (keeps rule.JoinNotFixed) x at

-- ---- slots

int_same : (z : ℤ) → int_eq z z ≡ true
int_same z = int_eq_equiv.refl z

constant_same : (o : Option ℤ) → is_some o ≡ true → same_constant o o ≡ true
constant_same None e = absurd (cc e)
constant_same (Some z) e = int_same z

number_is : (e : Expr) (len : ℕ) → is_some (option_and_then (index_within len) (number_of e)) ≡ true → is_some (constant e) ≡ true
number_is e len h = go (has_name e) h
  where
    inner : (o : Option ℤ) → is_some (option_and_then (index_within len) o) ≡ true → is_some o ≡ true
    inner None h = absurd (cc h)
    inner (Some z) h = refl

    go : (b : Bool) → is_some (option_and_then (index_within len) (if b then None else constant e)) ≡ true → is_some (constant e) ≡ true
    go true h = absurd (cc h)
    go false h = inner (constant e) h

pub slot_itself : (slot : Place) (len : ℕ) → is_fixed_index len slot.index ≡ true → same_slot slot slot ≡ true
slot_itself slot len h = ap (λ b. b && same_index slot.index slot.index) ((bytes_eq-Decides slot.name slot.name).1 refl) ∙ go slot.index h
  where
    go : (i : Option Expr) → is_fixed_index len i ≡ true → same_index i i ≡ true
    go None e = refl
    go (Some e) h = constant_same (constant e) (number_is e len h)

-- a create statement: it is of main and of its own list, its slot is itself, and none before has it
pub record FixedCreate (x : Site) (slot : Place) : Type 0 where
  pub main : is_main x.function ≡ true
  pub own : x.own ≡ true
  pub itself : same_slot slot slot ≡ true
  pub first : list_any (creates_in slot) x.before ≡ false

pub fixed_create : (p : Program) (mode : Mode) → KeepsRules p mode → (x : Site) → In x (sites p) → (line : ℕ) (slot : Place) (name : List ℕ) (arg : Expr) → x.stmt ≡ Create line slot name arg → FixedCreate x slot
fixed_create p mode keeps x at line slot name arg is =
    let parts = not_or (is_fixed p x slot) (list_any (creates_in slot) x.before) (create_free p mode keeps x at line slot name arg is) in
    let three = and_parts (is_main x.function) x.own (is_fixed_index (thread_len (meaning p x slot.name)) slot.index) parts.0 in
    record { main = three.0; own = three.1; itself = slot_itself slot (thread_len (meaning p x slot.name)) three.2; first = parts.1 }

pub joined_main : (p : Program) (mode : Mode) → KeepsRules p mode → (x : Site) → In x (sites p) → (line : ℕ) (slot : Place) → x.stmt ≡ Join line slot → (is_main x.function ≡ true) × (x.own ≡ true)
joined_main p mode keeps x at line slot is =
    let so = not_or_more (is_fixed p x slot) (list_any (creates_in slot) x.before) (list_any (joins_in slot) x.before) (join_free p mode keeps x at line slot is) in
    let three = and_parts (is_main x.function) x.own (is_fixed_index (thread_len (meaning p x slot.name)) slot.index) so in (three.0, three.1)
