-- Capacities and functions that seen items spell are shaped and writable.
use Rattle.std.proofs.Common.{ℕ, ◌≤◌, List, [], ◌∷◌, map, length, refl, arith}
use Rattle.std.specs.Prelude.{All}
use Rattle.std.proofs.lemmas.List.Elements.{All-cons}
use Rattle.c_layout.specs.Layout.{IsName}
use Rattle.c_tree.specs.declared.program.Slot.{Slot}
use Rattle.c_tree.specs.Bare as bare
use Rattle.c_tree.specs.Lined.{bare_slot, bare_function}
use Rattle.c_grammar.specs.declared.words.FixedWord.{FixedWord}
use Rattle.c_grammar.specs.declared.words.FixedWord.TheVariants as w
use Rattle.c_grammar.specs.Items.{What, Item, spelling}
use Rattle.c_grammar.specs.Levels.{Tall}
use Rattle.c_grammar.specs.Simple.{SpellsNumber}
use Rattle.c_grammar.specs.Declarations as d
use Rattle.c_grammar.specs.Declarations.{Capacities, SpellsPrototype, SpellsWaitPrototype, SpellsCapacities, SpellsParameter, SpellsParameters, SpellsVoid, Head, SpellsHead, Defined, SpellsFunction}
use Rattle.c_canonical.specs.Writable.{IsWritableSlot, IsWritableFunction}
use Rattle.c_canonical.specs.Shaped.{Usable, ShapedSlot, ShapedSlots}
use Rattle.c_canonical.specs.ShapedPrograms.{ShapedCapacities, ShapedHead, ShapedFunction}
use Rattle.c_canonical.proofs.Seen.{Seen}
use Rattle.c_canonical.proofs.Usable.{name_known}
use Rattle.c_canonical.proofs.UsableOutside.{function_name_known}
use Rattle.c_canonical.proofs.SpelledShaped.{WritableSlots, KnownSlots, static_seen, body_shaped}
use Rattle.c_canonical.proofs.KnownLists.{all_nil, all_one, Knows, commas_known, some_parts, IsSmallWhere, number_known}

-- ---- capacities

-- What is known of capacities, and of the items after them.
pub record KnownCapacities (Bounded : Type 0) (len : ℕ) (all : List ℕ) (rest : List Item) : Type 0 where
  pub shaped : ShapedCapacities len all
  pub small : All (IsSmallWhere Bounded) all
  pub len_small : IsSmallWhere Bounded len
  pub after : Seen Bounded rest

prototype_seen : (Bounded : Type 0) {x : FixedWord} {ts rest : List Item} → SpellsPrototype x ts rest → Seen Bounded ts → Seen Bounded rest
prototype_seen Bounded d.prototype s = s.1.1.1.1.1.1.1

wait_seen : (Bounded : Type 0) {ts rest : List Item} → SpellsWaitPrototype ts rest → Seen Bounded ts → Seen Bounded rest
wait_seen Bounded d.absent s = s
wait_seen Bounded d.present s = s.1.1.1.1.1.1.1.1.1.1.1.1.1.1

any_number : (len : ℕ) (all : List ℕ) → 1 ≤ length all → ShapedCapacities len all
any_number len [] f = absurd (omega (arith, f))
any_number len (first ∷ more) f = tt

pub capacities_known : {Bounded : Type 0} {ts rest : List Item} {x : Capacities} → SpellsCapacities ts rest x → Seen Bounded ts → KnownCapacities Bounded x.len x.values rest
capacities_known {Bounded = Bounded} (d.capacities {len = len} {all = all} h t g w) s =
    let v = commas_known (IsSmallWhere Bounded) SpellsNumber (number_known Bounded) h s.1.1.1.1.1.1.1 in
    record {
      shaped = any_number len all (some_parts h);
      small = v.0;
      len_small = s.1.1.1.0;
      after = wait_seen _ w (prototype_seen _ g (prototype_seen _ t v.1.1.1));
    }

-- ---- heads

abbrev FineName : Type 0 → List ℕ → Type 0
FineName Bounded n = Usable n × (Bounded → IsName n)

parameter_known : (Bounded : Type 0) → Knows Bounded (List ℕ) (FineName Bounded) SpellsParameter
parameter_known Bounded _ _ _ (d.parameter {a = a} {n = n} q) s = (name_known a n s.1.0 q, s.1.1)

parameters_known : (Bounded : Type 0) {ts rest : List Item} {all : List (List ℕ)} → SpellsParameters ts rest all → Seen Bounded ts → All (FineName Bounded) all × Seen Bounded rest
parameters_known Bounded d.nothing s = (all_nil (FineName Bounded), s)
parameters_known Bounded d.void s = (all_nil (FineName Bounded), s.1)
parameters_known Bounded (d.ints h) s = commas_known (FineName Bounded) SpellsParameter (parameter_known Bounded) h s

void_seen : (Bounded : Type 0) {ts rest : List Item} → SpellsVoid ts rest → Seen Bounded ts → Seen Bounded rest
void_seen Bounded d.absent s = s
void_seen Bounded d.present s = s.1

-- What is known of the head of a function, and of the items after it.
pub record KnownHead (Bounded : Type 0) (h : Head) (rest : List Item) : Type 0 where
  pub shaped : ShapedHead h.kind h.name h.params
  pub name : Bounded → IsName h.name
  pub params : Bounded → All IsName h.params
  pub after : Seen Bounded rest

main_named : IsName (spelling w.Main)
main_named = (name_known {Bounded = Unit {0}} (What.Fixed w.Main) (spelling w.Main) tt refl).1 tt

pub head_known : {Bounded : Type 0} {ts rest : List Item} {h : Head} → SpellsHead ts rest h → Seen Bounded ts → KnownHead Bounded h rest
head_known (d.main v) s = record { shaped = (refl, refl); name = λ u. main_named; params = λ u. all_nil IsName; after = (void_seen _ v s.1.1.1).1 }
head_known (d.int_function {a = a} {f = f} q h) s =
    let m = function_name_known a f s.1.0 q in
    let v = parameters_known _ h s.1.1.1 in
    record { shaped = (m.0, λ k d l. (v.0 k d l).0); name = m.1; params = λ u k d l. (v.0 k d l).1 u; after = v.1.1 }
head_known (d.void_function {a = a} {f = f} q h) s =
    let m = function_name_known a f s.1.0 q in
    let v = parameters_known _ h s.1.1.1 in
    record { shaped = (m.0, λ k d l. (v.0 k d l).0); name = m.1; params = λ u k d l. (v.0 k d l).1 u; after = v.1.1 }
head_known (d.thread_function {a = a} {b = b} {f = f} {x = x} q r) s =
    let m = function_name_known a f s.1.1.0 q in
    let n = name_known b x s.1.1.1.1.1.1.0 r in
    record { shaped = (m.0, n.0); name = m.1; params = λ u. all_one IsName x (n.1 u); after = s.1.1.1.1.1.1.1.1 }

-- ---- threads

abbrev pub FineSlot : Type 0 → bare.Slot → Type 0
FineSlot Bounded t = ShapedSlot t × (Bounded → IsWritableSlot t)

fine_by : (Bounded : Type 0) (ts : List bare.Slot) → ShapedSlots ts → (Bounded → WritableSlots ts) → All (FineSlot Bounded) ts
fine_by Bounded [] f g = all_nil (FineSlot Bounded)
fine_by Bounded (t ∷ ts) f g = All-cons (FineSlot Bounded) t ts (f.0, λ u. (g u).0) (fine_by Bounded ts f.1 (λ u. (g u).1))

pub fine_slots : {Bounded : Type 0} {all : List Slot} {rest : List Item} → KnownSlots Bounded all rest → All (FineSlot Bounded) (map bare_slot all)
fine_slots {Bounded = Bounded} {all = all} v = fine_by Bounded (map bare_slot all) v.shaped v.writable

-- ---- functions

abbrev pub FineFunction : Type 0 → bare.Function → Type 0
FineFunction Bounded f = ShapedFunction f × (Bounded → IsWritableFunction f)

-- What is known of a function and of the threads that it declares, and of the items after it.
pub record KnownFunction (Bounded : Type 0) (f : Defined) (rest : List Item) : Type 0 where
  pub fine : FineFunction Bounded (bare_function f.function)
  pub slots : All (FineSlot Bounded) (map bare_slot f.slots)
  pub after : Seen Bounded rest

pub function_known : {Bounded : Type 0} {ts rest : List Item} {f : Tall Defined} → SpellsFunction ts rest f → Seen Bounded ts → KnownFunction Bounded f.tree rest
function_known (d.function z h g) s =
    let head = head_known h (static_seen _ z s) in
    let body = body_shaped g head.after.1 in
    record {
      fine = ((head.shaped, body.shaped), λ u. (head.name u, head.params u, body.writable u));
      slots = fine_slots body.slots;
      after = body.slots.after.1;
    }
