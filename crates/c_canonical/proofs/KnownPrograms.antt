-- A program that seen items spell is shaped and writable.
use Rattle.std.proofs.Common.{ℕ, List, [], ◌∷◌, ◌++◌, map, refl, sym, subst, arith}
use Rattle.std.specs.Prelude.{All}
use Rattle.std.proofs.lemmas.List.{map-append}
use Rattle.std.proofs.lemmas.List.Elements.{All-append}
use Rattle.c_tree.specs.declared.program.Object.{Object}
use Rattle.c_tree.specs.declared.program.Slot.{Slot}
use Rattle.c_tree.specs.Bare as bare
use Rattle.c_tree.specs.Lined.{Program, bare_cell, bare_array, bare_object, bare_slot, bare_function, bare_program}
use Rattle.c_grammar.specs.Items.{Item}
use Rattle.c_grammar.specs.Levels.{Tall}
use Rattle.c_grammar.specs.Declarations as d
use Rattle.c_grammar.specs.Declarations.{Declared, scalars, arrays, Sort, Defined}
use Rattle.c_grammar.specs.Programs as programs
use Rattle.c_grammar.specs.Programs.{SpellsOuter, SpellsProgram, with_cells, with_objects, with_slots, with_function}
use Rattle.c_canonical.specs.Writable.{IsWritableProgram}
use Rattle.c_canonical.specs.ShapedPrograms.{ShapedCapacities, ShapedProgram}
use Rattle.c_canonical.proofs.Seen.{Seen}
use Rattle.c_canonical.proofs.SpelledShaped.{slots_shaped}
use Rattle.c_canonical.proofs.KnownLists.{all_nil, all_one, IsSmallWhere}
use Rattle.c_canonical.proofs.KnownDeclarations.{FineCell, FineArray, FineObject, cells_known, objects_known}
use Rattle.c_canonical.proofs.KnownFunctions.{capacities_known, FineSlot, fine_slots, FineFunction, function_known}

-- A program that is shaped, and writable where `Bounded` holds, by its parts.
pub record FineProgram (Bounded : Type 0) (p : bare.Program) : Type 0 where
  pub ints : All (FineCell Bounded) p.ints
  pub arrays : All (FineArray Bounded) p.arrays
  pub mutexes : All (FineObject Bounded) p.mutexes
  pub conds : All (FineObject Bounded) p.conds
  pub threads : All (FineSlot Bounded) p.threads
  pub capacities : ShapedCapacities p.cap_len p.monitors
  pub monitors : All (IsSmallWhere Bounded) p.monitors
  pub cap_len : IsSmallWhere Bounded p.cap_len
  pub functions : All (FineFunction Bounded) p.functions

both_mapped : {X Y : Type 0} (P : Y → Type 0) (f : X → Y) (xs ys : List X) → All P (map f xs) → All P (map f ys) → All P (map f (xs ++ ys))
both_mapped P f xs ys h g = subst (All P) (sym (map-append f xs ys)) (All-append P (map f xs) (map f ys) h g)

-- ---- what a program grows by

with_cells_fine : (Bounded : Type 0) (p : Tall Program) (all : List Declared) → FineProgram Bounded (bare_program p.tree) → All (FineCell Bounded) (map bare_cell (scalars all)) → All (FineArray Bounded) (map bare_array (arrays all))
    → FineProgram Bounded (bare_program (with_cells p all).tree)
with_cells_fine Bounded p all f c a = record {
  ints = both_mapped (FineCell Bounded) bare_cell p.tree.ints (scalars all) f.ints c;
  arrays = both_mapped (FineArray Bounded) bare_array p.tree.arrays (arrays all) f.arrays a;
  mutexes = f.mutexes;
  conds = f.conds;
  threads = f.threads;
  capacities = f.capacities;
  monitors = f.monitors;
  cap_len = f.cap_len;
  functions = f.functions;
}

with_objects_fine : (Bounded : Type 0) (p : Tall Program) (o : Sort) (all : List Object) → FineProgram Bounded (bare_program p.tree) → All (FineObject Bounded) (map bare_object all)
    → FineProgram Bounded (bare_program (with_objects p o all).tree)
with_objects_fine Bounded p d.mutex all f v = record {
  ints = f.ints;
  arrays = f.arrays;
  mutexes = both_mapped (FineObject Bounded) bare_object p.tree.mutexes all f.mutexes v;
  conds = f.conds;
  threads = f.threads;
  capacities = f.capacities;
  monitors = f.monitors;
  cap_len = f.cap_len;
  functions = f.functions;
}
with_objects_fine Bounded p d.condition all f v = record {
  ints = f.ints;
  arrays = f.arrays;
  mutexes = f.mutexes;
  conds = both_mapped (FineObject Bounded) bare_object p.tree.conds all f.conds v;
  threads = f.threads;
  capacities = f.capacities;
  monitors = f.monitors;
  cap_len = f.cap_len;
  functions = f.functions;
}

with_slots_fine : (Bounded : Type 0) (p : Tall Program) (all : List Slot) → FineProgram Bounded (bare_program p.tree) → All (FineSlot Bounded) (map bare_slot all) → FineProgram Bounded (bare_program (with_slots p all).tree)
with_slots_fine Bounded p all f v = record {
  ints = f.ints;
  arrays = f.arrays;
  mutexes = f.mutexes;
  conds = f.conds;
  threads = both_mapped (FineSlot Bounded) bare_slot p.tree.threads all f.threads v;
  capacities = f.capacities;
  monitors = f.monitors;
  cap_len = f.cap_len;
  functions = f.functions;
}

with_function_fine : (Bounded : Type 0) (p : Tall Program) (g : Tall Defined) → FineProgram Bounded (bare_program p.tree) → FineFunction Bounded (bare_function g.tree.function) → All (FineSlot Bounded) (map bare_slot g.tree.slots)
    → FineProgram Bounded (bare_program (with_function p g).tree)
with_function_fine Bounded p g f v w = record {
  ints = f.ints;
  arrays = f.arrays;
  mutexes = f.mutexes;
  conds = f.conds;
  threads = both_mapped (FineSlot Bounded) bare_slot p.tree.threads g.tree.slots f.threads w;
  capacities = f.capacities;
  monitors = f.monitors;
  cap_len = f.cap_len;
  functions = both_mapped (FineFunction Bounded) bare_function p.tree.functions (g.tree.function ∷ []) f.functions (all_one (FineFunction Bounded) (bare_function g.tree.function) v);
}

-- What is known of the program that stands in front of these items.
record Known (Bounded : Type 0) (p : Tall Program) (rest : List Item) : Type 0 where
  fine : FineProgram Bounded (bare_program p.tree)
  after : Seen Bounded rest

outer_known : {Bounded : Type 0} {start : Tall Program} {ts rest : List Item} {p : Tall Program} → SpellsOuter start ts rest p → Seen Bounded ts → FineProgram Bounded (bare_program start.tree) → Known Bounded p rest
outer_known programs.none s f = record { fine = f; after = s }
outer_known (programs.then_definition h) s f = let q = outer_known h s f in record { fine = q.fine; after = q.after.1 }
outer_known (programs.then_cells {p = p} {all = all} h x) s f =
    let q = outer_known h s f in
    let v = cells_known x q.after in
    record { fine = with_cells_fine _ p all q.fine v.ints v.arrays; after = v.after }
outer_known (programs.then_objects {p = p} {o = o} {all = all} h x) s f =
    let q = outer_known h s f in
    let v = objects_known _ x q.after in
    record { fine = with_objects_fine _ p o all q.fine v.0; after = v.1 }
outer_known (programs.then_slots {p = p} {all = all} h x) s f =
    let q = outer_known h s f in
    let v = slots_shaped x q.after in
    record { fine = with_slots_fine _ p all q.fine (fine_slots v); after = v.after }
outer_known (programs.then_function {p = p} {f = g} h x) s f =
    let q = outer_known h s f in
    let v = function_known x q.after in
    record { fine = with_function_fine _ p g q.fine v.fine v.slots; after = v.after }

-- ---- programs

empty_fine : (Bounded : Type 0) (len : ℕ) (all : List ℕ) → ShapedCapacities len all → All (IsSmallWhere Bounded) all → IsSmallWhere Bounded len
    → FineProgram Bounded (record { ints = []; arrays = []; mutexes = []; conds = []; threads = []; monitors = all; functions = []; cap_len = len })
empty_fine Bounded len all c m l = record {
  ints = all_nil (FineCell Bounded);
  arrays = all_nil (FineArray Bounded);
  mutexes = all_nil (FineObject Bounded);
  conds = all_nil (FineObject Bounded);
  threads = all_nil (FineSlot Bounded);
  capacities = c;
  monitors = m;
  cap_len = l;
  functions = all_nil (FineFunction Bounded);
}

pub program_known : {Bounded : Type 0} {end : ℕ} {ts : List Item} {p : Tall Program} → SpellsProgram end ts p → Seen Bounded ts → FineProgram Bounded (bare_program p.tree)
program_known {Bounded = Bounded} (programs.plain h) s = (outer_known h s (empty_fine Bounded 0 [] refl (all_nil (IsSmallWhere Bounded)) (λ u. omega arith))).fine
program_known (programs.with_capacities {c = x} h g) s =
    let c = capacities_known h s in (outer_known g c.after (empty_fine _ x.len x.values c.shaped c.small c.len_small)).fine

pub shaped : {Bounded : Type 0} {p : bare.Program} → FineProgram Bounded p → ShapedProgram p
shaped f = record {
  ints = λ k d l. (f.ints k d l).0;
  arrays = λ k d l. (f.arrays k d l).0;
  mutexes = λ k d l. (f.mutexes k d l).0;
  conds = λ k d l. (f.conds k d l).0;
  threads = λ k d l. (f.threads k d l).0;
  capacities = f.capacities;
  functions = λ k d l. (f.functions k d l).0;
}

pub writable : {Bounded : Type 0} {p : bare.Program} → FineProgram Bounded p → Bounded → IsWritableProgram p
writable f u = record {
  ints = λ k d l. (f.ints k d l).1 u;
  arrays = λ k d l. (f.arrays k d l).1 u;
  mutexes = λ k d l. (f.mutexes k d l).1 u;
  conds = λ k d l. (f.conds k d l).1 u;
  threads = λ k d l. (f.threads k d l).1 u;
  monitors = λ k d l. f.monitors k d l u;
  functions = λ k d l. (f.functions k d l).1 u;
  cap_len = f.cap_len u;
}
