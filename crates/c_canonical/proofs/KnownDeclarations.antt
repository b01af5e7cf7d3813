-- Declarations that seen items spell are shaped and writable.
use Rattle.std.proofs.Common.{ℕ, zero, suc, ◌≤◌, ℤ, pos, neg_ℤ, List, [], ◌∷◌, map, refl, arith}
use Rattle.std.specs.Prelude.{All}
use Rattle.std.proofs.lemmas.List.Elements.{All-cons, All-head, All-tail}
use Rattle.c_lexer.specs.Words.{largest}
use Rattle.c_tree.specs.declared.program.Object.{Object}
use Rattle.c_tree.specs.Bare as bare
use Rattle.c_tree.specs.Lined.{bare_cell, bare_array, bare_object}
use Rattle.c_grammar.specs.Items.{Item}
use Rattle.c_grammar.specs.Declarations as d
use Rattle.c_grammar.specs.Declarations.{SpellsValue, Declared, scalars, arrays, SpellsCell, SpellsCells, Sort, SpellsInitial, SpellsObject, SpellsObjects}
use Rattle.c_canonical.specs.Writable.{IsWritableValue, IsWritableCell, IsWritableArray, IsWritableObject}
use Rattle.c_canonical.specs.ShapedPrograms.{ShapedCell, ShapedArray, ShapedObject}
use Rattle.c_canonical.proofs.Seen.{Seen}
use Rattle.c_canonical.proofs.KnownLists.{all_nil, Knows, commas_known, some_parts}
use Rattle.c_canonical.proofs.Usable.{name_known}
use Rattle.c_canonical.proofs.UsableOutside.{cell_name_known}
use Rattle.c_canonical.proofs.SpelledShaped.{static_seen}

-- ---- numbers

negative_known : (k : ℕ) → k ≤ largest → IsWritableValue (neg_ℤ (pos k))
negative_known zero f = f
negative_known (suc k) f = f

abbrev FineValue : Type 0 → ℤ → Type 0
FineValue Bounded v = Bounded → IsWritableValue v

value_known : (Bounded : Type 0) → Knows Bounded ℤ (FineValue Bounded) SpellsValue
value_known Bounded _ _ _ d.plain s = s
value_known Bounded _ _ _ (d.negative {k = k}) s = (λ u. negative_known k (s.1.0 u), s.1.1)

-- ---- scalars and arrays

abbrev pub FineCell : Type 0 → bare.Cell → Type 0
FineCell Bounded x = ShapedCell x × (Bounded → IsWritableCell x)

abbrev pub FineArray : Type 0 → bare.Array → Type 0
FineArray Bounded x = ShapedArray x × (Bounded → IsWritableArray x)

abbrev FineDeclared : Type 0 → Declared → Type 0
FineDeclared Bounded (d.Scalar x) = FineCell Bounded (bare_cell x)
FineDeclared Bounded (d.Several x) = FineArray Bounded (bare_array x)

cell_known : (Bounded : Type 0) → Knows Bounded Declared (FineDeclared Bounded) SpellsCell
cell_known Bounded _ _ _ (d.scalar {a = a} {n = n} q) s = let m = cell_name_known a n s.0 q in ((m.0, λ u. (m.1 u, omega arith)), s.1)
cell_known Bounded _ _ _ (d.scalar_by {a = a} {n = n} q h) s =
    let m = cell_name_known a n s.0 q in
    let v = value_known Bounded _ _ _ h s.1.1 in
    ((m.0, λ u. (m.1 u, v.0 u)), v.1)
cell_known Bounded _ _ _ (d.array {a = a} {n = n} q) s =
    let m = cell_name_known a n s.0 q in ((m.0, λ u. (m.1 u, s.1.1.0 u, all_nil IsWritableValue)), s.1.1.1.1)
cell_known Bounded _ _ _ (d.array_by {a = a} {n = n} q h) s =
    let m = cell_name_known a n s.0 q in
    let v = commas_known (FineValue Bounded) SpellsValue (value_known Bounded) h s.1.1.1.1.1.1 in
    ((m.0, λ u. (m.1 u, s.1.1.0 u, λ k d l. v.0 k d l u)), v.1.1)

-- What is known of declarations, and of the items after them.
pub record KnownCells (Bounded : Type 0) (all : List Declared) (rest : List Item) : Type 0 where
  pub ints : All (FineCell Bounded) (map bare_cell (scalars all))
  pub arrays : All (FineArray Bounded) (map bare_array (arrays all))
  pub after : Seen Bounded rest

fine_cells : (Bounded : Type 0) (all : List Declared) → All (FineDeclared Bounded) all → All (FineCell Bounded) (map bare_cell (scalars all))
fine_cells Bounded [] f = all_nil (FineCell Bounded)
fine_cells Bounded (d.Scalar x ∷ more) f =
    All-cons (FineCell Bounded) (bare_cell x) (map bare_cell (scalars more)) (All-head (FineDeclared Bounded) (d.Scalar x) more f) (fine_cells Bounded more (All-tail (FineDeclared Bounded) (d.Scalar x) more f))
fine_cells Bounded (d.Several x ∷ more) f = fine_cells Bounded more (All-tail (FineDeclared Bounded) (d.Several x) more f)

fine_arrays : (Bounded : Type 0) (all : List Declared) → All (FineDeclared Bounded) all → All (FineArray Bounded) (map bare_array (arrays all))
fine_arrays Bounded [] f = all_nil (FineArray Bounded)
fine_arrays Bounded (d.Scalar x ∷ more) f = fine_arrays Bounded more (All-tail (FineDeclared Bounded) (d.Scalar x) more f)
fine_arrays Bounded (d.Several x ∷ more) f =
    All-cons (FineArray Bounded) (bare_array x) (map bare_array (arrays more)) (All-head (FineDeclared Bounded) (d.Several x) more f) (fine_arrays Bounded more (All-tail (FineDeclared Bounded) (d.Several x) more f))

pub cells_known : {Bounded : Type 0} {ts rest : List Item} {all : List Declared} → SpellsCells ts rest all → Seen Bounded ts → KnownCells Bounded all rest
cells_known {Bounded = Bounded} (d.cells {all = all} z h) s =
    let v = commas_known (FineDeclared Bounded) SpellsCell (cell_known Bounded) h (static_seen _ z s).1 in
    record { ints = fine_cells Bounded all v.0; arrays = fine_arrays Bounded all v.0; after = v.1.1 }

-- ---- mutexes and conditions

abbrev pub FineObject : Type 0 → bare.Object → Type 0
FineObject Bounded x = ShapedObject x × (Bounded → IsWritableObject x)

initial_known : (Bounded : Type 0) (o : Sort) → Knows Bounded (Unit {0}) (λ u. Unit {0}) (SpellsInitial o)
initial_known Bounded o _ _ _ d.initial s = (tt, s.1)

object_known : (Bounded : Type 0) (o : Sort) → Knows Bounded Object (λ x. FineObject Bounded (bare_object x)) (SpellsObject o)
object_known Bounded o _ _ _ (d.single {a = a} {n = n} q) s = let m = name_known a n s.0 q in (((m.0, refl), λ u. (m.1 u, tt)), s.1)
object_known Bounded o _ _ _ (d.single_ready {a = a} {n = n} q) s = let m = name_known a n s.0 q in (((m.0, refl), λ u. (m.1 u, tt)), s.1.1.1)
object_known Bounded o _ _ _ (d.several {a = a} {n = n} q) s = let m = name_known a n s.0 q in (((m.0, refl), λ u. (m.1 u, s.1.1.0 u)), s.1.1.1.1)
object_known Bounded o _ _ _ (d.several_ready {a = a} {n = n} q h) s =
    let m = name_known a n s.0 q in
    let v = commas_known (λ u. Unit {0}) (SpellsInitial o) (initial_known Bounded o) h s.1.1.1.1.1.1 in
    (((m.0, some_parts h), λ u. (m.1 u, s.1.1.0 u)), v.1.1)

all_mapped : {X Y : Type 0} (P : Y → Type 0) (f : X → Y) (xs : List X) → All (λ x. P (f x)) xs → All P (map f xs)
all_mapped P f [] h = all_nil P
all_mapped P f (x ∷ xs) h = All-cons P (f x) (map f xs) (All-head (λ x. P (f x)) x xs h) (all_mapped P f xs (All-tail (λ x. P (f x)) x xs h))

pub objects_known : (Bounded : Type 0) {o : Sort} {ts rest : List Item} {all : List Object} → SpellsObjects o ts rest all → Seen Bounded ts → All (FineObject Bounded) (map bare_object all) × Seen Bounded rest
objects_known Bounded (d.objects {o = o} {all = all} z h) s =
    let v = commas_known (λ x. FineObject Bounded (bare_object x)) (SpellsObject o) (object_known Bounded o) h (static_seen _ z s).1 in
    (all_mapped (FineObject Bounded) bare_object all v.0, v.1.1)
