-- The canonical lines of scalars, arrays and threads spell them.
use Rattle.std.proofs.Common.{ℕ, ℤ, pos, negsuc, List, [], ◌∷◌, ◌++◌, map, Option, Some, None}
use Rattle.std.specs.Prelude.{All}
use Rattle.c_lexer.specs.declared.token.Sign.{Sign}
use Rattle.c_lexer.specs.declared.token.Sign.TheVariants as s
use Rattle.c_layout.specs.Layout as layout
use Rattle.c_tree.specs.Bare.{Cell, Array, Slot}
use Rattle.c_grammar.specs.Items.{Item, sign}
use Rattle.c_grammar.specs.Commas.{Commas, one}
use Rattle.c_grammar.specs.Statements as st
use Rattle.c_grammar.specs.Statements.{SpellsSlots}
use Rattle.c_grammar.specs.Declarations as d
use Rattle.c_grammar.specs.Declarations.{Scalar, Several, SpellsValue, SpellsCells}
use Rattle.c_canonical.specs.Expressions.{separated}
use Rattle.c_canonical.specs.Programs.{value, cell, array, slot}
use Rattle.c_canonical.specs.Shown.{Shows, nothing, shown, unseen}
use Rattle.c_canonical.specs.Shaped.{Usable, ShapedSlot}
use Rattle.c_canonical.specs.ShapedPrograms.{UsableCell, ShapedCell, ShapedArray}
use Rattle.c_canonical.proofs.ShownLists.{closed, EachIs, separated_spelled}

-- ---- the ends of lines

-- What a part shows before the last sign of its line.
pub record Ended (inside : List layout.Item) (x : Sign) (ts rest : List Item) : Type 0 where
  pub line : ℕ
  pub part : Shows inside ts (sign line x ∷ rest)

pub ended : (inside : List layout.Item) (x : Sign) {ts rest : List Item} → Shows (inside ++ layout.sign x ∷ layout.newline ∷ []) ts rest → Ended inside x ts rest
ended inside x h = let c = closed inside x (layout.newline ∷ []) h in by c.part c.others
  where
    by : {l : ℕ} {ts mid rest : List Item} → Shows inside ts (sign l x ∷ mid) → Shows (layout.newline ∷ []) mid rest → Ended inside x ts rest
    by g (unseen nothing) = record { line = _; part = g }

-- A list in braces, behind its first brace, at the end of a line.
pub record InBraces {X : Type 0} (Part : List Item → List Item → X → Type 0) (ts rest : List Item) (all : List X) : Type 0 where
  pub line : ℕ
  pub end : ℕ
  pub parts : Commas Part ts (sign line s.RightBrace ∷ sign end s.Semicolon ∷ rest) all

pub in_braces : {X : Type 0} (item : X → List layout.Item) (P : X → Type 0) (Part : List Item → List Item → X → Type 0) → EachIs item P Part
    → (x : X) (xs : List X) {ts rest : List Item} → All P (x ∷ xs)
    → Shows ((separated (map item (x ∷ xs)) ++ layout.sign s.RightBrace ∷ []) ++ layout.sign s.Semicolon ∷ layout.newline ∷ []) ts rest
    → InBraces Part ts rest (x ∷ xs)
in_braces item P Part each x xs f h =
    let e = ended (separated (map item (x ∷ xs)) ++ layout.sign s.RightBrace ∷ []) s.Semicolon h in
    let c = closed (separated (map item (x ∷ xs))) s.RightBrace [] e.part in
    by c.part c.others
  where
    by : {l m : ℕ} {ts mid rest : List Item} → Shows (separated (map item (x ∷ xs))) ts (sign l s.RightBrace ∷ mid) → Shows [] mid (sign m s.Semicolon ∷ rest)
        → InBraces Part ts rest (x ∷ xs)
    by g nothing = record { line = _; end = _; parts = separated_spelled item P Part each x xs f g }

-- ---- numbers

pub value_spelled : (v : ℤ) (ts rest : List Item) → Shows (value v) ts rest → SpellsValue ts rest v
value_spelled (pos n) _ _ (shown nothing) = d.plain
value_spelled (negsuc n) _ _ (shown (shown nothing)) = d.negative

-- ---- scalars

-- A scalar of the tree, at some line.
pub record CellSpelled (c : Cell) (ts rest : List Item) : Type 0 where
  pub line : ℕ
  pub spelled : SpellsCells ts rest (Scalar (record { name = c.name; value = c.value; line = line }) ∷ [])

pub cell_spelled : (c : Cell) {ts rest : List Item} → ShapedCell c → Shows (cell c) ts rest → CellSpelled c ts rest
cell_spelled c f (shown (unseen (shown (unseen (shown (unseen h)))))) =
    let e = ended (value c.value) s.Semicolon h in
    record { line = _; spelled = d.cells st.absent (one (d.scalar_by f (value_spelled c.value _ _ e.part))) }

-- ---- arrays

pub record ArraySpelled (a : Array) (ts rest : List Item) : Type 0 where
  pub line : ℕ
  pub spelled : SpellsCells ts rest (Several (record { name = a.name; len = a.len; values = a.values; line = line }) ∷ [])

array_by : (name : List ℕ) (len : ℕ) (vs : List ℤ) {ts rest : List Item} → UsableCell name → Shows (array (record { name = name; len = len; values = vs })) ts rest
    → ArraySpelled (record { name = name; len = len; values = vs }) ts rest
array_by name len [] f (shown (unseen (shown (shown (shown (shown (shown (unseen nothing)))))))) =
    record { line = _; spelled = d.cells st.absent (one (d.array f)) }
array_by name len (v ∷ vs) f (shown (unseen (shown (shown (shown (shown (unseen (shown (unseen (shown h)))))))))) =
    let b = in_braces value (λ v. Unit {0}) SpellsValue (λ v ts rest f g. value_spelled v ts rest g) v vs (λ k d l. tt) h in
    record { line = _; spelled = d.cells st.absent (one (d.array_by f b.parts)) }

pub array_spelled : (a : Array) {ts rest : List Item} → ShapedArray a → Shows (array a) ts rest → ArraySpelled a ts rest
array_spelled a f h = array_by a.name a.len a.values f h

-- ---- threads

pub record SlotSpelled (t : Slot) (ts rest : List Item) : Type 0 where
  pub line : ℕ
  pub spelled : SpellsSlots ts rest (record { name = t.name; len = t.len; line = line } ∷ [])

slot_by : (name : List ℕ) (len : Option ℕ) {ts rest : List Item} → Usable name → Shows (slot (record { name = name; len = len })) ts rest
    → SlotSpelled (record { name = name; len = len }) ts rest
slot_by name None f (shown (unseen (shown (shown (unseen nothing))))) = record { line = _; spelled = st.slots st.absent (one (st.one f)) }
slot_by name (Some len) f (shown (unseen (shown (shown (shown (shown (shown (unseen nothing)))))))) = record { line = _; spelled = st.slots st.absent (one (st.several f)) }

pub slot_spelled : (t : Slot) {ts rest : List Item} → ShapedSlot t → Shows (slot t) ts rest → SlotSpelled t ts rest
slot_spelled t f h = slot_by t.name t.len f h
