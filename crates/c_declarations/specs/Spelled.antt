-- What stands behind `int`, in the terms of the grammar.
use Rattle.std.specs.Prelude.{◌≡◌, ℕ, Bool, true, List, ◌∷◌}
use Rattle.c_lexer.specs.declared.token.Sign.TheVariants as s
use Rattle.c_grammar.specs.declared.words.FixedWord.TheVariants as w
use Rattle.c_grammar.specs.Items.{What, Item, at, sign, fixed}
use Rattle.c_grammar.specs.Commas.{Commas}
use Rattle.c_grammar.specs.Declarations as g
use Rattle.c_grammar.specs.Simple.{SpellsNumber}
use Rattle.c_grammar.specs.Declarations.{SpellsCell, SpellsHead, SpellsPrototype}
use Rattle.c_declarations.specs.declared.tree.Ints.{Ints}
use Rattle.c_declarations.specs.declared.tree.Begun.{Begun}
use Rattle.c_declarations.specs.declared.tree.Begun.TheVariants as begun
use Rattle.c_declarations.specs.Shown.{ints_of, capacities_of, head_of}

-- scalars and arrays with commas between them
abbrev pub SpellsInts : List Item → List Item → Ints → Type 0
SpellsInts before after x = (all : List g.Declared) × Commas SpellsCell before after all × (ints_of all ≡ x)

-- the capacities, and the declarations of `gd_take` and `gd_give`
pub data SpellsMonitors : List Item → List Item → g.Capacities → Type 0 where
  monitors : {l m n i j o h d e len : ℕ} {ts mid next rest : List Item} {all : List ℕ}
      → Commas SpellsNumber ts (sign d s.RightBrace ∷ sign e s.Semicolon ∷ mid) all → SpellsPrototype w.Take mid next → SpellsPrototype w.Give next rest
      → SpellsMonitors
      (fixed l w.Int ∷ fixed m w.Capacities ∷ sign n s.LeftBracket ∷ at i (What.Number len) ∷ sign j s.RightBracket ∷ sign o s.Assign ∷ sign h s.LeftBrace ∷ ts) rest
      (record { len = len; values = all; line = m })

-- What stands behind `int`, which is on the line l: scalars and arrays up to their `;`, a head, or the capacities, only where they may stand.
abbrev pub SpellsBehindInt : Bool → ℕ → List Item → List Item → Begun → Type 0
SpellsBehindInt first l before after (begun.Cells all) = (m : ℕ) × SpellsInts before (sign m s.Semicolon ∷ after) all
SpellsBehindInt first l before after (begun.Head h) = SpellsHead (fixed l w.Int ∷ before) after (head_of h)
SpellsBehindInt first l before after (begun.Capacities c) = (first ≡ true) × SpellsMonitors (fixed l w.Int ∷ before) after (capacities_of c)
