-- What the canonical text of a program is to the grammar.
use Rattle.std.specs.Prelude.{◌≡◌, ◌↔◌, ℕ, List}
use Rattle.c_lexer.specs.Tokens.{Word, Tokens}
use Rattle.c_layout.specs.Layout.{text}
use Rattle.c_tree.specs.Bare as bare
use Rattle.c_tree.specs.Lined.{Program, bare_program}
use Rattle.c_grammar.specs.Levels.{Tall}
use Rattle.c_grammar.specs.Programs.{Spells, TextSpells}
use Rattle.c_canonical.specs.Programs.{layout_of}
use Rattle.c_canonical.specs.Writable.{IsWritableProgram}
use Rattle.c_canonical.specs.ShapedPrograms.{ShapedProgram}

-- This text spells this program, lines apart.
pub record SpellsBare (source : List ℕ) (p : bare.Program) : Type 0 where
  pub program : Tall Program
  pub spells : TextSpells source program
  pub same : bare_program program.tree ≡ p

-- Some text does.
abbrev pub HasText : bare.Program → Type 0
HasText p = (source : List ℕ) × SpellsBare source p

-- What the tokens of a text spell is shaped and writable. There may be definitions among them, and the file may end on any line.
abbrev pub SpelledIsShaped : Type 0
SpelledIsShaped = (source : List ℕ) (words : List Word) (end : ℕ) (p : Tall Program) → Tokens source words → Spells end words p
    → ShapedProgram (bare_program p.tree) × IsWritableProgram (bare_program p.tree)

-- The canonical text of a program that is shaped and writable spells it.
abbrev pub ShapedIsSpelled : Type 0
ShapedIsSpelled = (p : bare.Program) → ShapedProgram p → IsWritableProgram p → SpellsBare (text (layout_of p)) p

-- So the canonical text of a program that has a text spells it.
abbrev pub CanonicalSpells : Type 0
CanonicalSpells = (p : bare.Program) → HasText p → SpellsBare (text (layout_of p)) p

-- Some tokens spell this program, lines apart, in a file that ends on some line. Their names, numbers and texts may be of any length.
pub record HasWords (p : bare.Program) : Type 0 where
  pub end : ℕ
  pub words : List Word
  pub program : Tall Program
  pub spells : Spells end words program
  pub same : bare_program program.tree ≡ p

-- A program is shaped exactly where some tokens do.
abbrev pub ShapeIsWhatWordsSpell : Type 0
ShapeIsWhatWordsSpell = (p : bare.Program) → ShapedProgram p ↔ HasWords p

-- A program is shaped and writable exactly where some text spells it.
abbrev pub TextsAreWritable : Type 0
TextsAreWritable = (p : bare.Program) → HasText p ↔ (ShapedProgram p × IsWritableProgram p)
