-- Programs: what tokens spell one, and what tokens begin one.
use Rattle.std.specs.Prelude.{ℕ, ◌≤◌, max, List, [], ◌∷◌, ◌++◌}
use Rattle.c_lexer.specs.Tokens.{Word, Tokens, line}
use Rattle.c_tree.specs.Lined.{Program}
use Rattle.c_tree.specs.declared.program.Object.{Object}
use Rattle.c_tree.specs.declared.program.Slot.{Slot}
use Rattle.c_grammar.specs.Items.{What, Item, at, items}
use Rattle.c_grammar.specs.Levels.{Tall, tall}
use Rattle.c_grammar.specs.Statements.{SpellsSlots}
use Rattle.c_grammar.specs.Declarations.{Declared, scalars, arrays, SpellsCells, Sort, mutex, condition, SpellsObjects, Capacities, SpellsCapacities, Defined, SpellsFunction}

-- ---- a program grows by what stands outside functions, in the order of the text

-- A program without anything, in a file that ends on this line.
abbrev pub empty_program : ℕ → Tall Program
empty_program end = tall (record {
  ints = [];
  arrays = [];
  mutexes = [];
  conds = [];
  threads = [];
  monitors = [];
  functions = [];
  cap_len = 0;
  cap_line = 0;
  end_line = end;
}) 0

-- The same with capacities.
abbrev pub capacity_program : ℕ → Capacities → Tall Program
capacity_program end c = tall (record {
  ints = [];
  arrays = [];
  mutexes = [];
  conds = [];
  threads = [];
  monitors = c.values;
  functions = [];
  cap_len = c.len;
  cap_line = c.line;
  end_line = end;
}) 0

abbrev pub with_cells : Tall Program → List Declared → Tall Program
with_cells p all = tall (record p.tree { ints = p.tree.ints ++ scalars all; arrays = p.tree.arrays ++ arrays all }) p.levels

abbrev pub with_objects : Tall Program → Sort → List Object → Tall Program
with_objects p mutex all = tall (record p.tree { mutexes = p.tree.mutexes ++ all }) p.levels
with_objects p condition all = tall (record p.tree { conds = p.tree.conds ++ all }) p.levels

abbrev pub with_slots : Tall Program → List Slot → Tall Program
with_slots p all = tall (record p.tree { threads = p.tree.threads ++ all }) p.levels

abbrev pub with_function : Tall Program → Tall Defined → Tall Program
with_function p f = tall (record p.tree { threads = p.tree.threads ++ f.tree.slots; functions = p.tree.functions ++ f.tree.function ∷ [] }) (max p.levels f.levels)

-- {Define | cells | objects | slots | function}, after what makes up this program
pub data SpellsOuter (start : Tall Program) : List Item → List Item → Tall Program → Type 0 where
  none : {ts : List Item} → SpellsOuter start ts ts start
  then_definition : {l : ℕ} {ts rest : List Item} {p : Tall Program} → SpellsOuter start ts (at l What.Definition ∷ rest) p → SpellsOuter start ts rest p
  then_cells : {ts mid rest : List Item} {p : Tall Program} {all : List Declared}
      → SpellsOuter start ts mid p → SpellsCells mid rest all → SpellsOuter start ts rest (with_cells p all)
  then_objects : {ts mid rest : List Item} {p : Tall Program} {o : Sort} {all : List Object}
      → SpellsOuter start ts mid p → SpellsObjects o mid rest all → SpellsOuter start ts rest (with_objects p o all)
  then_slots : {ts mid rest : List Item} {p : Tall Program} {all : List Slot}
      → SpellsOuter start ts mid p → SpellsSlots mid rest all → SpellsOuter start ts rest (with_slots p all)
  then_function : {ts mid rest : List Item} {p : Tall Program} {f : Tall Defined}
      → SpellsOuter start ts mid p → SpellsFunction mid rest f → SpellsOuter start ts rest (with_function p f)

-- program = [gdhead] {Define | cells | objects | slots | function}, in a file that ends on this line
pub data SpellsProgram (end : ℕ) : List Item → Tall Program → Type 0 where
  plain : {ts : List Item} {p : Tall Program} → SpellsOuter (empty_program end) ts [] p → SpellsProgram end ts p
  with_capacities : {ts mid : List Item} {c : Capacities} {p : Tall Program}
      → SpellsCapacities ts mid c → SpellsOuter (capacity_program end c) mid [] p → SpellsProgram end ts p

-- ---- tokens and texts

-- These tokens, in a file that ends on this line, spell this program, which takes so many levels.
abbrev pub Spells : ℕ → List Word → Tall Program → Type 0
Spells end words p = SpellsProgram end (items [] words) p

-- This text does.
abbrev pub TextSpells : List ℕ → Tall Program → Type 0
TextSpells text p = (words : List Word) × Tokens text words × Spells (line text) words p

-- Some list of tokens that begins with these spells a program that takes at most so many levels.
pub record Begins (room : ℕ) (words : List Word) : Type 0 where
  pub more : List Word
  pub end : ℕ
  pub program : Tall Program
  pub spells : Spells end (words ++ more) program
  pub within : program.levels ≤ room

-- ---- the failing token

-- How many levels a program may take.
abbrev pub most_levels : ℕ
most_levels = 64

-- They begin a program within the levels.
abbrev pub IsOpen : List Word → Type 0
IsOpen words = Begins most_levels words

-- With the token after them they are open no more: it is the failing one.
pub record Fails (words : List Word) (token : Word) : Type 0 where
  pub before : IsOpen words
  pub with_it : IsOpen (words ++ token ∷ []) → ⊥

-- It fails as no program has it there, of however many levels.
pub record FailsAsSyntax (words : List Word) (token : Word) : Type 0 where
  pub fails : Fails words token
  pub at_any_depth : (room : ℕ) → Begins room (words ++ token ∷ []) → ⊥

-- It fails since only programs with more levels have it there.
pub record FailsAsTooDeep (words : List Word) (token : Word) : Type 0 where
  pub fails : Fails words token
  pub room : ℕ
  pub deeper : Begins room (words ++ token ∷ [])

-- The file ends after these tokens, which begin a program and spell none.
pub record FailsAtEnd (words : List Word) : Type 0 where
  pub before : IsOpen words
  pub none : (end : ℕ) (p : Tall Program) → Spells end words p → ⊥
