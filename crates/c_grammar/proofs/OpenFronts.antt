-- The fronts of lists of tokens, and the failing token in two samples.
use Rattle.std.proofs.Common.{◌≡◌, ℕ, List, [], ◌∷◌, ◌++◌, refl, ap, subst, arith}
use Rattle.std.specs.Prelude.{codes, pos}
use Rattle.c_lexer.specs.Pieces.{Kind}
use Rattle.c_lexer.specs.Tokens.{Word}
use Rattle.c_lexer.specs.Lexeme.{lexeme}
use Rattle.c_lexer.specs.Words.{name_of, number_of}
use Rattle.c_lexer.specs.Signs.{single, double}
use Rattle.c_lexer.specs.Classes.{is_word}
use Rattle.c_lexer.specs.Directives.{after_include, definition, defined_name, defined_number}
use Rattle.c_lexer.specs.declared.token.Sign.TheVariants as s
use Rattle.c_tree.specs.Lined.{Program}
use Rattle.c_tree.specs.declared.program.Object.{Object}
use Rattle.c_tree.specs.declared.program.Slot.{Slot}
use Rattle.c_grammar.specs.declared.words.FixedWord.TheVariants as w
use Rattle.c_grammar.specs.Items.{What, Item, at, fixed, Defined as Definition, items, what_is, defined_by, defined_after}
use Rattle.c_grammar.specs.Levels.{Tall}
use Rattle.c_grammar.specs.Commas as comma
use Rattle.c_grammar.specs.Commas.{Commas}
use Rattle.c_grammar.specs.Statements as st
use Rattle.c_grammar.specs.Statements.{SpellsStatic, SpellsSlots}
use Rattle.c_grammar.specs.Declarations as d
use Rattle.c_grammar.specs.Declarations.{Declared, SpellsCell, SpellsCells, Sort, SpellsObjects, Defined, SpellsFunction}
use Rattle.c_grammar.specs.Programs as p
use Rattle.c_grammar.specs.Programs.{SpellsOuter, SpellsProgram, Spells, Begins, empty_program, most_levels}
use Rattle.c_grammar.specs.Fronts.{FrontsBegin, EmptyIsOpen, BreakFails, OpenDeclarationFails, break_token}

-- ---- fronts

pub one_by_one : (defined : List Definition) (front back : List Word) → items defined (front ++ back) ≡ items defined front ++ items (defined_after defined front) back
one_by_one defined [] back = refl
one_by_one defined (word ∷ front) back =
    ap (λ (ts : List Item). at word.line (what_is defined word.kind word.bytes) ∷ ts) (one_by_one (defined_by defined word.kind) front back)

joined_fronts : (front back more : List Word) → (front ++ back) ++ more ≡ front ++ (back ++ more)
joined_fronts [] back more = refl
joined_fronts (word ∷ front) back more = ap (λ (ws : List Word). word ∷ ws) (joined_fronts front back more)

pub fronts_begin : FrontsBegin
fronts_begin room front back b = record {
  more = back ++ b.more;
  end = b.end;
  program = b.program;
  spells = subst (λ (ws : List Word). Spells b.end ws b.program) (joined_fronts front back b.more) b.spells;
  within = b.within;
}

pub empty_is_open : EmptyIsOpen
empty_is_open = record { more = []; end = 0; program = empty_program 0; spells = p.plain p.none; within = omega arith }

-- ---- `break` at the front

-- A program doesn't get past a keyword that has no place.
data Stuck (ts : List Item) : List Item → Type 0 where
  stuck : Stuck ts ts

not_past : {start : Tall Program} {l : ℕ} {ts rest : List Item} {v : Tall Program} → SpellsOuter start (at l What.Keyword ∷ ts) rest v → Stuck (at l What.Keyword ∷ ts) rest
not_past p.none = stuck
not_past (p.then_definition h) = absurd (no_definition (not_past h))
  where
    no_definition : {l m : ℕ} {ts rest : List Item} → Stuck (at l What.Keyword ∷ ts) (at m What.Definition ∷ rest) → ⊥
    no_definition h = elim h [ ]
not_past (p.then_cells h x) = absurd (no_cells (not_past h) x)
  where
    no_cells : {l : ℕ} {ts mid rest : List Item} {all : List Declared} → Stuck (at l What.Keyword ∷ ts) mid → SpellsCells mid rest all → ⊥
    no_cells stuck (d.cells z cs) = elim z [ ]
not_past (p.then_objects h x) = absurd (no_objects (not_past h) x)
  where
    no_objects : {l : ℕ} {ts mid rest : List Item} {o : Sort} {all : List Object} → Stuck (at l What.Keyword ∷ ts) mid → SpellsObjects o mid rest all → ⊥
    no_objects stuck (d.objects z cs) = elim z [ ]
not_past (p.then_slots h x) = absurd (no_slots (not_past h) x)
  where
    no_slots : {l : ℕ} {ts mid rest : List Item} {all : List Slot} → Stuck (at l What.Keyword ∷ ts) mid → SpellsSlots mid rest all → ⊥
    no_slots stuck (st.slots z cs) = elim z [ ]
not_past (p.then_function h x) = absurd (no_function (not_past h) x)
  where
    no_function : {l : ℕ} {ts mid rest : List Item} {f : Tall Defined} → Stuck (at l What.Keyword ∷ ts) mid → SpellsFunction mid rest f → ⊥
    no_function stuck (d.function st.absent h body) = elim h [ ]

keyword_program : (end l : ℕ) (ts : List Item) (v : Tall Program) → SpellsProgram end (at l What.Keyword ∷ ts) v → ⊥
keyword_program end l ts v (p.plain h) = no_rest (not_past h)
  where
    no_rest : {l : ℕ} {ts : List Item} → Stuck (at l What.Keyword ∷ ts) [] → ⊥
    no_rest h = elim h [ ]
keyword_program end l ts v (p.with_capacities k h) = elim k [ ]

no_break : (room : ℕ) → Begins room (break_token ∷ []) → ⊥
no_break room b = keyword_program b.end 1 (items [] b.more) b.program b.spells

pub break_fails : BreakFails
break_fails = record { fails = record { before = empty_is_open; with_it = no_break most_levels }; at_any_depth = no_break }

-- ---- `int x` at the end

abbrev declaration : List Item
declaration = fixed 1 w.Int ∷ at 1 (What.Name (codes "x")) ∷ []

-- The tokens of a list of cells end behind the name.
data Ended : List Item → Type 0 where
  ended : Ended []

cell_ends : {rest : List Item} {v : Declared} → SpellsCell (at 1 (What.Name (codes "x")) ∷ []) rest v → Ended rest
cell_ends (d.scalar q) = ended

nothing_follows : {i : Item} {ts : List Item} → Ended (i ∷ ts) → ⊥
nothing_follows h = elim h [ ]

cells_end : {rest : List Item} {all : List Declared} → Commas SpellsCell (at 1 (What.Name (codes "x")) ∷ []) rest all → Ended rest
cells_end (comma.one h) = cell_ends h
cells_end (comma.more hs h) = absurd (nothing_follows (cells_end hs))

outer_ends : {start : Tall Program} {rest : List Item} {v : Tall Program} → SpellsOuter start declaration rest v → Stuck declaration rest
outer_ends p.none = stuck
outer_ends (p.then_definition h) = absurd (no_definition (outer_ends h))
  where
    no_definition : {m : ℕ} {rest : List Item} → Stuck declaration (at m What.Definition ∷ rest) → ⊥
    no_definition h = elim h [ ]
outer_ends (p.then_cells h x) = absurd (no_cells (outer_ends h) x)
  where
    no_cells : {mid rest : List Item} {all : List Declared} → Stuck declaration mid → SpellsCells mid rest all → ⊥
    no_cells stuck (d.cells st.absent cs) = nothing_follows (cells_end cs)
outer_ends (p.then_objects h x) = absurd (no_objects (outer_ends h) x)
  where
    no_objects : {mid rest : List Item} {o : Sort} {all : List Object} → Stuck declaration mid → SpellsObjects o mid rest all → ⊥
    no_objects {o = d.mutex} stuck (d.objects z cs) = elim z [ ]
    no_objects {o = d.condition} stuck (d.objects z cs) = elim z [ ]
outer_ends (p.then_slots h x) = absurd (no_slots (outer_ends h) x)
  where
    no_slots : {mid rest : List Item} {all : List Slot} → Stuck declaration mid → SpellsSlots mid rest all → ⊥
    no_slots stuck (st.slots z cs) = elim z [ ]
outer_ends (p.then_function h x) = absurd (no_function (outer_ends h) x)
  where
    no_function : {mid rest : List Item} {f : Tall Defined} → Stuck declaration mid → SpellsFunction mid rest f → ⊥
    no_function stuck (d.function st.absent h body) = elim h [ ]

no_program : (end : ℕ) (v : Tall Program) → SpellsProgram end declaration v → ⊥
no_program end v (p.plain h) = no_rest (outer_ends h)
  where
    no_rest : Stuck declaration [] → ⊥
    no_rest h = elim h [ ]
no_program end v (p.with_capacities k h) = elim k [ ]

semicolon : Word
semicolon = record { kind = Kind.sign s.Semicolon; bytes = codes ";"; line = 1 }

pub open_declaration_fails : OpenDeclarationFails
unfolding lexeme name_of number_of single double is_word after_include definition defined_name defined_number semicolon
open_declaration_fails = record {
  before = record {
    more = semicolon ∷ [];
    end = 1;
    program = p.with_cells (empty_program 1) (d.Scalar (record { name = codes "x"; value = pos 0; line = 1 }) ∷ []);
    spells = p.plain (p.then_cells p.none (d.cells st.absent (comma.one (d.scalar refl))));
    within = omega arith;
  };
  none = no_program;
}
