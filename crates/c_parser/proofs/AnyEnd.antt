-- The line on which a file ends has no part in what its tokens spell, but for the program's own last line.
use Rattle.std.proofs.Common.{ℕ, List}
use Rattle.c_lexer.specs.Tokens.{Word}
use Rattle.c_tree.specs.Lined.{Program}
use Rattle.c_tree.specs.declared.program.Object.{Object}
use Rattle.c_grammar.specs.Items.{Item}
use Rattle.c_grammar.specs.Levels.{Tall, tall}
use Rattle.c_grammar.specs.Declarations.{Sort, mutex, condition, SpellsObjects}
use Rattle.c_grammar.specs.Programs.{with_objects, SpellsOuter, none, then_definition, then_cells, then_objects, then_slots, then_function, SpellsProgram, plain, with_capacities, Spells}

-- the same program in a file that ends on this line
abbrev pub relined : ℕ → Tall Program → Tall Program
relined end p = tall (record p.tree { end_line = end }) p.levels

module _ (end : ℕ) where
  objects_relined : {start : Tall Program} {ts mid rest : List Item} (p : Tall Program) (o : Sort) (all : List Object) → SpellsOuter start ts mid (relined end p) → SpellsObjects o mid rest all
      → SpellsOuter start ts rest (relined end (with_objects p o all))
  objects_relined p mutex all x y = then_objects x y
  objects_relined p condition all x y = then_objects x y

  outer_relined : {start p : Tall Program} {ts rest : List Item} → SpellsOuter start ts rest p → SpellsOuter (relined end start) ts rest (relined end p)
  outer_relined none = none
  outer_relined (then_definition x) = then_definition (outer_relined x)
  outer_relined (then_cells x y) = then_cells (outer_relined x) y
  outer_relined (then_objects {p = p} {o = o} {all = all} x y) = objects_relined p o all (outer_relined x) y
  outer_relined (then_slots x y) = then_slots (outer_relined x) y
  outer_relined (then_function x y) = then_function (outer_relined x) y

  program_relined : {other : ℕ} {ts : List Item} {p : Tall Program} → SpellsProgram other ts p → SpellsProgram end ts (relined end p)
  program_relined (plain x) = plain (outer_relined x)
  program_relined (with_capacities c x) = with_capacities c (outer_relined x)

pub any_end : (other end : ℕ) (words : List Word) (p : Tall Program) → Spells other words p → Spells end words (relined end p)
any_end other end words p x = program_relined end x
