-- Programs that a text spells.
use Rattle.std.specs.Prelude.{ℕ, List}
use Rattle.c_tree.specs.declared.program.Program.{Program}
use Rattle.c_tree.specs.Lined.{bare_program, program_of}
use Rattle.c_canonical.specs.Writable.{IsWritableProgram}
use Rattle.c_parser.specs.Parsed.{SpelledBy}
use Rattle.state_parts.specs.Small.{AreSmall}

-- each program that a text spells within the limits has only small numbers in its statements
abbrev pub SmallWhenSpelled : Type 0
SmallWhenSpelled = (text : List ℕ) (p : Program) → SpelledBy text (program_of p) → AreSmall p

-- so has each program that can be written
abbrev pub SmallWhenWritable : Type 0
SmallWhenWritable = (p : Program) → IsWritableProgram (bare_program (program_of p)) → AreSmall p
