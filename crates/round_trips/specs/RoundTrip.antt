-- What is answered of the canonical text of a program.
use Rattle.std.specs.Prelude.{◌≡◌, Ok, Err}
use Rattle.c_layout.specs.Layout.{text}
use Rattle.c_tree.specs.Bare as bare
use Rattle.c_tree.specs.Lined.{bare_program}
use Rattle.c_canonical.specs.Programs.{layout_of}
use Rattle.c_canonical.specs.Canonical.{HasText}
use Rattle.c_parser.specs.declared.error.ParseError.TheVariants as error
use Rattle.c_parser.specs.Answer.{Answer}
use Rattle.c_parser.specs.Parsed.{Parsed}

-- An answer is this program, lines apart, or says that there are too many tokens or levels, or that memory ran out.
abbrev pub IsReadBack : bare.Program → Answer → Type 0
IsReadBack p (Ok q) = bare_program q ≡ p
IsReadBack p (Err (error.Lex e)) = ⊥
IsReadBack p (Err (error.Syntax on)) = ⊥
IsReadBack p (Err other) = Unit {0}

-- So is each answer that has its cause in the canonical text of a program that some text spells.
abbrev pub RoundTrip : Type 0
RoundTrip = (p : bare.Program) → HasText p → (answer : Answer) → Parsed (text (layout_of p)) answer → IsReadBack p answer
