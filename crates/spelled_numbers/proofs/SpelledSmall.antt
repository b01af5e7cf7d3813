-- A program that a text spells is writable, so its numbers are small.
use Rattle.std.proofs.Common.{ℕ, List}
use Rattle.c_lexer.specs.Tokens.{line}
use Rattle.c_tree.specs.declared.program.Program.{Program}
use Rattle.c_tree.specs.Lined.{program_of}
use Rattle.c_grammar.specs.Levels.{tall}
use Rattle.c_canonical.proofs.Canonical.{spelled_is_shaped}
use Rattle.c_parser.specs.Parsed.{SpelledBy}
use Rattle.state_parts.specs.Small.{AreSmall}
use Rattle.spelled_numbers.proofs.SmallNumbers.{writable_is_small}

pub spelled_is_small : (text : List ℕ) (p : Program) → SpelledBy text (program_of p) → AreSmall p
spelled_is_small text p s =
    let known = spelled_is_shaped text s.words (line text) (tall (program_of p) s.levels) s.tokens s.spells in
    writable_is_small p known.1
