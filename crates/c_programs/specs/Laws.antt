-- The parser of programs on the words of the lexer, in the terms of the grammar.
use Rattle.std.specs.Prelude.{ℕ, suc, ◌-◌, List}
use Rattle.c_lexer.specs.Tokens.{Word}
use Rattle.c_tree.specs.Lined.{Program}
use Rattle.c_grammar.specs.Levels.{Tall}
use Rattle.c_grammar.specs.Programs.{Spells}
use Rattle.parse_laws.specs.Exact.{IsExact, whole}
use Rattle.c_programs.specs.Parsers.{program}
use Rattle.c_programs.specs.Lexed.{word_views}

-- how many levels stand below a program's own
abbrev pub below : Tall Program → ℕ
below p = p.levels - 1

-- In a file that ends on this line and on so many levels and one, whatever words are given: the program that is answered is the one
-- that they spell, within the levels; else the failing token and its fault are.
abbrev pub ProgramsAreExact : Type 0
ProgramsAreExact = (end r : ℕ) (words : List Word) → IsExact (Spells end) below r words (whole (program word_views (suc r) end) words)
