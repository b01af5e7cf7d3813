-- How deep parentheses go, and a text of bytes that is spelled.
use Rattle.std.specs.Prelude.{◌≡◌, ◌+◌, ℕ, zero, suc, pos, List, [], ◌∷◌, length, codes}
use Rattle.c_lexer.specs.declared.token.Sign.TheVariants as s
use Rattle.c_tree.specs.Expressions as tree
use Rattle.c_tree.specs.Lined as lined
use Rattle.c_tree.specs.declared.program.Kind.TheVariants as kind
use Rattle.c_grammar.specs.declared.words.FixedWord.TheVariants as w
use Rattle.c_grammar.specs.Items.{What, Item, at, sign, fixed, fixed_keywords, other_keywords}
use Rattle.c_grammar.specs.Levels.{tall}
use Rattle.c_grammar.specs.Programs.{SpellsProgram, TextSpells}
use Rattle.c_grammar.specs.Samples.{scalar}

-- ---- parentheses

-- The number 1 in so many pairs of parentheses.
abbrev pub nested : ℕ → List Item → List Item
nested zero rest = at 1 (What.Number 1) ∷ rest
nested (suc n) rest = sign 1 s.LeftParenthesis ∷ nested n (sign 1 s.RightParenthesis ∷ rest)

-- int main ( ) { x = .. ; }
abbrev pub main_with : ℕ → List Item
main_with n =
    fixed 1 w.Int ∷ fixed 1 w.Main ∷ sign 1 s.LeftParenthesis ∷ sign 1 s.RightParenthesis ∷ sign 1 s.LeftBrace
    ∷ at 1 (What.Name (codes "x")) ∷ sign 1 s.Assign ∷ nested n (sign 1 s.Semicolon ∷ sign 1 s.RightBrace ∷ [])

-- The tree of that, for any number of pairs: x = 1
abbrev pub one_assignment : lined.Program
one_assignment = record {
  ints = [];
  arrays = [];
  mutexes = [];
  conds = [];
  threads = [];
  monitors = [];
  functions =
      record { name = codes "main"; kind = kind.Main; params = []; body = lined.listed (lined.Assign 1 (scalar (codes "x")) (tree.Number 1) ∷ []); line = 1; end_line = 1 } ∷ [];
  cap_len = 0;
  cap_line = 0;
  end_line = 1;
}

-- With n pairs it is spelled and takes n + 2 levels: 62 pairs are the most that 64 levels hold.
abbrev pub ParenthesesTakeLevels : Type 0
ParenthesesTakeLevels = (n : ℕ) → SpellsProgram 1 (main_with n) (tall one_assignment (suc (suc n)))

-- ---- a text

-- A file of one line spells its program, and ends on the line after it.
abbrev pub LineIsSpelled : Type 0
LineIsSpelled = TextSpells (codes "int x;\n") (tall (record {
  ints = record { name = codes "x"; value = pos 0; line = 1 } ∷ [];
  arrays = [];
  mutexes = [];
  conds = [];
  threads = [];
  monitors = [];
  functions = [];
  cap_len = 0;
  cap_line = 0;
  end_line = 2;
}) 0)

-- ---- keywords

-- C has 37 keywords.
abbrev pub AllKeywords : Type 0
AllKeywords = length fixed_keywords + length other_keywords ≡ 37
