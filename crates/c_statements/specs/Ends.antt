-- What may stand behind the body of a function.
use Rattle.std.specs.Prelude.{◌≡◌, false, List, [], ◌∷◌}
use Rattle.c_grammar.specs.Items.{Item}
use Rattle.c_expressions.specs.Parsers.{what_at}
use Rattle.c_statements.specs.Words.{is_else, is_static, begins}

-- No statement and no declaration of threads goes on, and no `else`; a closing brace is so, for one.
abbrev pub BodyEnds : List Item → Type 0
BodyEnds [] = Unit {0}
BodyEnds (u ∷ after) = (begins (what_at u) ≡ false) × (is_static (what_at u) ≡ false) × (is_else (what_at u) ≡ false)
