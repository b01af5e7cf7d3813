-- The tokens that end an expression.
use Rattle.std.specs.Prelude.{◌≡◌, Bool, true, false, List, [], ◌∷◌}
use Rattle.c_lexer.specs.declared.token.Sign.TheVariants as s
use Rattle.c_grammar.specs.Items.{What, Item}
use Rattle.c_expressions.specs.Parsers.{what_at}

-- `)`, `]`, `,` and `;`
abbrev pub closes : What → Bool
closes (What.Sign s.RightParenthesis) = true
closes (What.Sign s.RightBracket) = true
closes (What.Sign s.Comma) = true
closes (What.Sign s.Semicolon) = true
closes _ = false

-- such a token comes, or the text ends
abbrev pub at_head : (What → Bool) → List Item → Type 0
at_head test [] = Unit {0}
at_head test (t ∷ after) = test (what_at t) ≡ true

-- an expression ends before these tokens
abbrev pub Ends : List Item → Type 0
Ends after = at_head closes after
