use Rattle.std.proofs.Common.{◌≤◌, ◌-◌, length, take, drop, Option}
use Rattle.std.specs.Prelude.{Result}
use Rattle.c_lexer.specs.declared.token.Token.{Token}
use Rattle.c_lexer.specs.declared.token.Span.{Span}
use Rattle.c_lexer.specs.declared.token.LexError.{LexError}
use Rattle.c_lexer.specs.Tokens.{Next}
use Rattle.c_lexer.proofs.lexer.next_token.Given as goal

abbrev pub invariant-loop-place : goal.invariant-loop-place
invariant-loop-place l = (l.place ≤ length l.text)
    × ((found : Result (Option (Token × Span)) LexError) → Next (take l.place l.text) (drop l.place l.text) found → Next (take l.at l.text) (drop l.at l.text) found)

abbrev pub decreases-loop-place : goal.decreases-loop-place
decreases-loop-place l = length l.text - l.place
