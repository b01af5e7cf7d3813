use Rattle.std.proofs.Common.{◌≡◌, ◌≤◌, length, take}
use Rattle.c_lexer.specs.Tokens.{is_first}
use Rattle.c_lexer.proofs.places.is_first.Given as goal

abbrev pub invariant-loop-place : goal.invariant-loop-place
invariant-loop-place l = (l.place ≤ length l.text) × (is_first (take l.place l.text) ≡ is_first (take l.at l.text))

abbrev pub decreases-loop-place : goal.decreases-loop-place
decreases-loop-place l = l.place
