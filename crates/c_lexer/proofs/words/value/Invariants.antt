use Rattle.std.proofs.Common.{◌≡◌, ◌≤◌, take}
use Rattle.c_lexer.specs.Words.{decimal, largest}
use Rattle.c_lexer.proofs.words.value.Given as goal

abbrev pub invariant-loop-digit : goal.invariant-loop-digit
invariant-loop-digit l = (l.value ≡ decimal (take l.digit-index l.digits)) × (l.value ≤ largest)
