use Rattle.std.proofs.Common.{◌≡◌, length}
use Rattle.parse_laws.specs.Parser.{loop}
use Rattle.c_expressions.specs.Gives.{sight}
use Rattle.c_simple.specs.Parsers.{take_by}
use Rattle.c_simple.proofs.takes.more_takes.Given as goal

abbrev pub invariant-turns : goal.invariant-turns
invariant-turns l = record { gives : loop (take_by (sight l.setting)) l.fn.all l.tokens ≡ loop (take_by (sight l.setting)) l.all l.rest }

abbrev pub decreases-turns : goal.decreases-turns
decreases-turns l = length l.rest
