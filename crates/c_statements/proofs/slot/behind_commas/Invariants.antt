use Rattle.std.proofs.Common.{◌≡◌, length}
use Rattle.parse_laws.specs.Parser.{many}
use Rattle.c_expressions.specs.Gives.{sight}
use Rattle.c_statements.specs.Parsers.{comma_by, one_more_slot}
use Rattle.c_statements.proofs.slot.behind_commas.Given as goal

abbrev pub invariant-turns : goal.invariant-turns
invariant-turns l = record {
  gives : many (comma_by (sight l.setting)) one_more_slot l.fn.all l.tokens ≡ many (comma_by (sight l.setting)) one_more_slot l.all l.rest;
}

abbrev pub decreases-turns : goal.decreases-turns
decreases-turns l = length l.rest
