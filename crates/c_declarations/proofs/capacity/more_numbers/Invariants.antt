use Rattle.std.proofs.Common.{◌≡◌, length}
use Rattle.c_expressions.specs.Gives.{sight}
use Rattle.c_declarations.specs.Parsers.{more, grown, number}
use Rattle.c_declarations.proofs.capacity.more_numbers.Given as goal

abbrev pub invariant-turns : goal.invariant-turns
invariant-turns l = record {
  gives : more (sight l.setting) (number (sight l.setting)) grown l.fn.all l.tokens ≡ more (sight l.setting) (number (sight l.setting)) grown l.all l.rest;
}

abbrev pub decreases-turns : goal.decreases-turns
decreases-turns l = length l.rest
