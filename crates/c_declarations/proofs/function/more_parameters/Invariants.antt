use Rattle.std.proofs.Common.{◌≡◌, length}
use Rattle.c_expressions.specs.Gives.{sight}
use Rattle.c_declarations.specs.Parsers.{more, grown, parameter}
use Rattle.c_declarations.proofs.function.more_parameters.Given as goal

abbrev pub invariant-turns : goal.invariant-turns
invariant-turns l = record {
  gives : more (sight l.setting) (parameter (sight l.setting)) grown l.fn.all l.tokens ≡ more (sight l.setting) (parameter (sight l.setting)) grown l.all l.rest;
}

abbrev pub decreases-turns : goal.decreases-turns
decreases-turns l = length l.rest
