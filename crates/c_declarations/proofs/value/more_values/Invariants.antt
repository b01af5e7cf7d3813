use Rattle.std.proofs.Common.{◌≡◌, length}
use Rattle.c_expressions.specs.Gives.{sight}
use Rattle.c_declarations.specs.Words.{int_holds}
use Rattle.c_declarations.specs.Parsers.{more, grown, value}
use Rattle.c_declarations.proofs.value.more_values.Given as goal

abbrev pub invariant-turns : goal.invariant-turns
invariant-turns l = record {
  gives : more (sight l.setting) (value (sight l.setting) int_holds) grown l.fn.all l.tokens ≡ more (sight l.setting) (value (sight l.setting) int_holds) grown l.all l.rest;
}

abbrev pub decreases-turns : goal.decreases-turns
decreases-turns l = length l.rest
