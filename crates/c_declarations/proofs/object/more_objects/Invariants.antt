use Rattle.std.proofs.Common.{◌≡◌, ◌≤◌, length}
use Rattle.c_expressions.specs.Gives.{sight}
use Rattle.c_declarations.specs.Parsers.{more, grown, object}
use Rattle.c_declarations.proofs.object.more_objects.Given as goal

abbrev pub invariant-turns : goal.invariant-turns
invariant-turns l = record {
  gives : more (sight l.setting) (object (sight l.setting) l.sort) grown l.fn.all l.tokens ≡ more (sight l.setting) (object (sight l.setting) l.sort) grown l.all l.rest;
  few : length l.rest ≤ 65536;
}

abbrev pub decreases-turns : goal.decreases-turns
decreases-turns l = length l.rest
