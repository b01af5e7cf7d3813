use Rattle.std.proofs.Common.{◌≡◌, ◌+◌, ◌≤◌, length}
use Rattle.c_expressions.specs.Gives.{sight}
use Rattle.c_declarations.specs.Parsers.{more, counted, initial}
use Rattle.c_declarations.proofs.object.more_initials.Given as goal

abbrev pub invariant-turns : goal.invariant-turns
invariant-turns l = record {
  gives : more (sight l.setting) (initial (sight l.setting) l.sort) counted l.fn.all l.tokens ≡ more (sight l.setting) (initial (sight l.setting) l.sort) counted l.all l.rest;
  few : l.all + length l.rest ≤ 65537;
}

abbrev pub decreases-turns : goal.decreases-turns
decreases-turns l = length l.rest
