use Rattle.std.proofs.Common.{◌≡◌, length}
use Rattle.parse_laws.specs.Parser.{loop}
use Rattle.c_expressions.specs.Gives.{sight, tall_of}
use Rattle.c_simple.specs.Gives.{statements_of}
use Rattle.c_simple.specs.Parsers.{comma_by}
use Rattle.c_simple.proofs.declarations.more_declarators.Given as goal

abbrev pub invariant-turns : goal.invariant-turns
invariant-turns l = record {
  gives : loop (comma_by (sight l.setting) l.room) (tall_of statements_of l.fn.all) l.tokens ≡ loop (comma_by (sight l.setting) l.room) (tall_of statements_of l.all) l.rest;
}

abbrev pub decreases-turns : goal.decreases-turns
decreases-turns l = length l.rest
