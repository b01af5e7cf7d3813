use Rattle.std.proofs.Common.{◌≡◌, ◌≤◌, length}
use Rattle.parse_laws.specs.Parser.{loop}
use Rattle.c_expressions.specs.Gives.{sight, tall_of}
use Rattle.c_statements.specs.Gives.{body_of}
use Rattle.c_statements.specs.Parsers.{body, body_by}
use Rattle.c_statements.proofs.body.function_body.Given as goal

abbrev pub invariant-turns : goal.invariant-turns
invariant-turns l = record {
  gives : body (sight l.setting) l.kind l.room l.tokens ≡ loop (body_by (sight l.setting) l.kind l.room) (tall_of body_of l.body) l.rest;
  low : l.body.levels ≤ l.room;
}

abbrev pub decreases-turns : goal.decreases-turns
decreases-turns l = length l.rest
