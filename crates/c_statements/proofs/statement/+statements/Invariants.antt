use Rattle.std.proofs.Common.{◌≡◌, ◌≤◌, ◌+◌, ◌*◌, length}
use Rattle.c_grammar.specs.Levels.{followed}
use Rattle.parse_laws.specs.Parser.{many}
use Rattle.c_expressions.specs.Gives.{sight, tall_of}
use Rattle.c_simple.specs.Gives.{statements_of}
use Rattle.c_statements.specs.Parsers.{statement_by}
use Rattle.c_statements.proofs.statement.+statements.Given as goal

abbrev pub decreases-statement : goal.decreases-statement
decreases-statement l = 20 * l.room + 1

abbrev pub decreases-more_statements : goal.decreases-more_statements
decreases-more_statements l = 20 * l.room + 2

abbrev pub decreases-block : goal.decreases-block
decreases-block l = 20 * l.room + 3

abbrev pub decreases-arm : goal.decreases-arm
decreases-arm l = 20 * l.room + 4

abbrev pub decreases-second_arm : goal.decreases-second_arm
decreases-second_arm l = 20 * l.room + 5

abbrev pub decreases-else_arm : goal.decreases-else_arm
decreases-else_arm l = 20 * l.room + 6

abbrev pub decreases-choice : goal.decreases-choice
decreases-choice l = 20 * l.room + 7

abbrev pub decreases-repetition : goal.decreases-repetition
decreases-repetition l = 20 * l.room + 7

abbrev pub decreases-counted_arm : goal.decreases-counted_arm
decreases-counted_arm l = 20 * l.room + 5

abbrev pub decreases-counted_parts : goal.decreases-counted_parts
decreases-counted_parts l = 20 * l.room + 6

abbrev pub decreases-counting : goal.decreases-counting
decreases-counting l = 20 * l.room + 7

abbrev pub invariant-more_statements-turns : goal.invariant-more_statements-turns
invariant-more_statements-turns l = record {
  gives : many (statement_by (sight l.setting) l.kind l.room) followed (tall_of statements_of l.fn.all) l.tokens
      ≡ many (statement_by (sight l.setting) l.kind l.room) followed (tall_of statements_of l.all) l.rest;
  low : l.all.levels ≤ l.room;
}

abbrev pub decreases-more_statements-turns : goal.decreases-more_statements-turns
decreases-more_statements-turns l = length l.rest
