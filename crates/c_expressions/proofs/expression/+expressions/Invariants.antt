use Rattle.std.proofs.Common.{◌≡◌, ◌≤◌, ◌+◌, ◌*◌, length}
use Rattle.c_tree.specs.Expressions.{expr_of}
use Rattle.parse_laws.specs.Parser.{loop}
use Rattle.parse_laws.specs.Operators.{operate}
use Rattle.c_expressions.specs.Gives.{sight, tall_of}
use Rattle.c_expressions.specs.Parsers.{expressions_of, lower_in}
use Rattle.c_expressions.proofs.expression.+expressions.Given as goal

abbrev pub decreases-expression : goal.decreases-expression
decreases-expression l = 1000 * l.room

abbrev pub decreases-closed : goal.decreases-closed
decreases-closed l = 1000 * l.room + 10

abbrev pub decreases-pointer_first : goal.decreases-pointer_first
decreases-pointer_first l = 1000 * l.room + 15

abbrev pub decreases-pointer : goal.decreases-pointer
decreases-pointer l = 1000 * l.room + 20

abbrev pub decreases-opened : goal.decreases-opened
decreases-opened l = 1000 * l.room + 25

abbrev pub decreases-index : goal.decreases-index
decreases-index l = 1000 * l.room

abbrev pub decreases-member : goal.decreases-member
decreases-member l = 1000 * l.room + 10

abbrev pub decreases-name_operand : goal.decreases-name_operand
decreases-name_operand l = 1000 * l.room + 20

abbrev pub decreases-negated : goal.decreases-negated
decreases-negated l = 1000 * l.room

abbrev pub decreases-reversed : goal.decreases-reversed
decreases-reversed l = 1000 * l.room

abbrev pub decreases-operand : goal.decreases-operand
decreases-operand l = 1000 * l.room + 40

abbrev pub decreases-turn : goal.decreases-turn
decreases-turn l = 1000 * l.room + 10

abbrev pub decreases-operators : goal.decreases-operators
decreases-operators l = 1000 * l.room + 100 * l.level + 99

abbrev pub decreases-chain : goal.decreases-chain
decreases-chain l = 1000 * l.room + 100 * l.level + 50

abbrev pub invariant-operators-turns : goal.invariant-operators-turns
invariant-operators-turns l = record {
  gives : loop (operate (expressions_of (sight l.setting)) l.room l.level (lower_in (sight l.setting) l.room l.level)) (tall_of expr_of l.fn.left) l.tokens
      ≡ loop (operate (expressions_of (sight l.setting)) l.room l.level (lower_in (sight l.setting) l.room l.level)) (tall_of expr_of l.left) l.rest;
  low : l.left.levels ≤ l.room + 2;
}

abbrev pub decreases-operators-turns : goal.decreases-operators-turns
decreases-operators-turns l = length l.rest
