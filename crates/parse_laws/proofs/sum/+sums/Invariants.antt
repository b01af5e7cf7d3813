use Rattle.std.proofs.Common.{◌≡◌, ◌≤◌, ◌+◌, ◌*◌, length}
use Rattle.parse_laws.specs.Parser.{loop}
use Rattle.parse_laws.specs.Operators.{operate, below}
use Rattle.parse_laws.specs.SumParser.{sums}
use Rattle.parse_laws.proofs.sum.+sums.Given as goal

abbrev pub decreases-closed : goal.decreases-closed
decreases-closed l = 1000 * l.room + 10

abbrev pub decreases-opened : goal.decreases-opened
decreases-opened l = 1000 * l.room + 15

abbrev pub decreases-operand : goal.decreases-operand
decreases-operand l = 1000 * l.room + 20

abbrev pub decreases-negated : goal.decreases-negated
decreases-negated l = 1000 * l.room + 300

abbrev pub decreases-turn : goal.decreases-turn
decreases-turn l = 1000 * l.room + 10

abbrev pub decreases-operators : goal.decreases-operators
decreases-operators l = 1000 * l.room + 100 * l.level + 99

abbrev pub decreases-chain : goal.decreases-chain
decreases-chain l = 1000 * l.room + 100 * l.level + 50

abbrev pub invariant-operators-turns : goal.invariant-operators-turns
invariant-operators-turns l = record {
  gives : loop (operate sums l.room l.level (below sums l.room l.level)) l.fn.left l.tokens ≡ loop (operate sums l.room l.level (below sums l.room l.level)) l.left l.rest;
  low : l.left.height ≤ l.room;
}

abbrev pub decreases-operators-turns : goal.decreases-operators-turns
decreases-operators-turns l = length l.rest
