use Rattle.std.proofs.Common.{◌+◌, ◌*◌, drop}
use Rattle.flow_graph.specs.Left.{left_in}
use Rattle.flow_graph.specs.Routes.{shown_stops}
use Rattle.flow_graph.specs.Walking.{woven_at, Adds}
use Rattle.flow_graph.proofs.routes.Routes.+walk.Given as goal

-- a call enters a function above
abbrev pub decreases-enter : goal.decreases-enter
decreases-enter l = 3 * l.k + 2

abbrev pub decreases-pass : goal.decreases-pass
decreases-pass l = 3 * l.k + 1

abbrev pub decreases-call : goal.decreases-call
decreases-call l = 3 * l.k

-- what is added so far, and what is left
abbrev pub invariant-enter-loop-stop : goal.invariant-enter-loop-stop
invariant-enter-loop-stop l = Adds (woven_at l.self l.k (shown_stops l.stop-items) (left_in l.fn.marks)) (woven_at l.self l.k (shown_stops (drop l.stop-index l.stop-items)) (left_in l.marks)) l.fn.builder l.builder
