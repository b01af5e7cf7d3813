use Rattle.std.proofs.Common.{◌≡◌, ◌+◌, map, take}
use Rattle.flow_graph.proofs.walk.resources_of.Given as goal

abbrev pub invariant-loop-k : goal.invariant-loop-k
invariant-loop-k l = l.resources.items ≡ map (λ k. l.mutexes + k) (take l.k-index l.monitors)
