use Rattle.std.proofs.Common.{◌≡◌, length}
use Rattle.outline_pieces.specs.Backward as spec
use Rattle.outline_pieces.proofs.ways.edges_between.Given as goal

abbrev pub invariant-loop-place : goal.invariant-loop-place
invariant-loop-place l = spec.over spec.start l.initial.places ≡ spec.over l.ways l.places

abbrev pub decreases-loop-place : goal.decreases-loop-place
decreases-loop-place l = length l.places
