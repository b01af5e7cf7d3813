use Rattle.std.proofs.Common.{◌≡◌, ◌++◌, drop}
use Rattle.outline_pieces.specs.Walks as spec
use Rattle.outline_pieces.proofs.walk.held_points.Given as goal

abbrev pub invariant-loop-place : goal.invariant-loop-place
invariant-loop-place l =
    spec.walked l.mutexes l.nothing (spec.start l.nothing) l.places ≡ spec.mapped (λ x. l.points ++ x) (spec.walked l.mutexes l.nothing l.walk (drop l.place-index l.places))
