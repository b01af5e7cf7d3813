use Rattle.std.proofs.Common.{◌≡◌}
use Rattle.place_sets.proofs.tests.multiples.Given as goal

abbrev pub invariant-loop-above : goal.invariant-loop-above
invariant-loop-above g l = g.S.PlaceSet.bound l.set ≡ l.size
