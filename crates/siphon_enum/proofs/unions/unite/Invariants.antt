use Rattle.std.proofs.Common.{◌≡◌, ℕ, ◌<◌}
use Rattle.std.specs.Prelude.{IsTrue}
use Rattle.siphon_enum.proofs.unions.unite.Given as goal

abbrev pub invariant-loop-place : goal.invariant-loop-place
invariant-loop-place g l = record {
  size : g.S.PlaceSet.bound l.set ≡ g.S.PlaceSet.bound l.fn.set;
  kept : (place : ℕ) → IsTrue (g.S.PlaceSet.places l.fn.set place) → IsTrue (g.S.PlaceSet.places l.set place);
  gained : (place : ℕ) → place < l.place → IsTrue (g.S.PlaceSet.places l.other place) → IsTrue (g.S.PlaceSet.places l.set place);
}
