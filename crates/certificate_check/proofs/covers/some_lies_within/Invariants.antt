use Rattle.std.proofs.Common.{◌≡◌, ℕ, ◌<◌, Some}
use Rattle.std.specs.Prelude.{slice_get}
use Rattle.place_sets.specs.Sets.{IsPartOf}
use Rattle.certificate.specs.declared.Line.{Line}
use Rattle.net_laws.specs.Candidates.{members}
use Rattle.certificate_check.proofs.covers.some_lies_within.Given as goal

abbrev pub invariant-loop-k : goal.invariant-loop-k
invariant-loop-k g l =
    (j : ℕ) (line : Line) (s : _) → j < l.k → slice_get l.lines j ≡ Some line → slice_get l.siphons j ≡ Some s
    → IsPartOf (members line.resources) (members l.resources) → IsPartOf (g.S.PlaceSet.places s) (g.S.PlaceSet.places l.places) → ⊥
