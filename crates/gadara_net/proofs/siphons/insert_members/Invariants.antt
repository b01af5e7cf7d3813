use Rattle.std.proofs.Common.{◌≡◌, ℕ}
use Rattle.std.specs.Prelude.{IsTrue, ◌↔◌, ◌⊎◌}
use Rattle.net_laws.specs.Candidates.{members}
use Rattle.gadara_net.specs.Marks.{HasMember}
use Rattle.gadara_net.proofs.siphons.insert_members.Given as goal

abbrev pub invariant-loop-r : goal.invariant-loop-r
invariant-loop-r g l = record {
  bound : g.S.PlaceSet.bound l.out ≡ g.S.PlaceSet.bound l.fn.out;
  places : (place : ℕ) → IsTrue (g.S.PlaceSet.places l.out place) ↔ (IsTrue (g.S.PlaceSet.places l.fn.out place) ⊎ HasMember (members l.resources) l.points l.r place);
}
