use Rattle.std.proofs.Common.{◌≡◌, inr, refl, subst, ⊎_elim, arith}
use Rattle.std.specs.Prelude.{IsTrue}
use Rattle.gadara_net.specs.Flows.{flow_net}
use Rattle.candidates.proofs.Lying.{lies_fewer}
use Rattle.candidates.proofs.laws.least_siphons_tell_their_sets.Goals as goal

pub returns-clause-resources : goal.returns-clause-resources
returns-clause-resources c R r = (
  (λ has. ⊎_elim
      (λ point. absurd (omega (arith, point.0)))
      (λ resource. let same : resource.0 ≡ r = omega (arith, resource.2) in subst (λ x. IsTrue (R x)) same resource.1)
      has),
  (λ on. inr (r, on, refl)),
)

pub returns-clause-fewer : goal.returns-clause-fewer
returns-clause-fewer c Q C q p lies = lies_fewer (flow_net c.args.net.now) Q C q p lies
