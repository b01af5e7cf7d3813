use Rattle.std.proofs.Common.{refl, ⊎_elim, inl, inr}
use Rattle.std.proofs.lemmas.Bool.{eq-eqb}
use Rattle.gadara_net.specs.Flows.{flow_net}
use Rattle.gadara_net.proofs.laws.single_siphons_bound_least_siphons.Goals as goal

pub returns-clause-places : goal.returns-clause-places
returns-clause-places c R place has =
    ⊎_elim
    (λ point. let s = c.single_siphons_bound_least_siphons.ensures.union (flow_net c.args.net.now) R place point.1 in (s.0, s.1, inl (point.0, s.2)))
    (λ resource. (resource.0, resource.1, inr (resource.0, eq-eqb resource.0 resource.0 refl, resource.2)))
    has
