use Rattle.std.proofs.Common.{refl, ap, ◌∙◌, inl, inr}
use Rattle.edges.specs.Ops.{blocks}
use Rattle.std.proofs.lemmas.Bool.{eq-eqb}
use Rattle.flow_checks.proofs.edge.is_sole.Goals as goal

pub returns-in-Acquire : goal.returns-in-Acquire
returns-in-Acquire c = (
  λ t r blocked. c.is_only_edge.ensures.0 t,
  λ sole. c.is_only_edge.ensures.1 (elim c.in-Acquire.is [
    | inl is ↦ sole is.0 (ap (λ op. blocks op is.0) is.1 ∙ eq-eqb is.0 is.0 refl)
    | inr is ↦ sole is.0 (ap (λ op. blocks op is.0) is.1 ∙ eq-eqb is.0 is.0 refl)
  ]),
)
