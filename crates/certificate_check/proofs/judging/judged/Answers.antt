use Rattle.std.proofs.Common.{subst}
use Rattle.gadara_net.specs.Flows.{flow_net}
use Rattle.candidates.specs.Components.{HasSmallComponents}
use Rattle.certificate_check.proofs.judging.judged.Goals as goal

pub returns-in-Some-first_uncovered : goal.returns-in-Some-first_uncovered
returns-in-Some-first_uncovered c =
    let small = subst (λ f. HasSmallComponents (flow_net f)) c.new-candidates.ensures c.in_default-too_large.ensures in
    (c.in_default.ensures.first, small, c.in-Some-first_uncovered.ensures)

pub returns : goal.returns
returns c =
    let small = subst (λ f. HasSmallComponents (flow_net f)) c.new-candidates.ensures c.in_default-too_large.ensures in
    (record { hold = c.in_default.ensures.first; cover = c.in-None.ensures }, small)
