use Rattle.std.proofs.Common.{◌∙◌, ap, sym}
use Rattle.outline_pieces.specs.Backward as spec
use Rattle.outline_pieces.specs.declared.ways.Ways.{Ways}
use Rattle.outline_pieces.proofs.Edging.{over_last}
use Rattle.outline_pieces.proofs.ways.edges_between.Goals as goal

pub loop-place-preserved : goal.loop-place-preserved
loop-place-preserved c =
    c.loop-place.invariant
    ∙ ap (spec.over c.loop-place.ways) c.in-Some.ensures
    ∙ over_last c.loop-place.ways c.pop.new.self c.in-Some.place
    ∙ ap (λ (w : Ways). spec.over w c.pop.new.self) (sym c.in_ok-step.ensures)
