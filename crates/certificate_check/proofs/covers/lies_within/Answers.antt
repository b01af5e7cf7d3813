use Rattle.std.proofs.lemmas.Bool.{eqb-true}
use Rattle.candidates.proofs.Bitwise.{part_common}
use Rattle.certificate_check.proofs.covers.lies_within.Goals as goal

pub returns-then-line-resources : goal.returns-then-line-resources
returns-then-line-resources g c = (
  λ on. ((part_common c.args.line.now.resources c.args.resources).0 c.if-line-resources.true, c.subset.ensures.part.0 on),
  λ both. c.subset.ensures.part.1 both.1,
)

pub returns-else-line-resources : goal.returns-else-line-resources
returns-else-line-resources g c = (
  λ on. absurd (c.if-line-resources.false (eqb-true _ _ on)),
  λ both. absurd (c.if-line-resources.false ((part_common c.args.line.now.resources c.args.resources).1 both.0)),
)
