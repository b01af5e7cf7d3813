use Rattle.std.proofs.Common.{subst}
use Rattle.gadara_net.specs.Flows.{flow_net}
use Rattle.certificate_check.specs.declared.verdict.Verdict.TheVariants.{LineFails, NotCovered, Valid}
use Rattle.certificate_check.proofs.Sole.{IsRight, verdict_comes, large_comes}
use Rattle.certificate_check.proofs.judging.check.Goals as goal

pub returns-clause-line_fails : goal.returns-clause-line_fails
returns-clause-line_fails c index =
    let n = flow_net c.args.net.now in
    verdict_comes n c.args.certificate.now.lines c.judged.result (LineFails index) (subst (λ lines. IsRight n lines c.judged.result) c.as_slice.ensures c.judged.ensures)

pub returns-clause-too_large : goal.returns-clause-too_large
returns-clause-too_large c component =
    let n = flow_net c.args.net.now in
    large_comes n c.args.certificate.now.lines c.judged.result component (subst (λ lines. IsRight n lines c.judged.result) c.as_slice.ensures c.judged.ensures)

pub returns-clause-not_covered : goal.returns-clause-not_covered
returns-clause-not_covered c candidate =
    let n = flow_net c.args.net.now in
    verdict_comes n c.args.certificate.now.lines c.judged.result (NotCovered candidate) (subst (λ lines. IsRight n lines c.judged.result) c.as_slice.ensures c.judged.ensures)

pub returns-clause-valid : goal.returns-clause-valid
returns-clause-valid c =
    let n = flow_net c.args.net.now in
    verdict_comes n c.args.certificate.now.lines c.judged.result Valid (subst (λ lines. IsRight n lines c.judged.result) c.as_slice.ensures c.judged.ensures)

pub returns-clause-never_stuck : goal.returns-clause-never_stuck
returns-clause-never_stuck c marking threads is stands stuck =
    let n = flow_net c.args.net.now in
    let right = subst (λ lines. IsRight n lines c.judged.result) c.as_slice.ensures c.judged.ensures in
    let valid = (verdict_comes n c.args.certificate.now.lines c.judged.result Valid right).0 is in
    c.nets_with_lines_have_no_stuck_set.ensures.valid marking threads c.args.certificate.now.lines valid.0 stands stuck
