use Rattle.std.proofs.Common.{◌<◌, sym, subst}
use Rattle.std.specs.Option.{MatchOption}
use Rattle.net_laws.specs.Lines.{IsBad}
use Rattle.gadara_net.specs.Flows.{flow_net}
use Rattle.gadara_net.specs.Bounds.{IsFirstKind}
use Rattle.gadara_net.proofs.Bounding.{first_thread, first_guard, first_monitor, none_holds}
use Rattle.gadara_net.proofs.lines.first_kind.Goals as goal

pub returns-in-Some : goal.returns-in-Some
returns-in-Some c = first_thread (flow_net c.args.flow.now) c.args.resources c.in-Some.i c.in-Some.ensures.0 c.in-Some.ensures.1

pub returns-in-Some-first_of : goal.returns-in-Some-first_of
returns-in-Some-first_of c =
    first_guard (flow_net c.args.flow.now) c.args.resources c.in-Some-first_of.g c.in_default.ensures c.in-Some-first_of.ensures.0 c.in-Some-first_of.ensures.1

pub returns-in_err-c : goal.returns-in_err-c
returns-in_err-c c =
    let n = flow_net c.args.flow.now in
    subst (λ r. MatchOption r (IsBad n c.args.resources) (λ first. IsFirstKind n c.args.resources first)) (sym c.from_residual.ensures)
    (none_holds n c.args.resources c.in_default.ensures
    (λ j lt. c.in_default-first_of.ensures j (subst (λ k. j < k) (sym c.len-count.ensures) lt))
    (λ j lt. c.in_err-c.ensures j (subst (λ k. j < k) (sym c.len-count.ensures) lt)))

pub returns : goal.returns
returns c =
    first_monitor (flow_net c.args.flow.now) c.args.resources c.in_ok-c.c c.in_default.ensures
    (λ j lt. c.in_default-first_of.ensures j (subst (λ k. j < k) (sym c.len-count.ensures) lt))
    c.in_ok-c.ensures.0 c.in_ok-c.ensures.1
