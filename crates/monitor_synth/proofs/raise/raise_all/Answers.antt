use Rattle.std.proofs.Common.{subst, ⊎_elim, inl, inr, arith}
use Rattle.std.specs.Prelude.{slice_index, Contains}
use Rattle.std.proofs.lemmas.List.Elements.{Contains-push_cases}
use Rattle.gadara_net.specs.Flows.{flow_net}
use Rattle.monitor_synth.specs.Raised.{IsSettled}
use Rattle.monitor_synth.proofs.Rising.{settled_still}
use Rattle.monitor_synth.proofs.raise.raise_all.Goals as goal

pub loop-point-preserved : goal.loop-point-preserved
loop-point-preserved c =
    let n = flow_net c.args.n.now in
    let inv = c.loop-point.invariant in
    let made = c.in_ok-raise_before.ensures in
    let m = slice_index c.loop-point.moved in
    let more = slice_index c.raise_before.new.moved in
    let left = c.pop.new.self.items in
    let longer = c.raise_before.new.todo.items in
    record {
      reached = λ w was. made.reached w (inv.reached w was);
      settled = λ p.
          ⊎_elim
          (λ settled. settled_still n m more left longer made.risen p settled)
          (λ there.
          ⊎_elim
          (λ behind. inr (made.risen.kept p behind))
          (λ here. inl (subst (IsSettled n more) here made.settled))
          (Contains-push_cases left c.in-Some.point p (subst (λ xs. Contains xs p) c.in-Some.ensures.items there)))
          (inv.settled p);
      below = made.below;
    }

pub returns-clause-settled : goal.returns-clause-settled
returns-clause-settled c p =
    ⊎_elim
    (λ settled. settled)
    (λ there. absurd (omega (arith, there.1, c.in_default.ensures.cases.0)))
    (c.loop-point.invariant.settled p)
