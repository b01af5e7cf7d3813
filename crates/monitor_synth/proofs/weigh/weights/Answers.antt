use Rattle.std.proofs.Common.{Ok, Err, Result, sum_by, ap, ◌∙◌}
use Rattle.std.specs.Prelude.{IfOk}
use Rattle.place_sets.specs.Rows.{is_set}
use Rattle.monitor_synth.proofs.WeightSums.{weighed}
use Rattle.monitor_synth.proofs.weigh.weights.Goals as goal

both : {X E : Type 0} (r : Result X E) (P Q R : X → Type 0) → IfOk r P → IfOk r Q → ((x : X) → P x → Q x → R x) → IfOk r R
both (Ok x) P Q R p q f = f x p q
both (Err e) P Q R p q f = tt

pub returns-clause-weights : goal.returns-clause-weights
returns-clause-weights c =
    both _ _ _ _ c.weigh.ensures.each c.weigh.ensures.weights
    (λ w each numbers. weighed c.args.n.now c.args.resources (is_set c.least_siphon.new.out.words.items) c.deref.result.now w c.keeps_flow.ensures c.requires c.least_siphon.ensures.places (λ g. ap (sum_by g) c.deref.ensures.value ∙ c.in_ok-list.ensures.sums g) each numbers)
