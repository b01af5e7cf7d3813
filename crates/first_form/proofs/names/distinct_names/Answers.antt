use Rattle.std.proofs.Common.{[], arith, rules}
use Rattle.std.proofs.lemmas.List.{map_more}
use Rattle.std.proofs.lemmas.Grind.{common_steps}
use Rattle.first_form.proofs.Sets.{distinct_step, distinct_stops}
use Rattle.first_form.proofs.names.distinct_names.Goals as goal

pub loop-name-preserved : goal.loop-name-preserved
loop-name-preserved c =
    distinct_step c.loop-name.set c.insert.new.self _ _ c.in_ok-insert.ensures.keys c.in_ok-insert.ensures.added (search rules) _ _
    (grind (arith, common_steps, map_more)) c.loop-name.invariant

pub returns-then-not-branch-clause-differ : goal.returns-then-not-branch-clause-differ
returns-then-not-branch-clause-differ c =
    distinct_stops c.loop-name.set _ _ c.in_ok-insert.ensures.added (search rules) c.args.names.now c.loop-name.name-index (record { ref_ptr = (0, 0); now = [] }) (omega (arith, c.loop-name-test.true)) (grind (arith, common_steps)) c.loop-name.invariant.0
