use Rattle.std.proofs.Common.{arith}
use Rattle.std.proofs.lemmas.List.{map_more}
use Rattle.std.proofs.lemmas.Grind.{common_steps}
use Rattle.first_form.proofs.Sets.{knows_step}
use Rattle.first_form.proofs.names.name_set.Goals as goal

pub loop-item-preserved : goal.loop-item-preserved
loop-item-preserved g c =
    knows_step c.loop-item.set c.insert.new.self _ _ c.in_ok-insert.ensures.keys c.in_ok-insert.ensures.added _ _
    (grind (arith, common_steps, map_more)) c.loop-item.invariant
