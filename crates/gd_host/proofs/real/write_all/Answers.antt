use Rattle.std.proofs.Common.{arith}
use Rattle.std.proofs.lemmas.Grind.{common_steps}
use Rattle.gd_host.proofs.Written.{appends_more}
use Rattle.gd_host.proofs.real.write_all.Goals as goal

pub loop-written-preserved : goal.loop-written-preserved
loop-written-preserved g c =
    (grind (arith, common_steps), appends_more _ _ _ c.args.bytes.now c.loop-written.written c.in-Ok.count c.loop-written.invariant.1 c.in-Ok.ensures.bytes)
