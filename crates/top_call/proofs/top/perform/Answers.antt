use Rattle.top_call.proofs.Told.{ends_told, ends_forgotten}
use Rattle.top_call.proofs.top.perform.Goals as goal

pub returns-in-Ok-clause-ends : goal.returns-in-Ok-clause-ends
returns-in-Ok-clause-ends g c =
    ends_told _ _ (g.H.Host.seen c.define.new.host) _ _ _ c.define.ensures.only_reads c.tell.ensures.read_faults c.tell.ensures.asked c.in-Ok.ensures.defines c.tell.ensures.tells

pub returns-in-Err-clause-ends : goal.returns-in-Err-clause-ends
returns-in-Err-clause-ends g c =
    ends_forgotten _ _ (g.H.Host.seen c.define.new.host) _ c.define.ensures.only_reads c.complain.ensures.out c.complain.ensures.says
