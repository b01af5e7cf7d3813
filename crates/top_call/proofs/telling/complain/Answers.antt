use Rattle.std.proofs.Common.{refl}
use Rattle.top_call.proofs.Told.{says_added}
use Rattle.top_call.proofs.telling.complain.Goals as goal

pub returns-clause-says : goal.returns-clause-says
returns-clause-says g c =
    says_added c.args.line.now _ (g.H.Host.seen c.args.host.now) (g.H.Host.seen c.complain.new.self) c.complain.result refl c.complain.ensures.added c.complain.ensures.cause
