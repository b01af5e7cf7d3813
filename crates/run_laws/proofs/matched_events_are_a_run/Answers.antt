use Rattle.run_laws.proofs.Runs.{simulated}
use Rattle.run_laws.proofs.matched_events_are_a_run.Goals as goal

pub returns : goal.returns
returns g c = simulated g.S.System.step g.T.System.step g.S.Followed.match_of g.S.Followed.related g.met.S.Followed.followed
