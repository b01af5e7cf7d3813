use Rattle.run_laws.proofs.Runs.{invariant_holds}
use Rattle.run_laws.proofs.invariants_hold_along_runs.Goals as goal

pub returns : goal.returns
returns g c = invariant_holds g.S.System.step g.S.Kept.holds g.met.S.Kept.kept
