use Rattle.accounts.proofs.Holding.{reached_accounts, steps_keep, owners_counted}
use Rattle.accounts.proofs.points.threads_hold_by_what_they_do.Goals as goal

pub returns-clause-reached : goal.returns-clause-reached
returns-clause-reached c = reached_accounts

pub returns-clause-steps : goal.returns-clause-steps
returns-clause-steps c = steps_keep

pub returns-clause-owners : goal.returns-clause-owners
returns-clause-owners c = owners_counted
