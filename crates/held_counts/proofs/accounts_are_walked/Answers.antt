use Rattle.held_counts.proofs.Whole.{accounts_walked}
use Rattle.held_counts.proofs.accounts_are_walked.Goals as goal

pub returns : goal.returns
returns c = accounts_walked
