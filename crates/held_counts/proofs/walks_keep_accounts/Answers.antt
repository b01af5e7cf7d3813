use Rattle.held_counts.proofs.Whole.{walks_keep}
use Rattle.held_counts.proofs.walks_keep_accounts.Goals as goal

pub returns : goal.returns
returns c = walks_keep
