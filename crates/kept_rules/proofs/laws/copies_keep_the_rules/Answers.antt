use Rattle.kept_rules.proofs.Copied.{copy_formed}
use Rattle.kept_rules.proofs.laws.copies_keep_the_rules.Goals as goal

pub returns : goal.returns
returns c = copy_formed
