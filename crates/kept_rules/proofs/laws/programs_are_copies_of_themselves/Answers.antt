use Rattle.kept_rules.proofs.Itself.{copy_of_itself}
use Rattle.kept_rules.proofs.laws.programs_are_copies_of_themselves.Goals as goal

pub returns : goal.returns
returns c = copy_of_itself
