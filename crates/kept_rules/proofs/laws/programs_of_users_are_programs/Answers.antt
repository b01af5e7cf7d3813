use Rattle.kept_rules.proofs.AnyMode.{any_formed}
use Rattle.kept_rules.proofs.laws.programs_of_users_are_programs.Goals as goal

pub returns : goal.returns
returns c = any_formed
