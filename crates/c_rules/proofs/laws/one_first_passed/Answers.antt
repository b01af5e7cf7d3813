use Rattle.c_rules.proofs.Passed.{one_first_passed}
use Rattle.c_rules.proofs.laws.one_first_passed.Goals as goal

pub returns : goal.returns
returns c = one_first_passed
