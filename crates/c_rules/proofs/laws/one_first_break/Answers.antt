use Rattle.c_rules.proofs.Breaks.{one_first_break}
use Rattle.c_rules.proofs.laws.one_first_break.Goals as goal

pub returns : goal.returns
returns c = one_first_break
