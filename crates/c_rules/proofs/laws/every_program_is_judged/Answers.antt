use Rattle.c_rules.proofs.Judgements.{judged}
use Rattle.c_rules.proofs.laws.every_program_is_judged.Goals as goal

pub returns : goal.returns
returns c = judged
