use Rattle.c_rules.proofs.UsingSampled.{misuses_are_wrong_kinds}
use Rattle.c_rules.proofs.samples.misuses_are_wrong_kinds.Goals as goal

pub returns : goal.returns
returns c = misuses_are_wrong_kinds
