use Rattle.c_rules.proofs.UsingSampled.{uses_fit}
use Rattle.c_rules.proofs.samples.uses_fit.Goals as goal

pub returns : goal.returns
returns c = uses_fit
