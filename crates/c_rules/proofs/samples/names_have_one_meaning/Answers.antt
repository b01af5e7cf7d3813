use Rattle.c_rules.proofs.NamingSampled.{names_have_one_meaning}
use Rattle.c_rules.proofs.samples.names_have_one_meaning.Goals as goal

pub returns : goal.returns
returns c = names_have_one_meaning
