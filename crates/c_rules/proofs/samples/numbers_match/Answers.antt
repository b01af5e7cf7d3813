use Rattle.c_rules.proofs.UsingSampled.{numbers_match}
use Rattle.c_rules.proofs.samples.numbers_match.Goals as goal

pub returns : goal.returns
returns c = numbers_match
