use Rattle.c_rules.proofs.ThreadSampled.{arguments_are_constant}
use Rattle.c_rules.proofs.samples.arguments_are_constant.Goals as goal

pub returns : goal.returns
returns c = arguments_are_constant
