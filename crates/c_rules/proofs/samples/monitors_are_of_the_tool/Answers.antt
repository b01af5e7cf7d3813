use Rattle.c_rules.proofs.NamingSampled.{monitors_are_of_the_tool}
use Rattle.c_rules.proofs.samples.monitors_are_of_the_tool.Goals as goal

pub returns : goal.returns
returns c = monitors_are_of_the_tool
