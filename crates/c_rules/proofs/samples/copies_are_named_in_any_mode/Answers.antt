use Rattle.c_rules.proofs.NamingSampled.{copies_are_named_in_any_mode}
use Rattle.c_rules.proofs.samples.copies_are_named_in_any_mode.Goals as goal

pub returns : goal.returns
returns c = copies_are_named_in_any_mode
