use Rattle.c_rules.proofs.NamingSampled.{kept_names_are_reserved}
use Rattle.c_rules.proofs.samples.kept_names_are_reserved.Goals as goal

pub returns : goal.returns
returns c = kept_names_are_reserved
