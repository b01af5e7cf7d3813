use Rattle.c_layout.proofs.Fitting.{name_fits}
use Rattle.c_layout.proofs.laws.names.Goals as goal

pub returns : goal.returns
returns c = name_fits
