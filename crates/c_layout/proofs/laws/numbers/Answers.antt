use Rattle.c_layout.proofs.Fitting.{number_fits}
use Rattle.c_layout.proofs.laws.numbers.Goals as goal

pub returns : goal.returns
returns c = number_fits
