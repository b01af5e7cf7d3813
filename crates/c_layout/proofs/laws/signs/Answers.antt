use Rattle.c_layout.proofs.Fitting.{sign_fits}
use Rattle.c_layout.proofs.laws.signs.Goals as goal

pub returns : goal.returns
returns c = sign_fits
