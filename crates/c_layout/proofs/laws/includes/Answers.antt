use Rattle.c_layout.proofs.Fitting.{include_fits}
use Rattle.c_layout.proofs.laws.includes.Goals as goal

pub returns : goal.returns
returns c = include_fits
