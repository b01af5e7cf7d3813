use Rattle.c_layout.proofs.Fitting.{quote_fits}
use Rattle.c_layout.proofs.laws.quotes.Goals as goal

pub returns : goal.returns
returns c = quote_fits
