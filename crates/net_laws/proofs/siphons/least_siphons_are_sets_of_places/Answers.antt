use Rattle.net_laws.proofs.Least.{as_places}
use Rattle.net_laws.proofs.siphons.least_siphons_are_sets_of_places.Goals as goal

pub returns : goal.returns
returns c n Q R shaped = as_places n shaped Q R
