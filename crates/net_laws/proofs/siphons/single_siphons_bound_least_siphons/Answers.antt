use Rattle.net_laws.proofs.Least.{union}
use Rattle.net_laws.proofs.Masks.{only-mask}
use Rattle.net_laws.proofs.siphons.single_siphons_bound_least_siphons.Goals as goal

pub returns-clause-union : goal.returns-clause-union
returns-clause-union c = union

pub returns-clause-masks : goal.returns-clause-masks
returns-clause-masks c = only-mask
