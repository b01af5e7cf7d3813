use Rattle.c_canonical.proofs.Canonical.{shaped_is_spelled}
use Rattle.c_canonical.proofs.laws.shaped_is_spelled.Goals as goal

pub returns : goal.returns
returns c = shaped_is_spelled
