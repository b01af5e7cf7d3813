use Rattle.c_canonical.proofs.Canonical.{spelled_is_shaped}
use Rattle.c_canonical.proofs.laws.spelled_is_shaped.Goals as goal

pub returns : goal.returns
returns c = spelled_is_shaped
