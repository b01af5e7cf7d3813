use Rattle.c_canonical.proofs.Canonical.{canonical_spells}
use Rattle.c_canonical.proofs.laws.canonical_spells.Goals as goal

pub returns : goal.returns
returns c = canonical_spells
