use Rattle.c_canonical.proofs.Canonical.{texts_are_writable}
use Rattle.c_canonical.proofs.laws.texts_are_writable.Goals as goal

pub returns : goal.returns
returns c = texts_are_writable
