use Rattle.c_layout.proofs.Readings.{reading}
use Rattle.c_layout.proofs.laws.reading.Goals as goal

pub returns : goal.returns
returns c = reading
