use Rattle.weight_laws.proofs.Along.{marks}
use Rattle.weight_laws.proofs.Moving.{same}
use Rattle.weight_laws.proofs.moved.weights_are_determined.Goals as goal

pub returns-clause-marks : goal.returns-clause-marks
returns-clause-marks c = marks

pub returns-clause-moved : goal.returns-clause-moved
returns-clause-moved c = same
