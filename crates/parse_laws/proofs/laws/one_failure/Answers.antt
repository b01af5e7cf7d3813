use Rattle.parse_laws.specs.Sums.{Spells, height}
use Rattle.parse_laws.proofs.Exact.{one_failure}
use Rattle.parse_laws.proofs.laws.one_failure.Goals as goal

pub returns : goal.returns
returns c = λ r ts f g rest after a b. one_failure Spells height r ts f g rest after a b
