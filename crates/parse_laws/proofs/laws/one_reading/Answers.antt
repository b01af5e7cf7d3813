use Rattle.parse_laws.proofs.Exact.{one_value}
use Rattle.parse_laws.proofs.Sums.{list_exact}
use Rattle.parse_laws.proofs.laws.one_reading.Goals as goal

pub returns : goal.returns
returns c = λ ts a b d e. one_value list_exact ts a b d e
