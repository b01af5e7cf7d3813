use Rattle.parse_laws.proofs.Exact.{whole_is_exact}
use Rattle.parse_laws.proofs.Sums.{list_exact}
use Rattle.parse_laws.proofs.laws.answers_are_exact.Goals as goal

pub returns : goal.returns
returns c = λ r ts. whole_is_exact list_exact r ts
