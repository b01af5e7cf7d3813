use Rattle.spelled_numbers.proofs.SpelledSmall.{spelled_is_small}
use Rattle.spelled_numbers.proofs.laws.spelled_is_small.Goals as goal

pub returns : goal.returns
returns c = spelled_is_small
