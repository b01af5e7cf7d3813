use Rattle.spelled_numbers.proofs.SmallNumbers.{writable_is_small}
use Rattle.spelled_numbers.proofs.laws.writable_is_small.Goals as goal

pub returns : goal.returns
returns c = writable_is_small
