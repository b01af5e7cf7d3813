use Rattle.coverage.proofs.First.{first_bad_is_one, covered_have_no_bad}
use Rattle.coverage.proofs.laws.first_bad_sets_are_one.Goals as goal

pub returns : goal.returns
returns c = record { one = first_bad_is_one; covered = covered_have_no_bad }
