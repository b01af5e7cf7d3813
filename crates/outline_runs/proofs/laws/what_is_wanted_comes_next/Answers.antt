use Rattle.outline_runs.proofs.Wanted.{wanted_comes_next}
use Rattle.outline_runs.proofs.laws.what_is_wanted_comes_next.Goals as goal

pub returns : goal.returns
returns c = wanted_comes_next
