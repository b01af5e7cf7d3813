use Rattle.std.proofs.Common.{ap}
use Rattle.std.specs.Prelude.{bit_or}
use Rattle.candidates.proofs.Bitwise.{below_place}
use Rattle.candidates.proofs.subsets.with_all_below.Goals as goal

pub returns : goal.returns
returns c = ap (bit_or c.args.set) (below_place c.args.room c.args.place c.requires)
