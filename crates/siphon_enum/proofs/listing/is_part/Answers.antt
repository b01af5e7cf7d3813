use Rattle.siphon_enum.proofs.Judged.{part_from_and, and_from_part}
use Rattle.siphon_enum.proofs.listing.is_part.Goals as goal

pub returns : goal.returns
returns c = (part_from_and c.args.one c.args.other, and_from_part c.args.one c.args.other)
