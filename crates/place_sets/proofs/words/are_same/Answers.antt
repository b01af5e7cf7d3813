use Rattle.place_sets.proofs.BitLaws.{same_from_mask}
use Rattle.place_sets.proofs.words.are_same.Goals as goal

pub returns : goal.returns
returns c = same_from_mask c.args.one c.args.other c.fits-one.0 c.fits-other.0
