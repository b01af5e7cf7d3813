use Rattle.outline_pieces.proofs.Matching as matching
use Rattle.outline_pieces.proofs.laws.found_nets_are_held.Goals as goal

pub returns : goal.returns
returns c = matching.found_nets_are_held
