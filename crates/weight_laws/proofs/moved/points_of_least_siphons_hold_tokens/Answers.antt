use Rattle.weight_laws.proofs.Along.{held_there}
use Rattle.weight_laws.proofs.moved.points_of_least_siphons_hold_tokens.Goals as goal

pub returns : goal.returns
returns c n R S net marked = held_there n net R S marked
