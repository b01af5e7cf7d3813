use Rattle.c_fronts.proofs.Put.{takes}
use Rattle.c_fronts.proofs.Outer.{capacities_taken}
use Rattle.c_fronts.proofs.capacities_take.Goals as goal

pub returns : goal.returns
returns c = λ before after x d. takes (capacities_taken d)
