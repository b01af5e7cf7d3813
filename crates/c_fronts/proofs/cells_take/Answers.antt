use Rattle.c_fronts.proofs.Put.{takes}
use Rattle.c_fronts.proofs.Outer.{cells_taken}
use Rattle.c_fronts.proofs.cells_take.Goals as goal

pub returns : goal.returns
returns c = λ before after x d. takes (cells_taken d)
