use Rattle.c_fronts.proofs.Put.{takes}
use Rattle.c_fronts.proofs.Outer.{objects_taken}
use Rattle.c_fronts.proofs.objects_take.Goals as goal

pub returns : goal.returns
returns c = λ o before after x d. takes (objects_taken d)
