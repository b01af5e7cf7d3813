use Rattle.c_fronts.proofs.Put.{takes}
use Rattle.c_fronts.proofs.Statements.{slots_taken}
use Rattle.c_fronts.proofs.slots_take.Goals as goal

pub returns : goal.returns
returns c = λ before after x d. takes (slots_taken d)
