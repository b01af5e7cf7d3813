use Rattle.c_fronts.proofs.Put.{takes}
use Rattle.c_fronts.proofs.Outer.{function_taken}
use Rattle.c_fronts.proofs.functions_take.Goals as goal

pub returns : goal.returns
returns c = λ before after x d. takes (function_taken d)
