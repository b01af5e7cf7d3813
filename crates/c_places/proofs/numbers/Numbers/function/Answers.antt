use Rattle.std.proofs.Common.{◌∙◌, arith}
use Rattle.c_places.proofs.Numbering.{places, functions_take}
use Rattle.c_places.proofs.numbers.Numbers.function.Goals as goal

pub returns : goal.returns
returns c = λ p h. c.place.ensures _ _ h.functions (let e = functions_take p.functions in omega (arith, e, h.functions_fit)) ∙ places (λ x. x.name) p.functions c.args.name.now
