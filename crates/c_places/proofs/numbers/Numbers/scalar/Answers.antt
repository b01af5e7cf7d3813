use Rattle.std.proofs.Common.{◌∙◌, arith}
use Rattle.c_places.proofs.Numbering.{places, ints_take}
use Rattle.c_places.proofs.numbers.Numbers.scalar.Goals as goal

pub returns : goal.returns
returns c = λ p h. c.place.ensures _ _ h.ints (let e = ints_take p.ints in omega (arith, e, h.cells_fit)) ∙ places (λ x. x.name) p.ints c.args.name.now
