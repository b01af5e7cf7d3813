use Rattle.std.proofs.Common.{◌∙◌, arith}
use Rattle.c_places.proofs.Numbering.{objects_numbered, objects_take}
use Rattle.c_places.proofs.numbers.Numbers.mutex.Goals as goal

pub returns : goal.returns
returns c = λ p h. c.place.ensures _ _ h.mutexes (let e = objects_take p.mutexes in omega (arith, e, h.mutexes_fit)) ∙ objects_numbered 0 p.mutexes c.args.name.now c.args.index
