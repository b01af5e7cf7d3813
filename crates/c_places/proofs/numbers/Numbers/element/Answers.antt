use Rattle.std.proofs.Common.{◌∙◌, length, map, Some, ap, arith, w32}
use Rattle.std.proofs.lemmas.Int.{to_z-of_z}
use Rattle.c_places.specs.Tables.{number_in, of_array}
use Rattle.c_places.proofs.Numbering.{arrays_numbered, arrays_take}
use Rattle.c_places.proofs.numbers.Numbers.element.Goals as goal

pub returns : goal.returns
returns c = λ p h.
    c.place.ensures _ _ h.arrays (let e = arrays_take p.arrays in omega (arith, e, h.cells_fit))
    ∙ ap (λ index. number_in (length p.ints) (map of_array p.arrays) c.args.name.now (Some index)) (to_z-of_z w32 c.args.index c.ranges.index)
    ∙ arrays_numbered (length p.ints) p.arrays c.args.name.now c.args.index
