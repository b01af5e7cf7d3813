use Rattle.std.proofs.Common.{◌≡◌, ◌∙◌, sym, Some, arith}
use Rattle.c_places.specs.Tables.{number_in}
use Rattle.c_places.proofs.Tables.{number_within}
use Rattle.c_places.proofs.table.Table.place.Goals as goal

pub returns : goal.returns
returns c = λ first things h small.
    let e : number_in first things c.args.name.now c.args.index ≡ Some c.in_ok-number.field-0 = sym (c.number.ensures first things h) ∙ c.in_ok-number.was in
    let w = number_within first things c.args.name.now c.args.index c.in_ok-number.field-0 e in
    c.narrow.ensures (omega (arith, w, small)) ∙ sym e
