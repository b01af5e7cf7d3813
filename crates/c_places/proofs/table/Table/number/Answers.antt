use Rattle.std.proofs.Common.{◌≡◌, ◌∙◌, sym, ap, Some, arith}
use Rattle.std.specs.Option.{option_and_then}
use Rattle.c_tree.specs.Numbering.{member}
use Rattle.c_places.specs.Tables.{ranged}
use Rattle.c_places.proofs.Tables.{first_within}
use Rattle.c_places.proofs.table.Table.number.Goals as goal

pub returns : goal.returns
returns c = λ first things h.
    let e : ranged first things c.args.name.now ≡ Some c.in_ok-range.field-0 = sym (h.finds c.args.name.now) ∙ sym c.range.ensures ∙ c.in_ok-range.was in
    let w = first_within first things c.args.name.now c.in_ok-range.field-0 e in
    c.member.ensures (omega (arith, w, h.fits)) ∙ sym (ap (option_and_then (λ r. member r.first r.len c.args.index)) e)
