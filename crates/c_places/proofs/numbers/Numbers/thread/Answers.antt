use Rattle.std.proofs.Common.{◌+◌, ◌∙◌, sym, ap, position, option_map}
use Rattle.c_tree.specs.Expressions.{place_of}
use Rattle.c_tree.specs.Numbering.{creations}
use Rattle.c_places.specs.Slots.{same, kept, slot_at}
use Rattle.c_places.proofs.Slots.{slot_found}
use Rattle.c_places.proofs.numbers.Numbers.thread.Goals as goal

pub returns-in_err-place : goal.returns-in_err-place
returns-in_err-place c = λ p h.
    let slot = place_of c.args.slot.now in
    let found = c.place_of_slot.ensures ∙ ap (position (λ s. same (kept s) (slot_at slot))) c.as_slice.ensures.value ∙ slot_found c.args.self.now.slots.items (creations p) slot h.slots in
    c.from_residual.ensures ∙ ap (option_map (λ k. k + 1)) (sym c.in_err-place.was ∙ found)

pub returns : goal.returns
returns c = λ p h.
    let slot = place_of c.args.slot.now in
    let found = c.place_of_slot.ensures ∙ ap (position (λ s. same (kept s) (slot_at slot))) c.as_slice.ensures.value ∙ slot_found c.args.self.now.slots.items (creations p) slot h.slots in
    ap (option_map (λ k. k + 1)) (sym c.in_ok-place.was ∙ found)
