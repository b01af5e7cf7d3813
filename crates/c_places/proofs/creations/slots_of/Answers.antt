use Rattle.std.proofs.Common.{◌++◌, ◌∙◌, sym, ap, map, find, bytes_eq, unwrap_or, Option, option_map}
use denote.Ref.{Bor}
use Rattle.c_tree.specs.declared.program.Function.{Function}
use Rattle.c_tree.specs.Bare.{Nil}
use Rattle.c_tree.specs.Numbering.{creations_of, main_name}
use Rattle.c_meaning.specs.Shown.{shown_body}
use Rattle.c_places.specs.Slots.{slots_of, kept}
use Rattle.c_places.proofs.Slots.{main_found}
use Rattle.c_places.proofs.creations.slots_of.Goals as goal
use Rattle.c_places.proofs.creations.slots_of.Goals.{in-Some+in_ok-push_slots, in_default}

pub returns : goal.returns
returns c =
    let body = main_found c.args.p.now c.function_named.result (c.function_named.ensures ∙ ap (find (λ f. bytes_eq f.name main_name)) c.as_slice.ensures) in
    let slots_in = λ (main : Option (Bor Function)). slots_of (creations_of (unwrap_or (option_map (λ f. shown_body f.now.body) main) Nil)) in
    elim c.match-function_named.branch [
      | in-Some+in_ok-push_slots w ↦ (
          ap (λ slots. map kept slots.items) w.slots-is ∙ w.in_ok-push_slots.ensures
          ∙ ap (λ before. map kept before ++ slots_of (creations_of (shown_body w.as_slice-in-Some.result.now))) c.new-slots.ensures.items
          ∙ ap (λ ss. slots_of (creations_of (shown_body ss))) w.as_slice-in-Some.ensures
          ∙ sym (ap slots_in w.in-Some.is) ∙ ap (λ ss. slots_of (creations_of ss)) (sym body)
          )
      | in_default w ↦ (
          ap (λ slots. map kept slots.items) w.slots-is ∙ ap (map kept) c.new-slots.ensures.items
          ∙ sym (ap slots_in w.in_default.is) ∙ ap (λ ss. slots_of (creations_of ss)) (sym body)
          )
    ]
