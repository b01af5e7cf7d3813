use Rattle.std.proofs.Common.{◌≡◌, ◌∙◌, List, [], ◌∷◌, map, Some, None, refl, sym, ap, arith}
use Rattle.std.specs.Prelude.{slice_get, unwrap_or}
use Rattle.c_tree.specs.declared.program.Slot.{Slot}
use Rattle.c_tree.specs.Lined.{bare_slot}
use Rattle.first_form.specs.FirstForm.{slot_len}
use Rattle.first_form.proofs.main_body.threads_len.Goals as goal

is_some : (slots : List Slot) (s : Slot) → slice_get slots 0 ≡ Some s → slot_len (map bare_slot slots) ≡ unwrap_or s.len 0
is_some [] s e = absurd (cc e)
is_some (x ∷ xs) s e = let w : Some x ≡ Some s = e in let same : x ≡ s = grind arith in ap (λ (z : Slot). unwrap_or z.len 0) same

is_none : (slots : List Slot) → slice_get slots 0 ≡ None → slot_len (map bare_slot slots) ≡ 0
is_none [] e = refl
is_none (x ∷ xs) e = absurd (cc e)

pub returns-in-Some : goal.returns-in-Some
returns-in-Some c = c.unwrap_or.ensures ∙ sym (is_some c.args.p.now.threads c.in-Some.slot.now (sym c.in-Some.ensures.value))

pub returns-in-None : goal.returns-in-None
returns-in-None c = sym (is_none c.args.p.now.threads (sym c.in-None.ensures.value))
