-- The end of main, and the union of stuck sets.
use Rattle.std.proofs.Common.{◌≡◌, Bool, true, false, refl, sym, ◌∙◌, ◌⊎◌, inl, inr, ⊎_elim}
use Rattle.std.specs.Prelude.{◌||◌, if◌then◌else◌, IsTrue, slice_get}
use Rattle.c_meaning.specs.Outcome.{Outcome, NotEnabled}
use Rattle.c_meaning.specs.Step.{happened}
use Rattle.c_meaning.specs.Laws.{EndsWithMain, BlockedForOne, StuckSetsUnite}
use Rattle.c_meaning.proofs.Reading.{some_is}

ended_if : (b : Bool) (o : Outcome) → b ≡ true → (if b then NotEnabled else o) ≡ NotEnabled
ended_if true o e = refl
ended_if false o e = absurd (cc e)

pub ends_with_main : EndsWithMain
ends_with_main p s e ended = ended_if s.main_ended (happened p s e.thread e.kind (slice_get s.threads e.thread)) ended

pub blocked_for_one : BlockedForOne
blocked_for_one p s t r q blocked other = some_is r q (sym blocked.next ∙ other.next)

in_left : (a b : Bool) → IsTrue a → IsTrue (a || b)
in_left true b is = refl
in_left false b is = absurd (cc is)

in_right : (a b : Bool) → IsTrue b → IsTrue (a || b)
in_right true b is = refl
in_right false b is = is

in_one : (a b : Bool) → IsTrue (a || b) → IsTrue a ⊎ IsTrue b
in_one true b is = inl refl
in_one false b is = inr is

pub stuck_sets_unite : StuckSetsUnite
stuck_sets_unite p s some others stuck stuck_too = record {
  going = stuck.going;
  some = (stuck.some.0, in_left (some stuck.some.0) (others stuck.some.0) stuck.some.1);
  blocked = λ t is. ⊎_elim (stuck.blocked t) (stuck_too.blocked t) (in_one (some t) (others t) is);
  inside = λ t r u is blocked holds. ⊎_elim
      (λ left. in_left (some u) (others u) (stuck.inside t r u left blocked holds))
      (λ right. in_right (some u) (others u) (stuck_too.inside t r u right blocked holds))
      (in_one (some t) (others t) is);
}
