-- Main ends with the program.
use Rattle.std.proofs.Common.{◌≡◌, ◌≢◌, ℕ, Bool, true, false, ◌||◌, List, [], ◌∷◌, map, Option, Some, None, option_map, refl, sym, ap, ◌∙◌, subst, ⊎_elim}
use Rattle.std.specs.Prelude.{ℤ, ◌↔◌, ◌==◌, if◌then◌else◌, slice_get, slice_set}
use Rattle.std.proofs.lemmas.Bool.{eq-eqb, ne_eqb}
use Rattle.std.proofs.lemmas.Bool.Decides.{eqb_tells}
use Rattle.std.proofs.lemmas.Option.{same_Some, slice_get-map}
use Rattle.c_tree.specs.Bare.{Program}
use Rattle.c_meaning.specs.State.{Status, NotBegun, Running, Waiting, Reacquiring, Ended, State, start}
use Rattle.c_meaning.specs.Waits.{acquires_again, awakened}
use Rattle.c_meaning.proofs.Reading.{read_after, unwritten}
use Rattle.step_effects.specs.Effects.{Is, Effect}
use Rattle.step_effects.proofs.Reaching.{keeps_in_reached}
use Rattle.step_effects.proofs.Threads.{written}
use Rattle.step_effects.proofs.Turning.{apart, all_turn}
use Rattle.reached_states.specs.Ending.{MainEnds, ReachedMainEnds}
use Rattle.reached_states.proofs.Owners.{begun_if_any}

-- a thread has ended behind a write exactly where it had before
abbrev pub SameEnd : List Status → List Status → ℕ → Type 0
SameEnd threads others u = (slice_get others u ≡ Some Ended) ↔ (slice_get threads u ≡ Some Ended)

both_ways : (threads others more : List Status) (u : ℕ) → SameEnd threads others u → SameEnd others more u → SameEnd threads more u
both_ways threads others more u first second = (λ e. first.0 (second.0 e), λ e. second.1 (first.1 e))

set_same : (threads : List Status) (t : ℕ) (x y : Status) → slice_get threads t ≡ Some x → (x ≡ Ended → ⊥) → (y ≡ Ended → ⊥) → (u : ℕ) → SameEnd threads (slice_set threads t y) u
set_same threads t x y there going goes u = (
  λ e. ⊎_elim (λ here. absurd (goes (sym here.1))) (λ other. other.1) (read_after threads t y u Ended e),
  λ e. unwritten threads t u y (λ same. going (same_Some x Ended (sym there ∙ ap (slice_get threads) (sym same) ∙ e))) ∙ e,
)

awakened_ends : (c : ℕ) (x : Status) → awakened c x ≡ Ended → x ≡ Ended
awakened_ends c NotBegun e = absurd (cc e)
awakened_ends c (Running frames) e = absurd (cc e)
awakened_ends c (Reacquiring m takes frames) e = absurd (cc e)
awakened_ends c Ended e = refl
awakened_ends c (Waiting d m frames) e = absurd (by (d == c) e)
  where
    by : (b : Bool) → (if b then acquires_again m frames else Waiting d m frames) ≡ Ended → ⊥
    by true same = cc same
    by false same = cc same

all_same : (threads : List Status) (c u : ℕ) → SameEnd threads (map (awakened c) threads) u
all_same threads c u = (λ e. back (slice_get threads u) (sym (slice_get-map (awakened c) threads u) ∙ e), λ e. slice_get-map (awakened c) threads u ∙ ap (option_map (awakened c)) e)
  where
    back : (o : Option Status) → option_map (awakened c) o ≡ Some Ended → o ≡ Some Ended
    back None e = absurd (cc e)
    back (Some x) e = ap Some (awakened_ends c x (same_Some (awakened c x) Ended e))

module _ (p : Program) (s : State) (t : ℕ) (h : MainEnds s) where
  -- ---- where no thread ends

  kept : (next : State) → Effect p s t next → next.main_ended ≡ s.main_ended → SameEnd s.threads next.threads 0 → MainEnds next
  kept next effect same ends = record {
    begun = begun_if_any p (slice_get s.threads 0) (slice_get next.threads 0) (all_turn p s t next effect 0) h.begun;
    ended = (λ e. ends.1 (h.ended.0 (sym same ∙ e)), λ e. same ∙ h.ended.1 (ends.0 e));
  }

  one : (next : State) → Effect p s t next → next.main_ended ≡ s.main_ended → (x y : Status) → Is s t x → (x ≡ Ended → ⊥) → (y ≡ Ended → ⊥) → next.threads ≡ slice_set s.threads t y → MainEnds next
  one next effect same x y is going goes set = kept next effect same (subst (λ (ts : List Status). SameEnd s.threads ts 0) (sym set) (set_same s.threads t x y is going goes 0))

  -- ---- where this thread ends

  or_true : (b : Bool) → (b || true) ≡ true
  or_true true = refl
  or_true false = refl

  or_false : (b : Bool) → (b || false) ≡ b
  or_false true = refl
  or_false false = refl

  ended_here : (x : Status) → Is s t x → t ≡ 0 → ((s.main_ended || (t == 0)) ≡ true) ↔ (slice_get (slice_set s.threads t Ended) 0 ≡ Some Ended)
  ended_here x is first = (
    λ e. ap (slice_get (slice_set s.threads t Ended)) (sym first) ∙ written s.threads t x Ended is,
    λ e. ap (λ b. s.main_ended || b) (eq-eqb t 0 first) ∙ or_true s.main_ended,
  )

  ended_elsewhere : t ≢ 0 → ((s.main_ended || (t == 0)) ≡ true) ↔ (slice_get (slice_set s.threads t Ended) 0 ≡ Some Ended)
  ended_elsewhere other =
      let same : (s.main_ended || (t == 0)) ≡ s.main_ended = ap (λ b. s.main_ended || b) (ne_eqb t 0 other) ∙ or_false s.main_ended in
      let there : slice_get (slice_set s.threads t Ended) 0 ≡ slice_get s.threads 0 = unwritten s.threads t 0 Ended (λ e. other (sym e)) in
      (λ e. there ∙ h.ended.0 (sym same ∙ e), λ e. same ∙ h.ended.1 (sym there ∙ e))

  ended_so : (x : Status) → Is s t x → ((s.main_ended || (t == 0)) ≡ true) ↔ (slice_get (slice_set s.threads t Ended) 0 ≡ Some Ended)
  ended_so x is = ⊎_elim (λ first. ended_here x is first.1) (λ other. ended_elsewhere other.1) (eqb_tells t 0)

  ends_keep : (next : State) → Effect p s t next → MainEnds next
  ends_keep next (Effect.goes frames more cells input output is g same) =
      one next (Effect.goes frames more cells input output is g same) refl (Running frames) (Running more) is (λ e. cc e) (λ e. cc e) refl
  ends_keep next (Effect.locks frames more m is g free) = one next (Effect.locks frames more m is g free) refl (Running frames) (Running more) is (λ e. cc e) (λ e. cc e) refl
  ends_keep next (Effect.unlocks frames more m is g owned) = one next (Effect.unlocks frames more m is g owned) refl (Running frames) (Running more) is (λ e. cc e) (λ e. cc e) refl
  ends_keep next (Effect.takes frames more monitor row is g free) = one next (Effect.takes frames more monitor row is g free) refl (Running frames) (Running more) is (λ e. cc e) (λ e. cc e) refl
  ends_keep next (Effect.gives frames more monitor row left is g there held) =
      one next (Effect.gives frames more monitor row left is g there held) refl (Running frames) (Running more) is (λ e. cc e) (λ e. cc e) refl
  ends_keep next (Effect.begins l slot name arg rest more u f z is idle at named value) =
      kept next (Effect.begins l slot name arg rest more u f z is idle at named value) refl
      (both_ways s.threads (slice_set s.threads t _) _ 0 (set_same s.threads t _ _ is (λ e. cc e) (λ e. cc e) 0)
      (set_same (slice_set s.threads t _) u NotBegun _ (unwritten s.threads t u _ (apart s t u _ NotBegun is idle (λ e. cc e)) ∙ idle) (λ e. cc e) (λ e. cc e) 0))
  ends_keep next (Effect.ends newest is) = record {
    begun = begun_if_any p (slice_get s.threads 0) (slice_get (slice_set s.threads t Ended) 0) (all_turn p s t next (Effect.ends newest is) 0) h.begun;
    ended = ended_so (Running (newest ∷ [])) is;
  }
  ends_keep next (Effect.waits l cond place taking rest more c m is at on owned) =
      one next (Effect.waits l cond place taking rest more c m is at on owned) refl _ _ is (λ e. cc e) (λ e. cc e) refl
  ends_keep next (Effect.wakes_one frames more waiting u c m is g asleep) =
      kept next (Effect.wakes_one frames more waiting u c m is g asleep) refl
      (both_ways s.threads (slice_set s.threads t (Running more)) _ 0 (set_same s.threads t (Running frames) (Running more) is (λ e. cc e) (λ e. cc e) 0)
      (set_same (slice_set s.threads t (Running more)) u (Waiting c m waiting) (acquires_again m waiting)
      (unwritten s.threads t u (Running more) (apart s t u (Running frames) (Waiting c m waiting) is asleep (λ e. cc e)) ∙ asleep) (λ e. cc e) (λ e. cc e) 0))
  ends_keep next (Effect.wakes_all frames more c is g) =
      kept next (Effect.wakes_all frames more c is g) refl
      (both_ways s.threads (slice_set s.threads t (Running more)) (map (awakened c) (slice_set s.threads t (Running more))) 0
      (set_same s.threads t (Running frames) (Running more) is (λ e. cc e) (λ e. cc e) 0) (all_same (slice_set s.threads t (Running more)) c 0))
  ends_keep next (Effect.wakes c m frames is) = one next (Effect.wakes c m frames is) refl (Waiting c m frames) (acquires_again m frames) is (λ e. cc e) (λ e. cc e) refl
  ends_keep next (Effect.takes_again m monitor left frames row is free) =
      one next (Effect.takes_again m monitor left frames row is free) refl (Reacquiring m (monitor ∷ left) frames) (Reacquiring m left frames) is (λ e. cc e) (λ e. cc e) refl
  ends_keep next (Effect.retakes m l cond place taking rest more is free) =
      one next (Effect.retakes m l cond place taking rest more is free) refl _ _ is (λ e. cc e) (λ e. cc e) refl

start_main : (p : Program) (input : List ℤ) → MainEnds (start p input)
start_main p input = record { begun = tt; ended = (λ e. absurd (cc e), λ e. absurd (cc e)) }

pub reached_main_ends : ReachedMainEnds
reached_main_ends p input s r = keeps_in_reached p MainEnds (λ old t next effect h. ends_keep p old t h next effect) input s (start_main p input) r
