-- Runs that go one event further.
use Rattle.std.proofs.Common.{◌≡◌, ℕ, zero, suc, ◌<◌, List, [], ◌∷◌, ◌++◌, length, take, Some, refl, sym, ap, ◌∙◌, ◌⊎◌, inl, inr, ⊎_elim, arith}
use Rattle.std.specs.Prelude.{slice_get}
use Rattle.std.specs.declared.option.Option.{Option}
use Rattle.std.proofs.Math.Seq.{take-suc}
use Rattle.std.proofs.lemmas.List.{length-append}
use Rattle.std.proofs.lemmas.Option.{same_Some, slice_get_within, get_or_from_slice_get}
use Rattle.c_tree.specs.Bare.{Program}
use Rattle.c_check.specs.Tables.{Numbers}
use Rattle.c_meaning.specs.declared.Did.{Did}
use Rattle.c_meaning.specs.declared.Event.{Event}
use Rattle.c_meaning.specs.Outcome as outcome
use Rattle.c_meaning.specs.Outcome.{Outcome}
use Rattle.c_meaning.specs.Run.{run, then_on}
use Rattle.c_meaning.specs.State.{State}
use Rattle.c_meaning.specs.Step.{step}
use Rattle.schedule_runner.specs.Acts.{act_line}
use Rattle.schedule_runner.specs.Traces.{IsFollowed, appended}

run_on : (o : Outcome) (rest more : State → Option State) (t next : State) → ((s : State) → rest s ≡ Some t → more s ≡ Some next) → then_on o rest ≡ Some t → then_on o more ≡ Some next
run_on outcome.NotEnabled rest more t next goes here = absurd (cc here)
run_on outcome.Undefined rest more t next goes here = absurd (cc here)
run_on (outcome.Done done s) rest more t next goes here = goes s here

-- a run with one event more
run_more : (p : Program) (es : List Event) (s t next : State) (e : Event) (did : Did) → run p es s ≡ Some t → step p t e ≡ outcome.Done did next → run p (es ++ e ∷ []) s ≡ Some next
run_more p [] s t next e did here does = ap (λ x. then_on (step p x e) (run p [])) (same_Some s t here) ∙ ap (λ o. then_on o (run p [])) does
run_more p (d ∷ es) s t next e did here does = run_on (step p s d) (run p es) (run p (es ++ e ∷ [])) t next (λ x h. run_more p es x t next e did h does) here

-- no event
pub follows_none : (p : Program) (n : Numbers) (s : State) (es : List Event) → IsFollowed p n s es [] s
follows_none p n s es = record {
  leads = refl;
  acts = λ place line stands. absurd (cc stands);
}

-- an element behind a push is an old one, or the one pushed
read_push : {X : Type 0} (xs : List X) (v : X) (j : ℕ) (w : X) → slice_get (xs ++ v ∷ []) j ≡ Some w → (slice_get xs j ≡ Some w) ⊎ ((j ≡ length xs) × (w ≡ v))
read_push [] v zero w e = inr (refl, sym (same_Some v w e))
read_push [] v (suc j) w e = absurd (cc e)
read_push (x ∷ xs) v zero w e = inl e
read_push (x ∷ xs) v (suc j) w e = ⊎_elim (λ s. inl s) (λ o. inr (ap suc o.0, o.1)) (read_push xs v j w e)

-- one event more
pub follows_more : (p : Program) (n : Numbers) (s t next : State) (es : List Event) (lines : List (List ℕ)) (e : Event) (did : Did) → IsFollowed p n s es lines t → slice_get es (length lines) ≡ Some e → step p t e ≡ outcome.Done did next → IsFollowed p n s es (lines ++ act_line n e.thread did (appended t next) ∷ []) next
follows_more p n s t next es lines e did is at does =
    let line = act_line n e.thread did (appended t next) in
    let longer : length (lines ++ line ∷ []) ≡ suc (length lines) = omega (arith, length-append lines (line ∷ [])) in
    let within : length lines < length es = slice_get_within es (length lines) e at in
    let taken : take (length (lines ++ line ∷ [])) es ≡ take (length lines) es ++ e ∷ [] = ap (λ k. take k es) longer ∙ take-suc es (length lines) e within ∙ ap (λ x. take (length lines) es ++ x ∷ []) (get_or_from_slice_get es (length lines) e e at) in
    record {
      leads = ap (λ xs. run p xs s) taken ∙ run_more p (take (length lines) es) s t next e did is.leads does;
      acts = λ place other stands. ⊎_elim
          (λ old. is.acts place other old)
          (λ new. record {
            event = e;
            state = t;
            done = did;
            next = next;
            stands = ap (slice_get es) new.0 ∙ at;
            before = ap (λ k. run p (take k es) s) new.0 ∙ is.leads;
            does = does;
            is = new.1;
          })
          (read_push lines line place other stands);
    }
