-- A program, a schedule and an input have a trace.
use Rattle.std.proofs.Common.{◌≡◌, ◌≢◌, ◌<◌, ◌+◌, ℕ, zero, suc, true, false, List, [], ◌∷◌, ◌++◌, length, get_or, Some, lt_of_lt_of_le, ◌⊎◌, inl, inr, ⊎_elim, refl, sym, ◌∙◌, arith}
use Rattle.std.specs.Prelude.{ℤ, IsTrue, slice_get}
use Rattle.std.specs.Int.{bit_at}
use Rattle.std.proofs.lemmas.List.{length-append}
use Rattle.std.proofs.Math.Pow.{pow_mono}
use Rattle.std.proofs.lemmas.Bool.{cases_Bool, cases_eq, eqb-false}
use Rattle.std.proofs.lemmas.Nat.Bits.{bit_at-zero, bit_at-lt, same_from_bits_below}
use Rattle.std.proofs.lemmas.Option.{slice_get-get_or}
use Rattle.c_tree.specs.Bare.{Program}
use Rattle.c_check.specs.Tables.{Numbers}
use Rattle.c_meaning.specs.declared.Did.{Did}
use Rattle.c_meaning.specs.declared.Event.{Event}
use Rattle.c_meaning.specs.declared.EventKind.TheVariants.{Go}
use Rattle.c_meaning.specs.Closed.{has}
use Rattle.c_meaning.specs.Laws.{blocked_for}
use Rattle.c_meaning.specs.Outcome as outcome
use Rattle.c_meaning.specs.Outcome.{Outcome}
use Rattle.c_meaning.specs.State.{State, start}
use Rattle.c_meaning.specs.Step.{step}
use Rattle.c_meaning.specs.Stuck.{is_holder}
use Rattle.c_meaning.proofs.Closing.{stuck_is_closed}
use Rattle.schedule_runner.specs.declared.runs.Trace.{Trace}
use Rattle.schedule_runner.specs.declared.runs.TraceEnd.{TraceEnd}
use Rattle.schedule_runner.specs.declared.runs.TraceEnd.TheVariants as end
use Rattle.schedule_runner.specs.Acts.{act_line}
use Rattle.schedule_runner.specs.Traces.{IsTrace, IsFollowed, EndsAt, IsLargestStuck, appended}
use Rattle.schedule_runner.proofs.Follows.{follows_none, follows_more}
use Rattle.trace_laws.proofs.Closed.{largest}
use Rattle.trace_laws.proofs.OneTrace.{below_pow}
use Rattle.trace_laws.proofs.Holders.{bound, holders_below, blocked_below}

-- ---- the largest stuck set

no_thread : (set t : ℕ) → set ≡ 0 → IsTrue (has set t) → ⊥
no_thread set t none is =
    let clear : has set t ≡ false = rw (none, bit_at-zero t) refl in
    let f : false ≡ true = sym clear ∙ is in absurd (cc f)

-- a number has a bit, or none below a bound
bit_or : (set w : ℕ) → ((t : ℕ) × IsTrue (has set t)) ⊎ ((t : ℕ) → t < w → bit_at set t ≡ 0)
bit_or set zero = inr (λ t low. absurd (omega (arith, low)))
bit_or set (suc w) = ⊎_elim
    (λ found. inl found)
    (λ none. ⊎_elim
    (λ on. inl (w, on))
    (λ off. inr (λ t low. ⊎_elim
    (λ same. rw same (omega (arith, bit_at-lt set w, eqb-false (bit_at set w) 1 off)))
    (λ other. none t (omega (arith, low, other)))
    (cases_eq t w)))
    (cases_Bool (has set w)))
    (bit_or set w)

some_member : (set : ℕ) → set ≢ 0 → (t : ℕ) × IsTrue (has set t)
some_member set other = ⊎_elim
    (λ found. found)
    (λ none. absurd (other (same_from_bits_below set set 0 (below_pow set) (lt_of_lt_of_le (omega arith) (pow_mono {i = 0} {j = set} (omega arith))) (λ i low. none i low ∙ sym (bit_at-zero i)))))
    (bit_or set set)

module _ (p : Program) (s : State) where
  each_largest : (set : ℕ) × IsLargestStuck p s set
  each_largest =
      let found = largest (blocked_for p s) (is_holder p s) (bound p s) (holders_below p s) (blocked_below p s) in (
        found.0,
        record {
          none = λ zero threads stuck. let both = (stuck_is_closed p s threads).0 stuck in no_thread found.0 both.0.0 zero (found.2 threads both.1 both.0.0 both.0.1);
          stuck = λ other. (stuck_is_closed p s (has found.0)).1 (some_member found.0 other, found.1);
          each = λ threads stuck t is. found.2 threads ((stuck_is_closed p s threads).0 stuck).1 t is;
        },
      )

-- ---- the events that are done

module _ (p : Program) (n : Numbers) (first : State) (es : List Event) where
  record Whole : Type 0 where
    lines : List (List ℕ)
    last : State
    end : TraceEnd
    followed : IsFollowed p n first es lines last
    ends : EndsAt p last es (length lines) end

  module _ (lines : List (List ℕ)) (last : State) (event : Event) (is : IsFollowed p n first es lines last) (stands : slice_get es (length lines) ≡ Some event)
      (rest : (done : Did) (next : State) → IsFollowed p n first es (lines ++ act_line n event.thread done (appended last next) ∷ []) next → Whole) where
    with_step : (o : Outcome) → step p last event ≡ o → Whole
    with_step outcome.NotEnabled e = record {
      lines = lines;
      last = last;
      end = end.NotEnabled (suc (length lines));
      followed = is;
      ends = record { event = event; stands = stands; refused = e; counted = refl };
    }
    with_step outcome.Undefined e = record {
      lines = lines;
      last = last;
      end = end.Undefined (suc (length lines));
      followed = is;
      ends = record { event = event; stands = stands; refused = e; counted = refl };
    }
    with_step (outcome.Done done next) e = rest done next (follows_more p n first last next es lines event done is stands e)

  no_event : Event
  no_event = record { thread = 0; kind = Go }

  from : (left : ℕ) (lines : List (List ℕ)) (last : State) → length lines + left ≡ length es → IsFollowed p n first es lines last → Whole
  from zero lines last all is = record { lines = lines; last = last; end = end.All; followed = is; ends = omega (arith, all) }
  from (suc left) lines last all is =
      let event = get_or es (length lines) no_event in
      with_step lines last event is (slice_get-get_or es (length lines) no_event (omega (arith, all)))
      (λ done next more. from left (lines ++ act_line n event.thread done (appended last next) ∷ []) next
      (omega (arith, all, length-append lines (act_line n event.thread done (appended last next) ∷ []))) more)
      (step p last event) refl

  whole : Whole
  whole = from (length es) [] first (omega arith) (follows_none p n first es)

pub each_trace : (p : Program) (n : Numbers) (input : List ℤ) (es : List Event) → (t : Trace) × IsTrace p n input es t
each_trace p n input es =
    let w = whole p n (start p input) es in
    let stuck = each_largest p w.last in (
      record { acts = w.lines; end = w.end; ended = w.last.main_ended; stuck = stuck.0 },
      record { last = w.last; followed = w.followed; end = w.ends; ended = refl; stuck = stuck.1 },
    )
