-- A program, a schedule and an input have one trace.
use Rattle.std.proofs.Common.{◌≡◌, ◌≢◌, ◌<◌, ◌+◌, ◌^◌, ◌==◌, ℕ, zero, suc, Bool, List, [], length, take, get_or, Some, refl, sym, ap, subst, ◌∙◌, ◌⊎◌, inl, inr, ⊎_elim, lt_of_lt_of_le, arith}
use Rattle.std.specs.Prelude.{ℤ, IsTrue, slice_get}
use Rattle.std.specs.Int.{bit_at}
use Rattle.std.proofs.Math.Pow.{pow_mono}
use Rattle.std.proofs.lemmas.Bool.{cases_lt}
use Rattle.std.proofs.lemmas.List.{same_lists}
use Rattle.std.proofs.lemmas.Nat.Bits.{bit_at-lt, same_from_bits_below}
use Rattle.std.proofs.lemmas.Option.{same_Some, slice_get-get_or, slice_get_within}
use Rattle.c_tree.specs.Bare.{Program}
use Rattle.c_check.specs.Tables.{Numbers}
use Rattle.c_meaning.specs.declared.Did.{Did}
use Rattle.c_meaning.specs.declared.Event.{Event}
use Rattle.c_meaning.specs.Closed.{has}
use Rattle.c_meaning.specs.Outcome as outcome
use Rattle.c_meaning.specs.Outcome.{Outcome}
use Rattle.c_meaning.specs.Run.{run}
use Rattle.c_meaning.specs.State.{State, start}
use Rattle.c_meaning.specs.Step.{step}
use Rattle.schedule_runner.specs.declared.runs.Trace.{Trace}
use Rattle.schedule_runner.specs.declared.runs.TraceEnd.{TraceEnd}
use Rattle.schedule_runner.specs.declared.runs.TraceEnd.TheVariants as end
use Rattle.schedule_runner.specs.Traces.{IsTrace, IsFollowed, IsActAt, IsRefusedAt, EndsAt, IsLargestStuck}

-- ---- the largest stuck set

pub below_pow : (n : ℕ) → n < 2 ^ n
below_pow zero = omega arith
below_pow (suc n) = omega (arith, below_pow n)

bit_from : (a b : ℕ) → a < 2 → b < 2 → (IsTrue (a == 1) → IsTrue (b == 1)) → (IsTrue (b == 1) → IsTrue (a == 1)) → a ≡ b
bit_from zero zero x y f g = refl
bit_from zero (suc zero) x y f g = absurd (cc (g refl))
bit_from (suc zero) zero x y f g = absurd (cc (f refl))
bit_from (suc zero) (suc zero) x y f g = refl
bit_from (suc (suc a)) b x y f g = absurd (omega (arith, x))
bit_from zero (suc (suc b)) x y f g = absurd (omega (arith, y))
bit_from (suc zero) (suc (suc b)) x y f g = absurd (omega (arith, y))

one_set : (a b : ℕ) → ((t : ℕ) → IsTrue (has a t) → IsTrue (has b t)) → ((t : ℕ) → IsTrue (has b t) → IsTrue (has a t)) → a ≡ b
one_set a b to from =
    let low : a < 2 ^ (a + b) = lt_of_lt_of_le (below_pow a) (pow_mono (omega arith)) in
    let high : b < 2 ^ (a + b) = lt_of_lt_of_le (below_pow b) (pow_mono (omega arith)) in
    same_from_bits_below (a + b) a b low high (λ i below. bit_from (bit_at a i) (bit_at b i) (bit_at-lt a i) (bit_at-lt b i) (to i) (from i))

zero_or : (n : ℕ) → (n ≡ 0) ⊎ (n ≢ 0)
zero_or zero = inl refl
zero_or (suc n) = inr (λ e. absurd cc)

one_largest : (p : Program) (s : State) (a b : ℕ) → IsLargestStuck p s a → IsLargestStuck p s b → a ≡ b
one_largest p s a b x y = go (zero_or a) (zero_or b)
  where
    go : (a ≡ 0) ⊎ (a ≢ 0) → (b ≡ 0) ⊎ (b ≢ 0) → a ≡ b
    go (inl e) (inl f) = e ∙ sym f
    go (inl e) (inr f) = absurd (x.none e (has b) (y.stuck f))
    go (inr e) (inl f) = absurd (y.none f (has a) (x.stuck e))
    go (inr e) (inr f) = one_set a b (y.each (has a) (x.stuck e)) (x.each (has b) (y.stuck f))

-- ---- the events that are done

module _ (p : Program) (n : Numbers) (first : State) (es : List Event) where
  not_done : (o : Outcome) (why : Outcome) (did : Did) (next : State) → o ≡ why → o ≡ outcome.Done did next → (why ≡ outcome.Done did next → ⊥) → ⊥
  not_done o why did next same done other = other (sym same ∙ done)

  -- the next event isn't done where a trace ends
  refused_done : (last : State) (place : ℕ) (why : Outcome) (number : ℕ) (line : List ℕ) → run p (take place es) first ≡ Some last
      → IsRefusedAt p last es place why number → IsActAt p n first es place line → ((did : Did) (next : State) → why ≡ outcome.Done did next → ⊥) → ⊥
  refused_done last place why number line leads x act other =
      let event : x.event ≡ act.event = same_Some x.event act.event (sym x.stands ∙ act.stands) in
      let state : last ≡ act.state = same_Some last act.state (sym leads ∙ act.before) in
      not_done (step p last x.event) why act.done act.next x.refused (rw (event, state) act.does) (other act.done act.next)

  ended_done : (last : State) (place : ℕ) (e : TraceEnd) (line : List ℕ) → run p (take place es) first ≡ Some last → EndsAt p last es place e
      → IsActAt p n first es place line → ⊥
  ended_done last place end.All line leads x act = omega (arith, x, slice_get_within es place act.event act.stands)
  ended_done last place (end.NotEnabled k) line leads x act = refused_done last place outcome.NotEnabled k line leads x act (λ did next e. absurd cc)
  ended_done last place (end.Undefined k) line leads x act = refused_done last place outcome.Undefined k line leads x act (λ did next e. absurd cc)

  no_shorter : (t u : List (List ℕ)) (l m : State) (e : TraceEnd) → IsFollowed p n first es t l → EndsAt p l es (length t) e → IsFollowed p n first es u m → length t < length u → ⊥
  no_shorter t u l m e x ends y less =
      ended_done l (length t) e (get_or u (length t) []) x.leads ends (y.acts (length t) (get_or u (length t) []) (slice_get-get_or u (length t) [] less))

  same_length : (t u : List (List ℕ)) (l m : State) (e f : TraceEnd) → IsFollowed p n first es t l → EndsAt p l es (length t) e → IsFollowed p n first es u m → EndsAt p m es (length u) f
      → length t ≡ length u
  same_length t u l m e f x ends y stops = ⊎_elim
      (λ less. absurd (no_shorter t u l m e x ends y less))
      (λ least. ⊎_elim
      (λ more. absurd (no_shorter u t m l f y stops x more))
      (λ most. omega (arith, least, most))
      (cases_lt (length u) (length t)))
      (cases_lt (length t) (length u))

  -- the line of a place
  one_line : (place : ℕ) (a b : List ℕ) → IsActAt p n first es place a → IsActAt p n first es place b → a ≡ b
  one_line place a b x y =
      let event : x.event ≡ y.event = same_Some x.event y.event (sym x.stands ∙ y.stands) in
      let state : x.state ≡ y.state = same_Some x.state y.state (sym x.before ∙ y.before) in
      let does : outcome.Done x.done x.next ≡ outcome.Done y.done y.next = sym x.does ∙ rw (event, state) y.does in
      let did : x.done ≡ y.done = cc does in
      let next : x.next ≡ y.next = cc does in
      x.is ∙ rw (event, state, did, next) (sym y.is)

  same_acts : (t u : List (List ℕ)) (l m : State) → length t ≡ length u → IsFollowed p n first es t l → IsFollowed p n first es u m → t ≡ u
  same_acts t u l m long x y = same_lists t u long (λ k d below.
      one_line k (get_or t k d) (get_or u k d) (x.acts k (get_or t k d) (slice_get-get_or t k d below))
      (y.acts k (get_or u k d) (slice_get-get_or u k d (omega (arith, below, long)))))

  same_last : (t u : List (List ℕ)) (l m : State) → length t ≡ length u → IsFollowed p n first es t l → IsFollowed p n first es u m → l ≡ m
  same_last t u l m long x y = same_Some l m (sym x.leads ∙ ap (λ k. run p (take k es) first) long ∙ y.leads)

  -- ---- why there are no more

  past : (place : ℕ) (e : Event) → place ≡ length es → slice_get es place ≡ Some e → ⊥
  past place e end at = omega (arith, end, slice_get_within es place e at)

  same_step : (l : State) (place : ℕ) (why other : Outcome) (a b : ℕ) → IsRefusedAt p l es place why a → IsRefusedAt p l es place other b → (why ≡ other) × (a ≡ b)
  same_step l place why other a b x y =
      let event : x.event ≡ y.event = same_Some x.event y.event (sym x.stands ∙ y.stands) in
      (sym x.refused ∙ rw event y.refused, x.counted ∙ sym y.counted)

  one_end : (l : State) (place : ℕ) (e f : TraceEnd) → EndsAt p l es place e → EndsAt p l es place f → e ≡ f
  one_end l place end.All end.All x y = refl
  one_end l place end.All (end.NotEnabled k) x y = absurd (past place y.event x y.stands)
  one_end l place end.All (end.Undefined k) x y = absurd (past place y.event x y.stands)
  one_end l place (end.NotEnabled j) end.All x y = absurd (past place x.event y x.stands)
  one_end l place (end.NotEnabled j) (end.NotEnabled k) x y = ap end.NotEnabled (same_step l place outcome.NotEnabled outcome.NotEnabled j k x y).1
  one_end l place (end.NotEnabled j) (end.Undefined k) x y = let e = (same_step l place outcome.NotEnabled outcome.Undefined j k x y).0 in absurd (cc e)
  one_end l place (end.Undefined j) end.All x y = absurd (past place x.event y x.stands)
  one_end l place (end.Undefined j) (end.NotEnabled k) x y = let e = (same_step l place outcome.Undefined outcome.NotEnabled j k x y).0 in absurd (cc e)
  one_end l place (end.Undefined j) (end.Undefined k) x y = ap end.Undefined (same_step l place outcome.Undefined outcome.Undefined j k x y).1

-- ---- the trace

abbrev made : List (List ℕ) → TraceEnd → Bool → ℕ → Trace
made acts end ended stuck = record { acts = acts; end = end; ended = ended; stuck = stuck }

record_is : (a b : Trace) → a.acts ≡ b.acts → a.end ≡ b.end → a.ended ≡ b.ended → a.stuck ≡ b.stuck → a ≡ b
record_is a b acts ends ended stuck =
    ap (λ x. made x a.end a.ended a.stuck) acts ∙ ap (λ x. made b.acts x a.ended a.stuck) ends
    ∙ ap (λ x. made b.acts b.end x a.stuck) ended ∙ ap (λ x. made b.acts b.end b.ended x) stuck

pub one_trace : (p : Program) (n : Numbers) (input : List ℤ) (es : List Event) (t u : Trace) → IsTrace p n input es t → IsTrace p n input es u → t ≡ u
one_trace p n input es t u x y =
    let first = start p input in
    let long = same_length p n first es t.acts u.acts x.last y.last t.end u.end x.followed x.end y.followed y.end in
    let last : x.last ≡ y.last = same_last p n first es t.acts u.acts x.last y.last long x.followed y.followed in
    record_is t u
    (same_acts p n first es t.acts u.acts x.last y.last long x.followed y.followed)
    (one_end p n first es y.last (length u.acts) t.end u.end (subst (λ k. EndsAt p y.last es k t.end) long (subst (λ s. EndsAt p s es (length t.acts) t.end) last x.end)) y.end)
    (x.ended ∙ ap (λ s. s.main_ended) last ∙ sym y.ended)
    (one_largest p y.last t.stuck u.stuck (subst (λ s. IsLargestStuck p s t.stuck) last x.stuck) y.stuck)
