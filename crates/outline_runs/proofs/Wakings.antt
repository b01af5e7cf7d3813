-- Signals, broadcasts and creates: a thread goes on, and others are woken or begin.
use Rattle.std.proofs.Common.{◌≡◌, ℕ, zero, suc, Bool, true, false, List, [], ◌∷◌, map, Option, Some, None, option_map, refl, sym, ap, ◌∙◌, subst, inl, inr, ⊎_elim}
use Rattle.std.specs.Prelude.{ℤ, ◌==◌, slice_get, slice_set, if◌then◌else◌}
use Rattle.std.specs.List.{list_any}
use Rattle.std.proofs.lemmas.Bool.Decides.{eqb_tells}
use Rattle.std.proofs.lemmas.Option.{slice_get-map}
use Rattle.c_tree.specs.Bare as bare
use Rattle.c_tree.specs.Numbering.{monitor_resource}
use Rattle.c_meaning.specs.declared.Did.TheVariants as did
use Rattle.c_meaning.specs.State.{Frame, Status, NotBegun, Running, Waiting, Reacquiring, Ended, State, frame, goes_on, with_status}
use Rattle.c_meaning.specs.Outcome.{Outcome, NotEnabled, Done}
use Rattle.c_meaning.specs.Threads.{first_frame, created_in, created}
use Rattle.c_meaning.specs.Calls.{passed}
use Rattle.c_meaning.specs.Waits.{takes_of, acquires_again, waits_on, signalled, signalled_to, woken_by, awakened, broadcast}
use Rattle.c_meaning.proofs.Reading.{unwritten}
use Rattle.edges.specs.declared.EdgeOp.TheVariants as op
use Rattle.outlines.specs.Outline.{Parts}
use Rattle.outlines.specs.Moves.{Position, At, Woken, MovesTo}
use Rattle.contexts.specs.Outlined.{Code}
use Rattle.reached_states.specs.Counts.{tokens_held}
use Rattle.step_effects.specs.Effects.{OnDone}
use Rattle.outline_runs.specs.Standing.{HasOutline, StandsAt, StandsIf, Standing}
use Rattle.outline_runs.proofs.Goings.{MovedOne, Moved, stands_written, unmoved}

-- a sleeping thread is woken
pub one_woken : (code : Code) (body : Parts) (held : ℕ → ℕ) (x : Position) (c m : ℕ) (fs : List Frame) (o : Option Status) → StandsAt code (Waiting c m fs) x
    → ((y : Position) → StandsAt code (acquires_again m fs) y → StandsIf code o y) → MovedOne code body x held o held
one_woken code body held x c m fs o there put =
    let woken : Position = Woken m (map (monitor_resource code.program) (takes_of fs)) there.0 in
    record {
      to = woken;
      stands = put woken (there.0, refl, there.2);
      moves = inr (record { does = op.Plain; edge = subst (λ z. MovesTo body z op.Plain woken) (sym there.1) (refl, refl); alters = λ r. refl });
    }

awakened_one : (code : Code) (body : Parts) (held : ℕ → ℕ) (x : Position) (c : ℕ) (o : Option Status) → StandsIf code o x → MovedOne code body x held (option_map (awakened c) o) held
awakened_one code body held x c None there = unmoved code body x held None there
awakened_one code body held x c (Some NotBegun) there = unmoved code body x held (Some NotBegun) there
awakened_one code body held x c (Some (Running fs)) there = unmoved code body x held (Some (Running fs)) there
awakened_one code body held x c (Some (Reacquiring m ks fs)) there = unmoved code body x held (Some (Reacquiring m ks fs)) there
awakened_one code body held x c (Some Ended) there = unmoved code body x held (Some Ended) there
awakened_one code body held x c (Some (Waiting d m fs)) there = by (d == c)
  where
    by : (b : Bool) → MovedOne code body x held (Some (if b then acquires_again m fs else Waiting d m fs)) held
    by true = one_woken code body held x d m fs (Some (acquires_again m fs)) there (λ y is. is)
    by false = unmoved code body x held (Some (Waiting d m fs)) there

-- a running thread isn't woken
running_kept : (code : Code) (c : ℕ) (threads : List Status) (t : ℕ) (fs : List Frame) (y : Position) → StandsIf code (slice_get (slice_set threads t (Running fs)) t) y
    → StandsIf code (slice_get (map (awakened c) (slice_set threads t (Running fs))) t) y
running_kept code c [] t fs y there = there
running_kept code c (x ∷ xs) zero fs y there = there
running_kept code c (x ∷ xs) (suc t) fs y there = running_kept code c xs t fs y there

module _ (code : Code) (bodies : ℕ → Parts) (s : State) (t : ℕ) (at : ℕ → Position) (standing : Standing code s at) (frames : List Frame)
    (goes : Moved code bodies s at (goes_on s t frames)) where
  abbrev Has : Outcome → Type 0
  Has o = OnDone o (Moved code bodies s at)

  abbrev One : ℕ → Option Status → Type 0
  One v status = MovedOne code (bodies v) (at v) (tokens_held code.program s v) status (tokens_held code.program s v)

  -- the thread goes on, and then what u does is set
  sets_another : (u : ℕ) (new : Status) → One u (slice_get (slice_set (slice_set s.threads t (Running frames)) u new) u) → Moved code bodies s at (with_status (goes_on s t frames) u new)
  sets_another u new moved v = ⊎_elim
      (λ same. subst (λ w. One w (slice_get (slice_set (slice_set s.threads t (Running frames)) u new) w)) (sym same.1) moved)
      (λ other. subst (One v) (sym (unwritten (slice_set s.threads t (Running frames)) u v new other.1)) (goes v))
      (eqb_tells v u)

  -- a signal that wakes none
  pub signalled_ready : (o : Option ℕ) → Has (signalled s t frames o)
  signalled_ready None = tt
  signalled_ready (Some c) = by (list_any (waits_on c) s.threads)
    where
      by : (b : Bool) → Has (if b then NotEnabled else Done (did.Signal None) (goes_on s t frames))
      by true = tt
      by false = goes

  -- one that wakes u
  pub signalled_to_ready : (u : ℕ) (o : Option ℕ) → Has (signalled_to s t frames u o)
  signalled_to_ready u None = tt
  signalled_to_ready u (Some c) = by (slice_get s.threads u) refl
    where
      by : (o : Option Status) → slice_get s.threads u ≡ o → Has (woken_by s t frames c u o)
      by None e = tt
      by (Some NotBegun) e = tt
      by (Some (Running fs)) e = tt
      by (Some (Reacquiring m ks fs)) e = tt
      by (Some Ended) e = tt
      by (Some (Waiting d m fs)) e = wakes (d == c)
        where
          wakes : (b : Bool) → Has (if b then Done (did.Signal (Some u)) (with_status (goes_on s t frames) u (acquires_again m fs)) else NotEnabled)
          wakes false = tt
          wakes true = sets_another u (acquires_again m fs)
              (one_woken code (bodies u) (tokens_held code.program s u) (at u) d m fs _ (subst (λ o. StandsIf code o (at u)) e (standing u))
              (λ y there. stands_written code (slice_set s.threads t (Running frames)) u (acquires_again m fs) y there))

  pub broadcast_ready : (o : Option ℕ) → Has (broadcast s t frames o)
  broadcast_ready None = tt
  broadcast_ready (Some c) = λ v. ⊎_elim
      (λ same. subst (λ w. One w (slice_get (map (awakened c) (slice_set s.threads t (Running frames))) w)) (sym same.1)
      (let m = goes t in record { to = m.to; stands = running_kept code c s.threads t frames m.to m.stands; moves = m.moves }))
      (λ other. subst (One v) (sym (slice_get-map (awakened c) (slice_set s.threads t (Running frames)) v ∙ ap (option_map (awakened c)) (unwritten s.threads t v (Running frames) other.1)))
      (awakened_one code (bodies v) (tokens_held code.program s v) (at v) c (slice_get s.threads v) (standing v)))
      (eqb_tells v t)

  -- a create: another thread begins, which has this outline
  pub created_ready : (slot : Option ℕ) (fo : Option bare.Function) (z : Option ℤ)
      → ((u : ℕ) (f : bare.Function) (i : ℤ) → slot ≡ Some u → fo ≡ Some f → z ≡ Some i → (writes : List (List ℕ)) × HasOutline code writes (passed f.params (i ∷ [])) f.body (bodies u))
      → Has (created s t frames slot (first_frame fo z))
  created_ready None fo z begins = tt
  created_ready (Some u) fo z begins = by (slice_get s.threads u) refl fo z begins
    where
      by : (o : Option Status) → slice_get s.threads u ≡ o → (fo : Option bare.Function) (z : Option ℤ)
          → ((v : ℕ) (f : bare.Function) (i : ℤ) → Some u ≡ Some v → fo ≡ Some f → z ≡ Some i → (writes : List (List ℕ)) × HasOutline code writes (passed f.params (i ∷ [])) f.body (bodies v))
          → Has (created_in s t frames u o (first_frame fo z))
      by None e fo z begins = tt
      by (Some (Running fs)) e fo z begins = tt
      by (Some (Waiting c m fs)) e fo z begins = tt
      by (Some (Reacquiring m ks fs)) e fo z begins = tt
      by (Some Ended) e fo z begins = tt
      by (Some NotBegun) e None z begins = tt
      by (Some NotBegun) e (Some f) None begins = tt
      by (Some NotBegun) e (Some f) (Some i) begins =
          let first = begins u f i refl refl refl in
          let new : Status = Running (frame (passed f.params (i ∷ [])) f.body ∷ []) in
          sets_another u new (record {
            to = At (bodies u ∷ []);
            stands = stands_written code (slice_set s.threads t (Running frames)) u new (At (bodies u ∷ []))
                (bodies u ∷ [], refl, inl (record { writes = first.0; xs = bodies u; lefts = []; left_is = refl; newest = first.1; callers = tt }));
            moves = inr (record {
              does = op.Plain;
              edge = subst (λ x. MovesTo (bodies u) x op.Plain (At (bodies u ∷ []))) (sym (subst (λ o. StandsIf code o (at u)) e (standing u))) (refl, refl);
              alters = λ r. refl;
            });
          })
