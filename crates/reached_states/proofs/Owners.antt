-- Owners have begun, and rows of tokens fit.
use Rattle.std.proofs.Common.{◌≡◌, ℕ, zero, suc, ◌<◌, ◌≤◌, List, [], ◌∷◌, replicate, Option, Some, None, sym, ap, ◌∙◌, subst, ◌⊎◌, inl, inr, ⊎_elim, arith}
use Rattle.std.specs.Prelude.{ℤ, slice_get, slice_set, sum}
use Rattle.std.proofs.lemmas.Option.{same_Some}
use Rattle.std.proofs.lemmas.List.Folds.{sum_by-replicate}
use Rattle.c_tree.specs.Bare as bare
use Rattle.c_tree.specs.Bare.{Cons, Program}
use Rattle.c_tree.specs.Numbering.{thread_count, mutex_count}
use Rattle.c_meaning.specs.State.{Status, Running, Reacquiring, State, frame, start}
use Rattle.c_meaning.specs.Locks.{held_by}
use Rattle.c_meaning.proofs.Reading.{read_after}
use Rattle.step_effects.specs.Turns.{TurnsAlone, Turns, IfAny}
use Rattle.step_effects.specs.Effects.{Is, HasFree, Effect}
use Rattle.step_effects.proofs.Turning.{all_turn}
use Rattle.step_effects.proofs.Reaching.{keeps_in_reached}
use Rattle.reached_states.specs.Owners.{HasBegun, OwnersHaveBegun, RowsFit, ReachedOwnersHaveBegun, ReachedRowsFit}
use Rattle.reached_states.proofs.Rows.{made_of, take_fits, give_fits}

-- ---- a thread that has begun has begun for good

alone_begun : (p : Program) (x y : Status) → TurnsAlone p x y → HasBegun (Some x) → HasBegun (Some y)
alone_begun p x y (TurnsAlone.stays z) h = h
alone_begun p x y (TurnsAlone.goes frames next g) h = tt
alone_begun p x y (TurnsAlone.ends newest) h = tt
alone_begun p x y (TurnsAlone.waits l cond place takes rest more c m below) h = tt
alone_begun p x y (TurnsAlone.wakes c m frames) h = tt
alone_begun p x y (TurnsAlone.takes_again m k takes frames) h = tt
alone_begun p x y (TurnsAlone.retakes m l cond place takes rest more) h = tt

begun : (p : Program) (x y : Status) → Turns p x y → HasBegun (Some x) → HasBegun (Some y)
begun p x y (Turns.alone a b turn) h = alone_begun p a b turn h
begun p x y (Turns.creates l slot name arg rest more) h = tt
begun p x y (Turns.begins name f values named) h = tt

pub begun_if_any : (p : Program) (o x : Option Status) → IfAny (Turns p) o x → HasBegun o → HasBegun x
begun_if_any p None x turn h = absurd h
begun_if_any p (Some x) None turn h = absurd turn
begun_if_any p (Some x) (Some y) turn h = begun p x y turn h

-- ---- owners

module _ (p : Program) (s : State) (t : ℕ) where
  runs_begun : (status : Status) → Is s t status → HasBegun (Some status) → HasBegun (slice_get s.threads t)
  runs_begun status is h = subst HasBegun (sym is) h

  -- a mutex that a thread acquires is its, and others have the owners that they had
  acquired : (m k owner : ℕ) → slice_get (slice_set s.owners m (Some t)) k ≡ Some (Some owner) → (slice_get s.owners k ≡ Some (Some owner)) ⊎ (owner ≡ t)
  acquired m k owner e = ⊎_elim
      (λ here. inr (same_Some owner t here.1))
      (λ other. inl other.1)
      (read_after s.owners m (Some t) k (Some owner) e)

  released : (m k owner : ℕ) → slice_get (slice_set s.owners m None) k ≡ Some (Some owner) → slice_get s.owners k ≡ Some (Some owner)
  released m k owner e = ⊎_elim
      (λ here. let none : Some owner ≡ None = here.1 in absurd (cc none))
      (λ other. other.1)
      (read_after s.owners m None k (Some owner) e)

  -- who owns a mutex behind a step owned it, or acts
  owned_before : (next : State) → Effect p s t next → (k owner : ℕ) → slice_get next.owners k ≡ Some (Some owner) → (slice_get s.owners k ≡ Some (Some owner)) ⊎ ((owner ≡ t) × HasBegun (slice_get s.threads t))
  owned_before next (Effect.goes frames more cells input output is g same) k owner e = inl e
  owned_before next (Effect.locks frames more m is g free) k owner e =
      ⊎_elim (λ old. inl old) (λ same. inr (same, runs_begun (Running frames) is tt)) (acquired m k owner e)
  owned_before next (Effect.unlocks frames more m is g owned) k owner e = inl (released m k owner e)
  owned_before next (Effect.takes frames more monitor row is g free) k owner e = inl e
  owned_before next (Effect.gives frames more monitor row left is g there held) k owner e = inl e
  owned_before next (Effect.begins l slot name arg rest more u f z is idle at named value) k owner e = inl e
  owned_before next (Effect.ends newest is) k owner e = inl e
  owned_before next (Effect.waits l cond place taking rest more c m is at on owned) k owner e = inl (released m k owner e)
  owned_before next (Effect.wakes_one frames more waiting u c m is g asleep) k owner e = inl e
  owned_before next (Effect.wakes_all frames more c is g) k owner e = inl e
  owned_before next (Effect.wakes c m frames is) k owner e = inl e
  owned_before next (Effect.takes_again m monitor left frames row is free) k owner e = inl e
  owned_before next (Effect.retakes m l cond place taking rest more is free) k owner e =
      ⊎_elim (λ old. inl old) (λ same. inr (same, runs_begun (Reacquiring m [] (frame l (Cons (bare.Wait cond place taking) rest) ∷ more)) is tt)) (acquired m k owner e)

  owners_keep : (next : State) → Effect p s t next → OwnersHaveBegun s → OwnersHaveBegun next
  owners_keep next effect h k owner e = begun_if_any p (slice_get s.threads owner) (slice_get next.threads owner) (all_turn p s t next effect owner) (⊎_elim
      (λ old. h k owner old)
      (λ acts. subst (λ u. HasBegun (slice_get s.threads u)) (sym acts.0) acts.1)
      (owned_before next effect k owner e))

-- no mutex has an owner at the start
none_owned : (n k owner : ℕ) → slice_get (replicate n None) k ≡ Some (Some owner) → ⊥
none_owned zero k owner e = cc e
none_owned (suc n) zero owner e = cc e
none_owned (suc n) (suc k) owner e = none_owned n k owner e

pub reached_owners : ReachedOwnersHaveBegun
reached_owners p input s r =
    keeps_in_reached p OwnersHaveBegun (λ old t next effect h. owners_keep p old t next effect h) input s (λ k owner e. absurd (none_owned (mutex_count p) k owner e)) r

-- ---- rows

module _ (p : Program) (s : State) (t : ℕ) (h : RowsFit p s) where
  -- where a row that fits is written
  row_written : (monitor : ℕ) (new : List ℕ) → ((capacity : ℕ) → slice_get p.monitors monitor ≡ Some capacity → sum new ≤ capacity)
      → (k capacity : ℕ) (row : List ℕ) → slice_get p.monitors k ≡ Some capacity → slice_get (slice_set s.tokens monitor new) k ≡ Some row → sum row ≤ capacity
  row_written monitor new fits k capacity row has there = ⊎_elim
      (λ here. subst (λ r. sum r ≤ capacity) (sym here.1) (fits capacity (ap (slice_get p.monitors) (sym here.0) ∙ has)))
      (λ other. h k capacity row has other.1)
      (read_after s.tokens monitor new k row there)

  taken_fits : (monitor : ℕ) (row : List ℕ) → HasFree p s monitor row → (capacity : ℕ) → slice_get p.monitors monitor ≡ Some capacity → sum (slice_set row t (suc (held_by row t))) ≤ capacity
  taken_fits monitor row free capacity has =
      let same : free.capacity ≡ capacity = same_Some free.capacity capacity (sym free.has ∙ has) in take_fits row t capacity (subst (λ c. sum row < c) same free.free)

  rows_keep : (next : State) → Effect p s t next → RowsFit p next
  rows_keep next (Effect.goes frames more cells input output is g same) = h
  rows_keep next (Effect.locks frames more m is g free) = h
  rows_keep next (Effect.unlocks frames more m is g owned) = h
  rows_keep next (Effect.takes frames more monitor row is g free) = row_written monitor (slice_set row t (suc (held_by row t))) (taken_fits monitor row free)
  rows_keep next (Effect.gives frames more monitor row left is g there held) =
      row_written monitor (slice_set row t left) (λ capacity has. give_fits row t left capacity held (h monitor capacity row has there))
  rows_keep next (Effect.begins l slot name arg rest more u f z is idle at named value) = h
  rows_keep next (Effect.ends newest is) = h
  rows_keep next (Effect.waits l cond place taking rest more c m is at on owned) = h
  rows_keep next (Effect.wakes_one frames more waiting u c m is g asleep) = h
  rows_keep next (Effect.wakes_all frames more c is g) = h
  rows_keep next (Effect.wakes c m frames is) = h
  rows_keep next (Effect.takes_again m monitor left frames row is free) = row_written monitor (slice_set row t (suc (held_by row t))) (taken_fits monitor row free)
  rows_keep next (Effect.retakes m l cond place taking rest more is free) = h

start_rows : (p : Program) (input : List ℤ) → RowsFit p (start p input)
start_rows p input k capacity row has there =
    let from = made_of (λ (capacity : ℕ). replicate (thread_count p) 0) p.monitors k row there in
    let none : sum row ≡ 0 = ap sum (sym from.2) ∙ sum_by-replicate (λ n. n) (thread_count p) 0 ∙ omega arith in
    omega (arith, none)

pub reached_rows : ReachedRowsFit
reached_rows p input s r = keeps_in_reached p (RowsFit p) (λ old t next effect h. rows_keep p old t h next effect) input s (start_rows p input) r
