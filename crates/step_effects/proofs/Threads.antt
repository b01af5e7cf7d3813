-- How lists of threads turn, where one or two of them are set, or all are awakened.
use Rattle.std.proofs.Common.{◌≡◌, ◌≢◌, ℕ, zero, suc, Bool, true, false, List, [], ◌∷◌, map, Option, Some, None, option_map, refl, sym, ◌∙◌, subst, ⊎_elim}
use Rattle.std.specs.Prelude.{◌==◌, slice_get, slice_set, if◌then◌else◌}
use Rattle.std.proofs.lemmas.Bool.Decides.{eqb_tells}
use Rattle.std.proofs.lemmas.Option.{slice_get-map}
use Rattle.c_tree.specs.Bare.{Program}
use Rattle.c_meaning.specs.State.{Frame, Status, NotBegun, Running, Waiting, Reacquiring, Ended}
use Rattle.c_meaning.specs.Waits.{awakened, acquires_again}
use Rattle.c_meaning.proofs.Reading.{unwritten}
use Rattle.step_effects.specs.Turns.{TurnsAlone, IfAny}

-- what is written where something was
pub written : {X : Type 0} (xs : List X) (i : ℕ) (x y : X) → slice_get xs i ≡ Some x → slice_get (slice_set xs i y) i ≡ Some y
written [] i x y there = absurd (cc there)
written (z ∷ xs) zero x y there = refl
written (z ∷ xs) (suc i) x y there = written xs i x y there

module _ (R : Status → Status → Type 0) (same_so : (x : Status) → R x x) where
  stays_if_any : (o : Option Status) → IfAny R o o
  stays_if_any None = tt
  stays_if_any (Some x) = same_so x

  -- what one thread does is set
  pub turn_one : (threads : List Status) (t : ℕ) (x y : Status) → slice_get threads t ≡ Some x → R x y
      → (u : ℕ) → IfAny R (slice_get threads u) (slice_get (slice_set threads t y) u)
  turn_one threads t x y there turn u = ⊎_elim
      (λ same. subst (λ v. IfAny R (slice_get threads v) (slice_get (slice_set threads t y) v)) (sym same.1)
      (subst (λ o. IfAny R o (slice_get (slice_set threads t y) t)) (sym there) (subst (IfAny R (Some x)) (sym (written threads t x y there)) turn)))
      (λ other. subst (IfAny R (slice_get threads u)) (sym (unwritten threads t u y other.1)) (stays_if_any (slice_get threads u)))
      (eqb_tells u t)

  -- what one thread does is set, and then what another does
  pub turn_two : (threads : List Status) (t u : ℕ) (x y z w : Status) → slice_get threads t ≡ Some x → slice_get threads u ≡ Some z → u ≢ t → R x y → R z w
      → (v : ℕ) → IfAny R (slice_get threads v) (slice_get (slice_set (slice_set threads t y) u w) v)
  turn_two threads t u x y z w there second apart turn other v =
      let both = slice_set (slice_set threads t y) u w in
      ⊎_elim
      (λ same. subst (λ i. IfAny R (slice_get threads i) (slice_get both i)) (sym same.1)
      (subst (λ o. IfAny R o (slice_get both u)) (sym second)
      (subst (IfAny R (Some z)) (sym (written (slice_set threads t y) u z w (unwritten threads t u y apart ∙ second))) other)))
      (λ differs. subst (IfAny R (slice_get threads v)) (sym (unwritten (slice_set threads t y) u v w differs.1)) (turn_one threads t x y there turn v))
      (eqb_tells v u)

module _ (p : Program) where
  awakens : (c : ℕ) (x : Status) → TurnsAlone p x (awakened c x)
  awakens c NotBegun = TurnsAlone.stays NotBegun
  awakens c (Running frames) = TurnsAlone.stays (Running frames)
  awakens c (Reacquiring m takes frames) = TurnsAlone.stays (Reacquiring m takes frames)
  awakens c Ended = TurnsAlone.stays Ended
  awakens c (Waiting d m frames) = by (d == c)
    where
      by : (b : Bool) → TurnsAlone p (Waiting d m frames) (if b then acquires_again m frames else Waiting d m frames)
      by true = TurnsAlone.wakes d m frames
      by false = TurnsAlone.stays (Waiting d m frames)

  awakens_if_any : (c : ℕ) (o : Option Status) → IfAny (TurnsAlone p) o (option_map (awakened c) o)
  awakens_if_any c None = tt
  awakens_if_any c (Some x) = awakens c x

  -- one thread goes on, and others are awakened
  pub turn_all : (threads : List Status) (t c : ℕ) (frames next : List Frame) → slice_get threads t ≡ Some (Running frames) → TurnsAlone p (Running frames) (Running next)
      → (u : ℕ) → IfAny (TurnsAlone p) (slice_get threads u) (slice_get (map (awakened c) (slice_set threads t (Running next))) u)
  turn_all threads t c frames next there turn u =
      let set = slice_set threads t (Running next) in
      subst (IfAny (TurnsAlone p) (slice_get threads u)) (sym (slice_get-map (awakened c) set u)) (⊎_elim
      (λ same. subst (λ v. IfAny (TurnsAlone p) (slice_get threads v) (option_map (awakened c) (slice_get set v))) (sym same.1)
      (subst (λ o. IfAny (TurnsAlone p) o (option_map (awakened c) (slice_get set t))) (sym there)
      (subst (λ o. IfAny (TurnsAlone p) (Some (Running frames)) (option_map (awakened c) o)) (sym (written threads t (Running frames) (Running next) there)) turn)))
      (λ other. subst (λ o. IfAny (TurnsAlone p) (slice_get threads u) (option_map (awakened c) o)) (sym (unwritten threads t u (Running next) other.1)) (awakens_if_any c (slice_get threads u)))
      (eqb_tells u t))
