-- What may be set, in a statement and those inside it.
use Rattle.std.proofs.Common.{◌≡◌, ℕ, List, [], ◌∷◌, map, Some, None, refl, ap}
use Rattle.std.specs.Prelude.{reverse, slice_get}
use Rattle.std.proofs.lemmas.Option.{same_Some}
use Rattle.c_tree.specs.Bare as bare
use Rattle.c_tree.specs.Bare.{Stmt, Stmts, Nil, Cons}
use Rattle.c_tree.specs.Everywhere.{Everywhere, EverywhereInside}
use Rattle.c_frames.specs.Names.{target, SetsAmong}
use Rattle.c_frames.specs.declared.frames.Frame.{Frame}
use Rattle.c_frames.specs.declared.names.LocalNames.{LocalNames}
use Rattle.c_frames.proofs.EverywhereNext.{everywhere_weaker}
use Rattle.state_parts.specs.First.{OfEach}
use Rattle.c_steps.specs.Setting.{MaySets}
use Rattle.c_steps.specs.declared.state.State.{State}
use Rattle.state_parts.specs.declared.threads.Thread.{Thread}
use Rattle.c_steps.proofs.BelowNewest.{may_here}

mutual
  pub each_of : {I : Type 0} (P : I → Stmt → Type 0) (ss : Stmts) → ((i : I) → Everywhere (P i) ss) → Everywhere (λ s. (i : I) → P i s) ss
  each_of P Nil all = tt
  each_of P (Cons s rest) all = ((λ i. (all i).0), each_inside P s (λ i. (all i).1), each_of P rest (λ i. (all i).2))

  pub each_inside : {I : Type 0} (P : I → Stmt → Type 0) (s : Stmt) → ((i : I) → EverywhereInside (P i) s) → EverywhereInside (λ s. (i : I) → P i s) s
  each_inside P (bare.If test then_arm else_arm) all = (each_of P then_arm (λ i. (all i).0), each_of P else_arm (λ i. (all i).1))
  each_inside P (bare.While test body) all = each_of P body all
  each_inside P (bare.For first_part test step body) all = (each_of P first_part (λ i. (all i).0), each_of P step (λ i. (all i).1), each_of P body (λ i. (all i).2))
  each_inside P (bare.TryLock place taken busy) all = (each_of P taken (λ i. (all i).0), each_of P busy (λ i. (all i).1))
  each_inside P (bare.Declare name e) all = tt
  each_inside P (bare.Assign target e) all = tt
  each_inside P (bare.Call target function args) all = tt
  each_inside P (bare.Return e) all = tt
  each_inside P (bare.Read target) all = tt
  each_inside P (bare.Print format args) all = tt
  each_inside P (bare.Create slot function arg) all = tt
  each_inside P (bare.Join slot) all = tt
  each_inside P (bare.InitMutex place) all = tt
  each_inside P (bare.InitCond place) all = tt
  each_inside P (bare.Lock place) all = tt
  each_inside P (bare.Unlock place) all = tt
  each_inside P (bare.Wait cond mutex takes) all = tt
  each_inside P (bare.Signal cond) all = tt
  each_inside P (bare.Broadcast cond) all = tt
  each_inside P (bare.Take monitor) all = tt
  each_inside P (bare.Give monitor) all = tt

-- the names of a thread's newest frame
pub record Names (s : State) (t : ℕ) : Type 0 where
  pub thread : Thread
  pub x : Frame
  pub names : LocalNames
  pub there : slice_get s.threads.items t ≡ Some thread
  pub newest : slice_get (reverse thread.frames.items) 0 ≡ Some x
  pub are : slice_get s.tables.names.items x.function ≡ Some names

pub may_each : (s : State) (t : ℕ) (act : Stmt) → ((i : Names s t) → OfEach (SetsAmong i.names) act) → OfEach (MaySets s t) act
may_each s t act all =
    let every : Everywhere (λ a. (i : Names s t) → SetsAmong i.names a) (Cons act Nil) = each_of (λ (i : Names s t) a. SetsAmong i.names a) (Cons act Nil) (λ i. ((all i).0, (all i).1, tt)) in
    let may : Everywhere (MaySets s t) (Cons act Nil) = everywhere_weaker (λ a. (i : Names s t) → SetsAmong i.names a) (MaySets s t)
    (λ a sets. may_here s t (target a) (λ thread x there newest names are. sets (record { thread = thread; x = x; names = names; there = there; newest = newest; are = are }))) (Cons act Nil) every in
    (may.0, may.1)

-- the newest frame
pub record IsNewest {A B : Type 0} (g : A → B) (x : A) (all : List B) : Type 0 where
  pub more : List B
  pub is : all ≡ g x ∷ more

pub newest_of : {A B : Type 0} (g : A → B) (xs : List A) (x : A) → slice_get (reverse xs) 0 ≡ Some x → IsNewest g x (map g (reverse xs))
newest_of {A = A} {B = B} g xs x some = by (reverse xs) some
  where
    by : (ys : List A) → slice_get ys 0 ≡ Some x → IsNewest g x (map g ys)
    by [] n = absurd (cc n)
    by (y ∷ ys) n = record { more = map g ys; is = ap (λ z. g z ∷ map g ys) (same_Some y x n) }

pub no_frames : {A B : Type 0} (g : A → B) (xs : List A) → slice_get (reverse xs) 0 ≡ None → map g (reverse xs) ≡ []
no_frames {A = A} {B = B} g xs none = by (reverse xs) none
  where
    by : (ys : List A) → slice_get ys 0 ≡ None → map g ys ≡ []
    by [] n = refl
    by (y ∷ ys) n = absurd (cc n)
