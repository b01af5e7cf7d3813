-- The frame below the newest one.
use Rattle.std.proofs.Common.{◌≡◌, ℕ, List, [], ◌∷◌, map, Option, Some, None, refl}
use Rattle.std.specs.Prelude.{reverse, slice_get, MatchOption, IfSome}
use Rattle.std.proofs.lemmas.Option.{same_Some}
use Rattle.c_steps.specs.Running.{Runs, MaySetBelow}
use Rattle.c_steps.specs.Setting.{MaySet}
use Rattle.state_parts.specs.First.{NamesHave}
use Rattle.c_frames.specs.Names.{IsAmong}
use Rattle.c_frames.specs.declared.frames.Frame.{Frame}
use Rattle.state_parts.specs.declared.threads.Thread.{Thread}
use Rattle.c_steps.specs.Standing.{At}
use Rattle.c_tree.specs.declared.program.Program.{Program}
use Rattle.c_tree.specs.Bare.{Stmt, Cons}
use Rattle.c_meaning.specs.State as run
use Rattle.c_steps.specs.declared.state.State.{State}

-- there is none
pub nothing_below : {A B : Type 0} (g : A → B) (xs : List A) (h : B) (more : List B) → map g (reverse xs) ≡ h ∷ more → slice_get (reverse xs) 1 ≡ None → more ≡ []
nothing_below {A = A} {B = B} g xs h more is none = by (reverse xs) is none
  where
    by : (ys : List A) → map g ys ≡ h ∷ more → slice_get ys 1 ≡ None → more ≡ []
    by [] e n = absurd (cc e)
    by (y ∷ []) e n = cc
    by (y ∷ z ∷ ys) e n = absurd (cc n)

-- there is one
pub record Below {A B : Type 0} (g : A → B) (x : A) (more : List B) : Type 0 where
  pub others : List B
  pub is : more ≡ g x ∷ others

pub one_below : {A B : Type 0} (g : A → B) (xs : List A) (h : B) (more : List B) (x : A) → map g (reverse xs) ≡ h ∷ more → slice_get (reverse xs) 1 ≡ Some x → Below g x more
one_below {A = A} {B = B} g xs h more x is some = by (reverse xs) is some
  where
    by : (ys : List A) → map g ys ≡ h ∷ more → slice_get ys 1 ≡ Some x → Below g x more
    by [] e n = absurd (cc e)
    by (y ∷ []) e n = absurd (cc n)
    by (y ∷ z ∷ ys) e n = record { others = map g ys; is = let same = same_Some z x n in cc }

pub match_none : {A : Type 0} (o : Option A) (P : Type 0) → MatchOption o P (λ x. ⊥) → o ≡ None
match_none None P m = refl
match_none (Some x) P m = absurd m

pub match_some : {A : Type 0} (o : Option A) (P : Type 0) (Q : A → Type 0) → (P → ⊥) → MatchOption o P Q → (x : A) × (o ≡ Some x) × Q x
match_some None P Q not m = absurd (not m)
match_some (Some x) P Q not m = (x, refl, m)

abbrev pub runs_at : (p : Program) (s : State) (t : ℕ) (act : Stmt) (at : At p s t act) → Runs p s t (run.frame at.locals (Cons act at.rest)) at.more
runs_at p s t act at = record { thread = at.thread; there = at.there; runs = at.runs; stands = at.stands }

-- what is set below the newest frame is one of the names there
pub may_below : (s : State) (t : ℕ) (o : Option (List ℕ)) → ((thread : Thread) (x : Frame) → slice_get s.threads.items t ≡ Some thread → slice_get (reverse thread.frames.items) 1 ≡ Some x
    → NamesHave s.tables x (λ names. IfSome o (IsAmong names))) → IfSome o (MaySetBelow s t)
may_below s t None have = tt
may_below s t (Some name) have = have

pub may_here : (s : State) (t : ℕ) (o : Option (List ℕ)) → ((thread : Thread) (x : Frame) → slice_get s.threads.items t ≡ Some thread → slice_get (reverse thread.frames.items) 0 ≡ Some x
    → NamesHave s.tables x (λ names. IfSome o (IsAmong names))) → IfSome o (MaySet s t)
may_here s t None have = tt
may_here s t (Some name) have = have
