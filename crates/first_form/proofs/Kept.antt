-- What each step of a program whose locks are never nested keeps: a thread that is at a lock owns nothing.
use Rattle.std.proofs.Common.{◌≡◌, ◌≢◌, ℕ, true, List, [], ◌∷◌, Option, Some, None, sym, ◌∙◌, subst, ⊎_elim}
use Rattle.std.specs.Prelude.{slice_get, slice_set, ⊤}
use Rattle.c_tree.specs.Bare.{Stmt, Stmts, Program}
use Rattle.c_tree.specs.Numbering.{mutex_of}
use Rattle.c_rules.specs.Names.{mentions}
use Rattle.first_form.specs.FirstForm.{mutexes_of, holds}
use Rattle.c_meaning.specs.State.{Status, NotBegun, Running, Waiting, Reacquiring, Ended, State}
use Rattle.c_meaning.specs.Outcome.{Outcome, NotEnabled, Undefined, Done}
use Rattle.c_meaning.proofs.Reading.{some_is, read_after}
use Rattle.first_form.proofs.Quiet.{IsQuiet}

-- the mutex of this number was locked above and not unlocked since
pub record IsHeld (p : Program) (above : List Stmt) (r : ℕ) : Type 0 where
  pub name : List ℕ
  pub named : mentions (mutexes_of p) name ≡ true
  pub number : mutex_of p name None ≡ Some r
  pub held : holds above name ≡ true

-- what a thread owns, it locked above
abbrev pub Owned : Program → List (Option ℕ) → ℕ → List Stmt → Type 0
Owned p owners t above = (r : ℕ) → slice_get owners r ≡ Some (Some t) → IsHeld p above r

-- a running thread is quiet below what it has done, and a thread that hasn't begun owns nothing
pub record Goes (p : Program) (owners : List (Option ℕ)) (t : ℕ) (todo : Stmts) : Type 0 where
  pub above : List Stmt
  pub quiet : IsQuiet p above todo
  pub owned : Owned p owners t above

abbrev pub Fits : Program → List (Option ℕ) → ℕ → Status → Type 0
Fits p owners t NotBegun = (r : ℕ) → slice_get owners r ≡ Some (Some t) → ⊥
Fits p owners t (Running (f ∷ [])) = Goes p owners t f.todo
Fits p owners t (Running []) = ⊥
Fits p owners t (Running (f ∷ g ∷ more)) = ⊥
Fits p owners t (Waiting condition mutex frames) = ⊥
Fits p owners t (Reacquiring mutex takes frames) = ⊥
Fits p owners t Ended = ⊤

abbrev pub Kept : Program → List (Option ℕ) → List Status → Type 0
Kept p owners threads = (t : ℕ) (status : Status) → slice_get threads t ≡ Some status → Fits p owners t status

abbrev pub KeptIn : Program → State → Type 0
KeptIn p s = Kept p s.owners s.threads

abbrev pub OnDone : Outcome → (State → Type 0) → Type 0
OnDone NotEnabled P = ⊤
OnDone Undefined P = ⊤
OnDone (Done done s) P = P s

-- a thread that owns no more than before still fits
pub still_fits : (p : Program) (owners owners' : List (Option ℕ)) (t : ℕ) (status : Status) → ((r : ℕ) → slice_get owners' r ≡ Some (Some t) → slice_get owners r ≡ Some (Some t))
    → Fits p owners t status → Fits p owners' t status
still_fits p owners owners' t NotBegun fewer fits = λ r e. fits r (fewer r e)
still_fits p owners owners' t (Running []) fewer fits = fits
still_fits p owners owners' t (Running (f ∷ [])) fewer fits = record { above = fits.above; quiet = fits.quiet; owned = λ r e. fits.owned r (fewer r e) }
still_fits p owners owners' t (Running (f ∷ g ∷ more)) fewer fits = fits
still_fits p owners owners' t (Waiting condition mutex frames) fewer fits = fits
still_fits p owners owners' t (Reacquiring mutex takes frames) fewer fits = fits
still_fits p owners owners' t Ended fewer fits = tt

-- the status of one thread changes, and no other thread owns more
pub move : (p : Program) (owners owners' : List (Option ℕ)) (threads : List Status) (t : ℕ) (new : Status) → Kept p owners threads → Fits p owners' t new
    → ((r u : ℕ) → slice_get owners' r ≡ Some (Some u) → u ≢ t → slice_get owners r ≡ Some (Some u)) → Kept p owners' (slice_set threads t new)
move p owners owners' threads t new kept fits others = λ u status e. ⊎_elim
    (λ same. subst (λ x. Fits p owners' x status) (sym same.0) (subst (Fits p owners' t) (sym same.1) fits))
    (λ other. still_fits p owners owners' u status (λ r o. others r u o other.0) (kept u status other.1))
    (read_after threads t new u status e)

-- what is held above stays held below a statement that unlocks nothing
pub held_below : (p : Program) (above above' : List Stmt) (r : ℕ) → ((name : List ℕ) → holds above name ≡ true → holds above' name ≡ true) → IsHeld p above r → IsHeld p above' r
held_below p above above' r stays was = record { name = was.name; named = was.named; number = was.number; held = stays was.name was.held }

pub number_is : (a b : ℕ) (o : Option ℕ) → o ≡ Some a → o ≡ Some b → a ≡ b
number_is a b o ea eb = some_is a b (sym ea ∙ eb)
