-- What rows of the table of effects have in common.
use Rattle.std.proofs.Common.{◌≡◌, ℕ, zero, suc, ◌+◌, ◌<◌, ◌≤◌, nat_lt, List, [], ◌∷◌, sum, length, ⊎_elim, map, true, false, Option, Some, None, IfSome, refl, sym, ap, ◌∙◌, subst, arith}
use Rattle.std.specs.Prelude.{slice_get, slice_set}
use Rattle.std.proofs.lemmas.List.{length-map, length-set}
use Rattle.std.proofs.lemmas.Option.{slice_get_within}
use Rattle.std.proofs.lemmas.List.Sums.{sum_by-cons}
use Rattle.c_meaning.proofs.Reading.{read_after}
use Rattle.c_tree.specs.declared.program.Program.{Program}
use Rattle.c_tree.specs.Bare.{Stmt}
use Rattle.c_meaning.specs.State as run
use Rattle.std.proofs.lemmas.Bool.{false≢true}
use Rattle.c_meaning.specs.declared.Did.TheVariants as did
use Rattle.c_meaning.specs.Outcome.{NotEnabled, Undefined, Done}
use Rattle.c_meaning.specs.Locks.{unlocked_by, taken, given_from, held_by, holding}
use Rattle.c_meaning.specs.Waits.{waited_by}
use Rattle.c_meaning.specs.Stuck.{is_owner}
use Rattle.c_steps.specs.declared.state.State.{State}
use Rattle.state_parts.specs.Threads.{status_of}
use Rattle.c_steps.specs.Model.{state_of}
use Rattle.c_steps.specs.Standing.{At}

-- a thread that has changed is still one of so many
pub as_many : (p : Program) (old new : State) (t : ℕ) (status : run.Status) → state_of p new ≡ run.with_status (state_of p old) t status → length new.threads.items ≡ length old.threads.items
as_many p old new t status e =
    sym (length-map new.threads.items (status_of p new.tables)) ∙ ap (λ s. length s.threads) e ∙ length-set (map (status_of p old.tables) old.threads.items) t status
    ∙ length-map old.threads.items (status_of p old.tables)

-- the thread of a statement is one of the threads
pub is_one : (p : Program) (s : State) (t : ℕ) (act : Stmt) → At p s t act → t < length s.threads.items
is_one p s t act at = slice_get_within s.threads.items t at.thread at.there

-- so an owner is one of them after it has gone on
pub owner_is_one : (p : Program) (old new : State) (t : ℕ) (status : run.Status) (owner : Option ℕ) → state_of p new ≡ run.with_status (state_of p old) t status → t < length old.threads.items
    → IfSome owner (λ u. u ≡ t) → IfSome owner (λ u. u < length new.threads.items)
owner_is_one p old new t status None e lt h = h
owner_is_one p old new t status (Some u) e lt h = let n = as_many p old new t status e in omega (arith, n, lt, h)

-- what a thread that owns a mutex does to it
pub unlocked_as_owner : (s : run.State) (t : ℕ) (frames : List run.Frame) (mutex : ℕ) (owner : Option (Option ℕ)) → is_owner t owner ≡ true
    → unlocked_by s t frames mutex owner ≡ Done (did.Unlock mutex) (record (run.goes_on s t frames) { owners = slice_set s.owners mutex None })
unlocked_as_owner s t frames mutex (Some (Some owner)) e = rw e refl
unlocked_as_owner s t frames mutex (Some None) e = absurd (false≢true e)
unlocked_as_owner s t frames mutex None e = absurd (false≢true e)

pub unlocked_as_other : (s : run.State) (t : ℕ) (frames : List run.Frame) (mutex : ℕ) (owner : Option (Option ℕ)) → is_owner t owner ≡ false → unlocked_by s t frames mutex owner ≡ Undefined
unlocked_as_other s t frames mutex (Some (Some owner)) e = rw e refl
unlocked_as_other s t frames mutex (Some None) e = refl
unlocked_as_other s t frames mutex None e = refl

pub waited_as_owner : (s : run.State) (t : ℕ) (frames : List run.Frame) (condition mutex : ℕ) (owner : Option (Option ℕ)) → is_owner t owner ≡ true
    → waited_by s t frames condition mutex owner ≡ Done (did.Wait mutex) (record (run.with_status s t (run.Waiting condition mutex frames)) { owners = slice_set s.owners mutex None })
waited_as_owner s t frames condition mutex (Some (Some owner)) e = rw e refl
waited_as_owner s t frames condition mutex (Some None) e = absurd (false≢true e)
waited_as_owner s t frames condition mutex None e = absurd (false≢true e)

pub waited_as_other : (s : run.State) (t : ℕ) (frames : List run.Frame) (condition mutex : ℕ) (owner : Option (Option ℕ)) → is_owner t owner ≡ false
    → waited_by s t frames condition mutex owner ≡ Undefined
waited_as_other s t frames condition mutex (Some (Some owner)) e = rw e refl
waited_as_other s t frames condition mutex (Some None) e = refl
waited_as_other s t frames condition mutex None e = refl

-- what a thread does to the tokens of a monitor
pub taken_where_free : (s : run.State) (t : ℕ) (status : run.Status) (monitor capacity : ℕ) (row : List ℕ) → nat_lt (sum row) capacity ≡ true
    → taken s t status monitor (Some capacity) (Some row) ≡ Done (did.Take monitor) (holding s t status monitor row (suc (held_by row t)))
taken_where_free s t status monitor capacity row e = rw e refl

pub taken_where_full : (s : run.State) (t : ℕ) (status : run.Status) (monitor capacity : ℕ) (row : List ℕ) → nat_lt (sum row) capacity ≡ false
    → taken s t status monitor (Some capacity) (Some row) ≡ NotEnabled
taken_where_full s t status monitor capacity row e = rw e refl

pub taken_of_none : (s : run.State) (t : ℕ) (status : run.Status) (monitor : ℕ) (capacity : Option ℕ) → taken s t status monitor capacity None ≡ Undefined
taken_of_none s t status monitor (Some capacity) = refl
taken_of_none s t status monitor None = refl

pub given_where_held : (s : run.State) (t : ℕ) (frames : List run.Frame) (monitor held left : ℕ) (row : List ℕ) → held ≡ left + 1
    → given_from s t frames monitor row held ≡ Done (did.Give monitor) (holding s t (run.Running frames) monitor row left)
given_where_held s t frames monitor held left row e = let one : held ≡ suc left = omega (arith, e) in ap (given_from s t frames monitor row) one

-- a thread holds no more tokens than all threads do
pub held_within : (row : List ℕ) (t : ℕ) → held_by row t ≤ sum row
held_within [] t = omega arith
held_within (x ∷ xs) zero = let e : sum (x ∷ xs) ≡ x + sum xs = sum_by-cons (λ y. y) x xs in omega (arith, e)
held_within (x ∷ xs) (suc t) = let e : sum (x ∷ xs) ≡ x + sum xs = sum_by-cons (λ y. y) x xs in let h = held_within xs t in omega (arith, e, h)

-- rows stay short
pub rows_short : (rows : List (List ℕ)) (k : ℕ) (row : List ℕ) → ((m : ℕ) (r : List ℕ) → slice_get rows m ≡ Some r → length r ≤ 32) → length row ≤ 32
    → (m : ℕ) (r : List ℕ) → slice_get (slice_set rows k row) m ≡ Some r → length r ≤ 32
rows_short rows k row short h m r e = ⊎_elim
    (λ here. let P : List ℕ → Type 0 = λ x. length x ≤ 32 in subst P (sym here.1) h)
    (λ other. short m r other.1)
    (read_after rows k row m r e)
