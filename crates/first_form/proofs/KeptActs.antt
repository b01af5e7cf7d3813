-- What the acts of a program without nested locks keep.
use Rattle.std.proofs.Common.{◌≡◌, ◌≢◌, ℕ, ◌==◌, Bool, true, false, List, [], ◌∷◌, Option, Some, None, refl, sym, ap, ◌∙◌, subst, ⊎_elim, arith}
use Rattle.std.specs.Prelude.{ℤ, ◌||◌, not, if◌then◌else◌, slice_get, slice_set, bytes_eq}
use Rattle.c_tree.specs.Expressions.{Place}
use Rattle.c_tree.specs.Bare.{Stmt, Stmts, Lock, Unlock, Function, Program}
use Rattle.c_tree.specs.Numbering.{function_named, mutex_of}
use Rattle.first_form.specs.FirstForm.{holds}
use Rattle.c_meaning.specs.declared.Did.TheVariants as did
use Rattle.c_meaning.specs.State.{Locals, Frame, Status, NotBegun, Running, Waiting, Reacquiring, Ended, State, frame, goes_on}
use Rattle.c_meaning.specs.Outcome.{Undefined, Done}
use Rattle.c_meaning.specs.Places.{Target, Cell, Local}
use Rattle.c_meaning.specs.Setting.{assigned}
use Rattle.c_meaning.specs.Calls.{passed, frame_ended, returned}
use Rattle.c_meaning.specs.Threads.{first_frame, created_in, created, joined_to, joined}
use Rattle.c_meaning.specs.Locks.{locked_by, locked, unlocked_by, unlocked}
use Rattle.c_meaning.proofs.Reading.{or_right, and_of, some_is, same_bytes, bytes_eq_itself, read_after, Each, found_each}
use Rattle.first_form.proofs.Quiet.{IsMutex, IsQuiet, QuietFunction}
use Rattle.first_form.proofs.Kept.{Owned, Goes, Kept, KeptIn, OnDone, move, held_below, number_is}

pub kept_assigned : (p : Program) (s : State) (t : ℕ) (locals : Locals) (rest : Stmts) → KeptIn p s → Goes p s.owners t rest → (target : Option Target) (z : Option ℤ)
    → OnDone (assigned s t locals rest [] target z) (KeptIn p)
kept_assigned p s t locals rest kept goes (Some (Cell cell)) (Some z) = move p s.owners s.owners s.threads t _ kept goes (λ r u e other. e)
kept_assigned p s t locals rest kept goes (Some (Local name)) (Some z) = move p s.owners s.owners s.threads t _ kept goes (λ r u e other. e)
kept_assigned p s t locals rest kept goes (Some (Cell cell)) None = tt
kept_assigned p s t locals rest kept goes (Some (Local name)) None = tt
kept_assigned p s t locals rest kept goes None z = tt

pub kept_locked_by : (p : Program) (s : State) (t : ℕ) (locals : Locals) (rest : Stmts) (above : List Stmt) (place : Place) (mutex : ℕ) → KeptIn p s
    → IsMutex p place → IsQuiet p (Lock place ∷ above) rest → Owned p s.owners t above → mutex_of p place.name None ≡ Some mutex
    → (o : Option (Option ℕ)) → OnDone (locked_by s t (frame locals rest ∷ []) mutex o) (KeptIn p)
kept_locked_by p s t locals rest above place mutex kept is quiet owned number None = tt
kept_locked_by p s t locals rest above place mutex kept is quiet owned number (Some (Some owner)) = tt
kept_locked_by p s t locals rest above place mutex kept is quiet owned number (Some None) =
    move p s.owners (slice_set s.owners mutex (Some t)) s.threads t _ kept
    (record {
      above = Lock place ∷ above;
      quiet = quiet;
      owned = λ r e. ⊎_elim
          (λ same. record {
            name = place.name;
            named = is.named;
            number = number ∙ ap Some (sym same.0);
            held = ap (λ b. b || holds above place.name) (bytes_eq_itself place.name);
          })
          (λ other. held_below p above (Lock place ∷ above) r (λ name held. or_right (bytes_eq place.name name) (holds above name) held) (owned r other.1))
          (read_after s.owners mutex (Some t) r (Some t) e);
    })
    (λ r u e different. ⊎_elim (λ same. absurd (different (some_is u t same.1))) (λ other. other.1) (read_after s.owners mutex (Some t) r (Some u) e))

pub kept_locked : (p : Program) (s : State) (t : ℕ) (locals : Locals) (rest : Stmts) (above : List Stmt) (place : Place) → KeptIn p s
    → IsMutex p place → IsQuiet p (Lock place ∷ above) rest → Owned p s.owners t above
    → (o : Option ℕ) → mutex_of p place.name None ≡ o → OnDone (locked s t (frame locals rest ∷ []) o) (KeptIn p)
kept_locked p s t locals rest above place kept is quiet owned None number = tt
kept_locked p s t locals rest above place kept is quiet owned (Some mutex) number =
    kept_locked_by p s t locals rest above place mutex kept is quiet owned number (slice_get s.owners mutex)

-- a mutex of another number is another mutex
pub other_name : (p : Program) (a b : List ℕ) (m r : ℕ) → mutex_of p a None ≡ Some m → mutex_of p b None ≡ Some r → r ≢ m → not (bytes_eq a b) ≡ true
other_name p a b m r number_a number_b different = by (bytes_eq a b) refl
  where
    by : (x : Bool) → bytes_eq a b ≡ x → not x ≡ true
    by true e = absurd (different (number_is r m (mutex_of p b None) number_b (ap (λ name. mutex_of p name None) (sym (same_bytes a b e)) ∙ number_a)))
    by false e = refl

pub kept_unlocked_if : (p : Program) (s : State) (t : ℕ) (locals : Locals) (rest : Stmts) (above : List Stmt) (place : Place) (mutex : ℕ) → KeptIn p s
    → IsQuiet p (Unlock place ∷ above) rest → Owned p s.owners t above → mutex_of p place.name None ≡ Some mutex → (b : Bool)
    → OnDone (if b then Done (did.Unlock mutex) (record (goes_on s t (frame locals rest ∷ [])) { owners = slice_set s.owners mutex None }) else Undefined) (KeptIn p)
kept_unlocked_if p s t locals rest above place mutex kept quiet owned number false = tt
kept_unlocked_if p s t locals rest above place mutex kept quiet owned number true =
    move p s.owners (slice_set s.owners mutex None) s.threads t _ kept
    (record {
      above = Unlock place ∷ above;
      quiet = quiet;
      owned = λ r e. ⊎_elim
          (λ same. absurd (let none : Some t ≡ None = same.1 in cc none))
          (λ other. let was = owned r other.1 in record {
            name = was.name;
            named = was.named;
            number = was.number;
            held = and_of (not (bytes_eq place.name was.name)) (holds above was.name) (other_name p place.name was.name mutex r number was.number other.0) was.held;
          })
          (read_after s.owners mutex None r (Some t) e);
    })
    (λ r u e different. ⊎_elim (λ same. absurd (let none : Some u ≡ None = same.1 in cc none)) (λ other. other.1) (read_after s.owners mutex None r (Some u) e))

pub kept_unlocked : (p : Program) (s : State) (t : ℕ) (locals : Locals) (rest : Stmts) (above : List Stmt) (place : Place) → KeptIn p s
    → IsQuiet p (Unlock place ∷ above) rest → Owned p s.owners t above
    → (o : Option ℕ) → mutex_of p place.name None ≡ o → OnDone (unlocked s t (frame locals rest ∷ []) o) (KeptIn p)
kept_unlocked p s t locals rest above place kept quiet owned None number = tt
kept_unlocked p s t locals rest above place kept quiet owned (Some mutex) number = by (slice_get s.owners mutex)
  where
    by : (o : Option (Option ℕ)) → OnDone (unlocked_by s t (frame locals rest ∷ []) mutex o) (KeptIn p)
    by None = tt
    by (Some None) = tt
    by (Some (Some owner)) = kept_unlocked_if p s t locals rest above place mutex kept quiet owned number (owner == t)

pub not_running : (frames : List Frame) → Some (Running frames) ≡ Some NotBegun → ⊥
not_running frames e = cc e

-- a begun thread's frame is quiet
pub begins_quiet : (p : Program) → Each (QuietFunction p) p.functions → (name : List ℕ) (z : Option ℤ) (f : Option Function) (begin : Frame) → function_named p name ≡ f → first_frame f z ≡ Some begin
    → IsQuiet p [] begin.todo
begins_quiet p each name z None begin at e = absurd (cc e)
begins_quiet p each name None (Some f) begin at e = absurd (cc e)
begins_quiet p each name (Some z) (Some f) begin at e =
    let same : frame (passed f.params (z ∷ [])) f.body ≡ begin = grind arith in
    subst (λ b. IsQuiet p [] b.todo) same (found_each (QuietFunction p) (λ f. bytes_eq f.name name) p.functions f each at)

pub kept_created_in : (p : Program) (s : State) (t : ℕ) (locals : Locals) (rest : Stmts) (todo : Stmts) (u : ℕ) → KeptIn p s → Goes p s.owners t rest
    → slice_get s.threads t ≡ Some (Running (frame locals todo ∷ [])) → (o : Option Status) (begin : Option Frame) → slice_get s.threads u ≡ o
    → ((b : Frame) → begin ≡ Some b → IsQuiet p [] b.todo) → OnDone (created_in s t (frame locals rest ∷ []) u o begin) (KeptIn p)
kept_created_in p s t locals rest todo u kept goes at None begin is quiet = tt
kept_created_in p s t locals rest todo u kept goes at (Some (Running fs)) begin is quiet = tt
kept_created_in p s t locals rest todo u kept goes at (Some (Waiting condition mutex fs)) begin is quiet = tt
kept_created_in p s t locals rest todo u kept goes at (Some (Reacquiring mutex takes fs)) begin is quiet = tt
kept_created_in p s t locals rest todo u kept goes at (Some Ended) begin is quiet = tt
kept_created_in p s t locals rest todo u kept goes at (Some NotBegun) None is quiet = tt
kept_created_in p s t locals rest todo u kept goes at (Some NotBegun) (Some begin) is quiet =
    let nothing : (r : ℕ) → slice_get s.owners r ≡ Some (Some u) → ⊥ = kept u NotBegun is in
    let kept_before : Kept p s.owners (slice_set s.threads t (Running (frame locals rest ∷ []))) = move p s.owners s.owners s.threads t _ kept goes (λ r v e other. e) in
    move p s.owners s.owners (slice_set s.threads t (Running (frame locals rest ∷ []))) u (Running (begin ∷ [])) kept_before
    (record { above = []; quiet = quiet begin refl; owned = λ r e. absurd (nothing r e) })
    (λ r v e other. e)

pub kept_created : (p : Program) (s : State) (t : ℕ) (locals : Locals) (rest : Stmts) (todo : Stmts) → KeptIn p s → Goes p s.owners t rest
    → slice_get s.threads t ≡ Some (Running (frame locals todo ∷ [])) → (o : Option ℕ) (begin : Option Frame)
    → ((b : Frame) → begin ≡ Some b → IsQuiet p [] b.todo) → OnDone (created s t (frame locals rest ∷ []) o begin) (KeptIn p)
kept_created p s t locals rest todo kept goes at None begin quiet = tt
kept_created p s t locals rest todo kept goes at (Some u) begin quiet = kept_created_in p s t locals rest todo u kept goes at (slice_get s.threads u) begin refl quiet

pub kept_joined : (p : Program) (s : State) (t : ℕ) (locals : Locals) (rest : Stmts) → KeptIn p s → Goes p s.owners t rest → (o : Option ℕ)
    → OnDone (joined s t (frame locals rest ∷ []) o) (KeptIn p)
kept_joined p s t locals rest kept goes None = tt
kept_joined p s t locals rest kept goes (Some u) = by (slice_get s.threads u)
  where
    by : (o : Option Status) → OnDone (joined_to s t (frame locals rest ∷ []) u o) (KeptIn p)
    by None = tt
    by (Some NotBegun) = tt
    by (Some (Running fs)) = tt
    by (Some (Waiting condition mutex fs)) = tt
    by (Some (Reacquiring mutex takes fs)) = tt
    by (Some Ended) = move p s.owners s.owners s.threads t _ kept goes (λ r u e other. e)

pub kept_ended : (p : Program) (s : State) (t : ℕ) (result : Option ℤ) → KeptIn p s → OnDone (frame_ended p s t [] result) (KeptIn p)
kept_ended p s t result kept = move p s.owners s.owners s.threads t Ended kept tt (λ r u e other. e)

pub kept_returned : (p : Program) (s : State) (t : ℕ) → KeptIn p s → (z : Option (Option ℤ)) → OnDone (returned p s t [] z) (KeptIn p)
kept_returned p s t kept None = tt
kept_returned p s t kept (Some result) = kept_ended p s t result kept
