-- What a thread's next act acquires, and who holds it.
use Rattle.std.proofs.Common.{◌≡◌, ℕ, ◌<◌, Bool, true, false, cond, List, [], ◌∷◌, map, Option, Some, None, IfSome, MatchOption, refl, sym, ap, ◌∙◌, subst, arith}
use Rattle.std.specs.Prelude.{ℤ, slice_get, reverse}
use Rattle.std.specs.Option.{option_and_then}
use Rattle.std.proofs.lemmas.Option.{same_Some}
use Rattle.c_tree.specs.Expressions.{Place}
use Rattle.c_tree.specs.Bare as bare
use Rattle.c_tree.specs.Bare.{Stmt, Stmts, Nil, Cons}
use Rattle.c_tree.specs.Numbering.{mutex_of, mutex_count}
use Rattle.c_tree.specs.declared.program.Program.{Program}
use Rattle.c_frames.specs.Positions.{first_of}
use Rattle.c_frames.specs.declared.frames.Frame.{Frame}
use Rattle.c_meaning.specs.State as run
use Rattle.c_meaning.specs.Places.{mutex_at, evaluated_if_any}
use Rattle.c_meaning.specs.Stuck.{acquired}
use Rattle.c_places.specs.Tables.{of_object}
use Rattle.c_places.proofs.Tables.{number_within}
use Rattle.c_places.proofs.Numbering.{objects_numbered, objects_take}
use Rattle.state_parts.specs.declared.tables.Tables.{Tables}
use Rattle.state_parts.specs.Threads.{frame_in}
use Rattle.state_parts.specs.Small.{IsSmall, IsSmallPlace}
use denote.Ref.{Bor}
use Rattle.c_tree.specs.declared.stmt.Stmt as declared
use Rattle.c_meaning.specs.Shown.{shown_stmt}
use Rattle.state_parts.specs.declared.first.First.{First}
use Rattle.state_parts.specs.declared.first.First.TheVariants.{Nothing, End, At}
use Rattle.state_parts.specs.declared.threads.Thread.{Thread}
use Rattle.state_parts.specs.declared.threads.Doing.TheVariants.{Running}
use Rattle.c_steps.specs.declared.state.State.{State}
use Rattle.state_parts.specs.First.{Stands, IsFirst}
use Rattle.c_steps.specs.Standing as standing
use Rattle.state_parts.specs.Statements.{lock_of, take_of}
use Rattle.c_steps.specs.Acquiring.{acquires}

-- a choice that gave a value, or none
pub chose_some : (b : Bool) (k n : ℕ) → cond b None (Some k) ≡ Some n → (b ≡ false) × (k ≡ n)
chose_some true k n e = absurd cc
chose_some false k n e = (refl, same_Some k n e)

pub chose_none : (b : Bool) (k : ℕ) → cond b None (Some k) ≡ None → b ≡ true
chose_none true k e = refl
chose_none false k e = absurd cc

-- a mutex is one of the program's
pub mutex_below : (p : bare.Program) (s : run.State) (locals : run.Locals) (place : Place) (k : ℕ) → mutex_at p s locals place ≡ Some k → k < mutex_count p
mutex_below p s locals place k e = go (evaluated_if_any p s locals place.index) e
  where
    go : (index : Option (Option ℤ)) → option_and_then (mutex_of p place.name) index ≡ Some k → k < mutex_count p
    go None f = absurd cc
    go (Some index) f =
        let w = number_within 0 (map of_object p.mutexes) place.name index k (objects_numbered 0 p.mutexes place.name index ∙ f) in
        let t = objects_take p.mutexes in
        omega (arith, w, t)

-- the loop of a `for` acquires nothing, as the `for` doesn't
first_locks : (begun : Bool) (s : Stmt) → lock_of (first_of begun s) ≡ lock_of s
first_locks false s = refl
first_locks true (bare.Declare name e) = refl
first_locks true (bare.Assign target e) = refl
first_locks true (bare.Call target function args) = refl
first_locks true (bare.If test a b) = refl
first_locks true (bare.While test body) = refl
first_locks true (bare.For first_part test step body) = refl
first_locks true (bare.Return e) = refl
first_locks true (bare.Read target) = refl
first_locks true (bare.Print format args) = refl
first_locks true (bare.Create slot function arg) = refl
first_locks true (bare.Join slot) = refl
first_locks true (bare.InitMutex place) = refl
first_locks true (bare.InitCond place) = refl
first_locks true (bare.Lock place) = refl
first_locks true (bare.TryLock place taken busy) = refl
first_locks true (bare.Unlock place) = refl
first_locks true (bare.Wait cond mutex takes) = refl
first_locks true (bare.Signal cond) = refl
first_locks true (bare.Broadcast cond) = refl
first_locks true (bare.Take monitor) = refl
first_locks true (bare.Give monitor) = refl

first_takes : (begun : Bool) (s : Stmt) → take_of (first_of begun s) ≡ take_of s
first_takes false s = refl
first_takes true (bare.Declare name e) = refl
first_takes true (bare.Assign target e) = refl
first_takes true (bare.Call target function args) = refl
first_takes true (bare.If test a b) = refl
first_takes true (bare.While test body) = refl
first_takes true (bare.For first_part test step body) = refl
first_takes true (bare.Return e) = refl
first_takes true (bare.Read target) = refl
first_takes true (bare.Print format args) = refl
first_takes true (bare.Create slot function arg) = refl
first_takes true (bare.Join slot) = refl
first_takes true (bare.InitMutex place) = refl
first_takes true (bare.InitCond place) = refl
first_takes true (bare.Lock place) = refl
first_takes true (bare.TryLock place taken busy) = refl
first_takes true (bare.Unlock place) = refl
first_takes true (bare.Wait cond mutex takes) = refl
first_takes true (bare.Signal cond) = refl
first_takes true (bare.Broadcast cond) = refl
first_takes true (bare.Take monitor) = refl
first_takes true (bare.Give monitor) = refl

acquired_act : (p : bare.Program) (s : run.State) (locals : run.Locals) (rest : Stmts) (act : Stmt) → acquired p s locals (Cons act rest) ≡ acquires p s locals (lock_of act) (take_of act)
acquired_act p s locals rest (bare.Declare name e) = refl
acquired_act p s locals rest (bare.Assign target e) = refl
acquired_act p s locals rest (bare.Call target function args) = refl
acquired_act p s locals rest (bare.If test a b) = refl
acquired_act p s locals rest (bare.While test body) = refl
acquired_act p s locals rest (bare.For first_part test step body) = refl
acquired_act p s locals rest (bare.Return e) = refl
acquired_act p s locals rest (bare.Read target) = refl
acquired_act p s locals rest (bare.Print format args) = refl
acquired_act p s locals rest (bare.Create slot function arg) = refl
acquired_act p s locals rest (bare.Join slot) = refl
acquired_act p s locals rest (bare.InitMutex place) = refl
acquired_act p s locals rest (bare.InitCond place) = refl
acquired_act p s locals rest (bare.Lock place) = refl
acquired_act p s locals rest (bare.TryLock place taken busy) = refl
acquired_act p s locals rest (bare.Unlock place) = refl
acquired_act p s locals rest (bare.Wait cond mutex takes) = refl
acquired_act p s locals rest (bare.Signal cond) = refl
acquired_act p s locals rest (bare.Broadcast cond) = refl
acquired_act p s locals rest (bare.Take monitor) = refl
acquired_act p s locals rest (bare.Give monitor) = refl

pub acquired_first : (p : bare.Program) (s : run.State) (locals : run.Locals) (rest : Stmts) (begun : Bool) (act : Stmt)
    → acquired p s locals (Cons (first_of begun act) rest) ≡ acquires p s locals (lock_of act) (take_of act)
acquired_first p s locals rest begun act =
    acquired_act p s locals rest (first_of begun act) ∙ ap (λ place. acquires p s locals place (take_of (first_of begun act))) (first_locks begun act) ∙ ap (acquires p s locals (lock_of act)) (first_takes begun act)

-- the place that a small statement locks is small
pub small_lock : (s : Stmt) → IsSmall s → IfSome (lock_of s) IsSmallPlace
small_lock (bare.Declare name e) h = tt
small_lock (bare.Assign target e) h = tt
small_lock (bare.Call target function args) h = tt
small_lock (bare.If test a b) h = tt
small_lock (bare.While test body) h = tt
small_lock (bare.For first_part test step body) h = tt
small_lock (bare.Return e) h = tt
small_lock (bare.Read target) h = tt
small_lock (bare.Print format args) h = tt
small_lock (bare.Create slot function arg) h = tt
small_lock (bare.Join slot) h = tt
small_lock (bare.InitMutex place) h = tt
small_lock (bare.InitCond place) h = tt
small_lock (bare.Lock place) h = h
small_lock (bare.TryLock place taken busy) h = tt
small_lock (bare.Unlock place) h = tt
small_lock (bare.Wait cond mutex takes) h = tt
small_lock (bare.Signal cond) h = tt
small_lock (bare.Broadcast cond) h = tt
small_lock (bare.Take monitor) h = tt
small_lock (bare.Give monitor) h = tt

-- what comes first in the newest frame
abbrev pub ComesFirst : Program → Tables → List Frame → First → Type 0
ComesFirst p tables xs first = MatchOption (slice_get xs 0) (first ≡ Nothing) (λ x. IsFirst p tables x first)

pub first_at : (p : Program) (tables : Tables) (xs : List Frame) (first : First) (s : Bor declared.Stmt) (begun : Bool) → ComesFirst p tables xs first → first ≡ At s begun
    → (x : Frame) × (more : List Frame) × (xs ≡ x ∷ more) × Stands p tables x (shown_stmt s.now) begun
first_at p tables [] first s begun h e = let both : Nothing ≡ At s begun = sym h ∙ e in absurd cc
first_at p tables (x ∷ more) first s begun h e = (x, more, refl, subst (IsFirst p tables x) e h)

pub first_nothing : (p : Program) (tables : Tables) (xs : List Frame) (first : First) → ComesFirst p tables xs first → first ≡ Nothing → xs ≡ []
first_nothing p tables [] first h e = refl
first_nothing p tables (x ∷ more) first h e = absurd (subst (IsFirst p tables x) e h)

pub first_end : (p : Program) (tables : Tables) (xs : List Frame) (first : First) → ComesFirst p tables xs first → first ≡ End
    → (x : Frame) × (more : List Frame) × (xs ≡ x ∷ more) × ((frame_in p tables x).todo ≡ Nil)
first_end p tables [] first h e = let both : Nothing ≡ End = sym h ∙ e in absurd cc
first_end p tables (x ∷ more) first h e = (x, more, refl, subst (IsFirst p tables x) e h)

-- a running thread stands at what comes first in its newest frame
abbrev pub stands_at : (p : Program) (s : State) (t : ℕ) (thread : Thread) (x : Frame) (more : List Frame) (act : Stmt) (begun : Bool) → slice_get s.threads.items t ≡ Some thread → thread.doing ≡ Running
    → reverse thread.frames.items ≡ x ∷ more → (st : Stands p s.tables x act begun) → standing.At p s t (first_of begun act)
stands_at p s t thread x more act begun there runs newest st = record {
  thread = thread;
  there = there;
  runs = runs;
  locals = (frame_in p s.tables x).locals;
  rest = st.rest;
  more = map (frame_in p s.tables) more;
  stands = ap (map (frame_in p s.tables)) newest ∙ ap (λ todo. run.frame (frame_in p s.tables x).locals todo ∷ map (frame_in p s.tables) more) st.first;
}
