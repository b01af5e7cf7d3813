-- What a step does, as one of few effects: to the thread that acts, to others, to owners and to tokens.
use Rattle.std.specs.Prelude.{◌≡◌, ℕ, suc, ℤ, ◌<◌, ◌==◌, ◌||◌, List, [], ◌∷◌, length, sum, Some, None, slice_get, slice_set}
use Rattle.c_tree.specs.Expressions.{Expr, Place}
use Rattle.c_tree.specs.Values.{constant}
use Rattle.c_tree.specs.Bare as bare
use Rattle.c_tree.specs.Bare.{Stmts, Cons, Function, Program}
use Rattle.c_tree.specs.Numbering.{function_named, thread_in}
use Rattle.c_meaning.specs.declared.Did.{Did}
use Rattle.c_meaning.specs.declared.Event.{Event}
use Rattle.c_meaning.specs.State.{Locals, Frame, Status, NotBegun, Running, Waiting, Reacquiring, Ended, State, frame, with_status, goes_on}
use Rattle.c_meaning.specs.Outcome.{Outcome, NotEnabled, Undefined, Done}
use Rattle.c_meaning.specs.Places.{mutex_at, condition_at}
use Rattle.c_meaning.specs.Calls.{passed}
use Rattle.c_meaning.specs.Locks.{held_by, holding}
use Rattle.c_meaning.specs.Waits.{acquires_again, all_awakened}
use Rattle.c_meaning.specs.Step.{step}
use Rattle.step_effects.specs.Turns.{Goes, Turns, EachTurns}

-- a thread does this
abbrev pub Is : State → ℕ → Status → Type 0
Is s t status = slice_get s.threads t ≡ Some status

-- a monitor has a free token, and its tokens are held as in this row
pub record HasFree (p : Program) (s : State) (monitor : ℕ) (row : List ℕ) : Type 0 where
  pub capacity : ℕ
  pub has : slice_get p.monitors monitor ≡ Some capacity
  pub row_is : slice_get s.tokens monitor ≡ Some row
  pub free : sum row < capacity

pub data Effect (p : Program) (s : State) (t : ℕ) : State → Type 0 where
  -- the thread goes on; at most cells change their values, and input and output
  goes : (frames next : List Frame) (cells input : List ℤ) (output : List ℕ) → Is s t (Running frames) → Goes p frames next → length cells ≡ length s.cells
      → Effect p s t (record (goes_on s t next) { cells = cells; input = input; output = output })
  locks : (frames next : List Frame) (m : ℕ) → Is s t (Running frames) → Goes p frames next → slice_get s.owners m ≡ Some None
      → Effect p s t (record (goes_on s t next) { owners = slice_set s.owners m (Some t) })
  unlocks : (frames next : List Frame) (m : ℕ) → Is s t (Running frames) → Goes p frames next → slice_get s.owners m ≡ Some (Some t)
      → Effect p s t (record (goes_on s t next) { owners = slice_set s.owners m None })
  takes : (frames next : List Frame) (monitor : ℕ) (row : List ℕ) → Is s t (Running frames) → Goes p frames next → HasFree p s monitor row
      → Effect p s t (holding s t (Running next) monitor row (suc (held_by row t)))
  gives : (frames next : List Frame) (monitor : ℕ) (row : List ℕ) (left : ℕ) → Is s t (Running frames) → Goes p frames next
      → slice_get s.tokens monitor ≡ Some row → held_by row t ≡ suc left → Effect p s t (holding s t (Running next) monitor row left)
  -- it begins the thread u
  begins : (l : Locals) (slot : Place) (name : List ℕ) (arg : Expr) (rest : Stmts) (more : List Frame) (u : ℕ) (f : Function) (z : ℤ)
      → Is s t (Running (frame l (Cons (bare.Create slot name arg) rest) ∷ more)) → Is s u NotBegun
      → thread_in p slot ≡ Some u → function_named p name ≡ Some f → constant arg ≡ Some z
      → Effect p s t (with_status (goes_on s t (frame l rest ∷ more)) u (Running (frame (passed f.params (z ∷ [])) f.body ∷ [])))
  ends : (newest : Frame) → Is s t (Running (newest ∷ [])) → Effect p s t (record (with_status s t Ended) { main_ended = s.main_ended || (t == 0) })
  waits : (l : Locals) (cond place : Place) (taking : List ℕ) (rest : Stmts) (more : List Frame) (c m : ℕ)
      → Is s t (Running (frame l (Cons (bare.Wait cond place taking) rest) ∷ more))
      → condition_at p s l cond ≡ Some c → mutex_at p s l place ≡ Some m → slice_get s.owners m ≡ Some (Some t)
      → Effect p s t (record (with_status s t (Waiting c m (frame l (Cons (bare.Wait cond place taking) rest) ∷ more))) { owners = slice_set s.owners m None })
  -- it wakes the thread u
  wakes_one : (frames next waiting : List Frame) (u c m : ℕ) → Is s t (Running frames) → Goes p frames next → Is s u (Waiting c m waiting)
      → Effect p s t (with_status (goes_on s t next) u (acquires_again m waiting))
  wakes_all : (frames next : List Frame) (c : ℕ) → Is s t (Running frames) → Goes p frames next → Effect p s t (all_awakened c (goes_on s t next))
  -- it is woken itself
  wakes : (c m : ℕ) (frames : List Frame) → Is s t (Waiting c m frames) → Effect p s t (with_status s t (acquires_again m frames))
  takes_again : (m monitor : ℕ) (left : List ℕ) (frames : List Frame) (row : List ℕ) → Is s t (Reacquiring m (monitor ∷ left) frames) → HasFree p s monitor row
      → Effect p s t (holding s t (Reacquiring m left frames) monitor row (suc (held_by row t)))
  retakes : (m : ℕ) (l : Locals) (cond place : Place) (taking : List ℕ) (rest : Stmts) (more : List Frame)
      → Is s t (Reacquiring m [] (frame l (Cons (bare.Wait cond place taking) rest) ∷ more)) → slice_get s.owners m ≡ Some None
      → Effect p s t (record (goes_on s t (frame l rest ∷ more)) { owners = slice_set s.owners m (Some t) })

-- a fact of the state that an outcome leads to, where it leads to one
abbrev pub OnDone : Outcome → (State → Type 0) → Type 0
OnDone NotEnabled P = Unit {0}
OnDone Undefined P = Unit {0}
OnDone (Done done next) P = P next

abbrev pub EachStepHasOneEffect : Type 0
EachStepHasOneEffect = (p : Program) (s : State) (e : Event) (done : Did) (next : State) → step p s e ≡ Done done next → Effect p s e.thread next

abbrev pub EachThreadTurns : Type 0
EachThreadTurns = (p : Program) (s : State) (e : Event) (done : Did) (next : State) → step p s e ≡ Done done next → EachTurns (Turns p) s next
