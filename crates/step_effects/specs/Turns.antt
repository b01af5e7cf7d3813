-- What a step makes of the frames of a thread, and of what the thread does.
use Rattle.std.specs.Prelude.{◌≡◌, ℕ, ℤ, ◌<◌, Bool, true, false, IsTrue, List, [], ◌∷◌, Some, None, ⊤, slice_get}
use Rattle.std.specs.declared.option.Option.{Option}
use Rattle.c_tree.specs.Expressions.{Expr, Exprs, Place}
use Rattle.c_tree.specs.Bare as bare
use Rattle.c_tree.specs.Bare.{Stmt, Stmts, Cons, Function, Program, before}
use Rattle.c_tree.specs.Numbering.{function_named, mutex_count}
use Rattle.c_meaning.specs.State.{Locals, Frame, Status, NotBegun, Running, Waiting, Reacquiring, Ended, State, frame}
use Rattle.c_meaning.specs.Branching.{loop_of}
use Rattle.c_meaning.specs.Calls.{passed}
use Rattle.c_meaning.specs.Waits.{acquires_again}

-- a statement that is done at once and then dropped, and that begins no thread
abbrev pub is_simple : Stmt → Bool
is_simple (bare.Declare name e) = true
is_simple (bare.Assign target e) = true
is_simple (bare.Read target) = true
is_simple (bare.Print format args) = true
is_simple (bare.Join slot) = true
is_simple (bare.InitMutex place) = true
is_simple (bare.InitCond place) = true
is_simple (bare.Lock place) = true
is_simple (bare.Unlock place) = true
is_simple (bare.Signal cond) = true
is_simple (bare.Broadcast cond) = true
is_simple (bare.Take monitor) = true
is_simple (bare.Give monitor) = true
is_simple s = false

-- what is still to do behind a statement that is done, before which others stood: the others alone, or behind what it picks
pub data Onward : Stmt → Stmts → Stmts → Type 0 where
  past : (s : Stmt) (rest : Stmts) → IsTrue (is_simple s) → Onward s rest rest
  then_arm : (test : Expr) (a b rest : Stmts) → Onward (bare.If test a b) rest (before a rest)
  else_arm : (test : Expr) (a b rest : Stmts) → Onward (bare.If test a b) rest (before b rest)
  around : (test : Expr) (body rest : Stmts) → Onward (bare.While test body) rest (before body (Cons (bare.While test body) rest))
  out : (test : Expr) (body rest : Stmts) → Onward (bare.While test body) rest rest
  loop : (first_part : Stmts) (test : Expr) (step body rest : Stmts) → Onward (bare.For first_part test step body) rest (Cons (loop_of test step body) rest)
  taken_arm : (place : Place) (a b rest : Stmts) → Onward (bare.TryLock place a b) rest (before a rest)
  busy_arm : (place : Place) (a b rest : Stmts) → Onward (bare.TryLock place a b) rest (before b rest)

-- what an act of a running thread makes of its frames
pub data Goes (p : Program) : List Frame → List Frame → Type 0 where
  -- the newest one goes on
  onward : (l m : Locals) (s : Stmt) (rest next : Stmts) (more : List Frame) → Onward s rest next → Goes p (frame l (Cons s rest) ∷ more) (frame m next ∷ more)
  -- a call begins
  enters : (l : Locals) (target : Option Place) (name : List ℕ) (args : Exprs) (rest : Stmts) (more : List Frame) (f : Function) (values : List ℤ)
      → function_named p name ≡ Some f
      → Goes p (frame l (Cons (bare.Call target name args) rest) ∷ more) (frame (passed f.params values) f.body ∷ frame l (Cons (bare.Call target name args) rest) ∷ more)
  -- a call ends, and is dropped
  leaves : (newest : Frame) (l m : Locals) (target : Option Place) (name : List ℕ) (args : Exprs) (rest : Stmts) (more : List Frame)
      → Goes p (newest ∷ frame l (Cons (bare.Call target name args) rest) ∷ more) (frame m rest ∷ more)

-- what a step makes of what a thread does, that begins no thread by it and isn't begun
pub data TurnsAlone (p : Program) : Status → Status → Type 0 where
  stays : (x : Status) → TurnsAlone p x x
  goes : (frames next : List Frame) → Goes p frames next → TurnsAlone p (Running frames) (Running next)
  ends : (newest : Frame) → TurnsAlone p (Running (newest ∷ [])) Ended
  waits : (l : Locals) (cond place : Place) (takes : List ℕ) (rest : Stmts) (more : List Frame) (c m : ℕ) → m < mutex_count p
      → TurnsAlone p (Running (frame l (Cons (bare.Wait cond place takes) rest) ∷ more)) (Waiting c m (frame l (Cons (bare.Wait cond place takes) rest) ∷ more))
  wakes : (c m : ℕ) (frames : List Frame) → TurnsAlone p (Waiting c m frames) (acquires_again m frames)
  takes_again : (m k : ℕ) (takes : List ℕ) (frames : List Frame) → TurnsAlone p (Reacquiring m (k ∷ takes) frames) (Reacquiring m takes frames)
  retakes : (m : ℕ) (l : Locals) (cond place : Place) (takes : List ℕ) (rest : Stmts) (more : List Frame)
      → TurnsAlone p (Reacquiring m [] (frame l (Cons (bare.Wait cond place takes) rest) ∷ more)) (Running (frame l rest ∷ more))

-- what a step makes of what a thread does
pub data Turns (p : Program) : Status → Status → Type 0 where
  alone : (x y : Status) → TurnsAlone p x y → Turns p x y
  -- it begins another thread
  creates : (l : Locals) (slot : Place) (name : List ℕ) (arg : Expr) (rest : Stmts) (more : List Frame)
      → Turns p (Running (frame l (Cons (bare.Create slot name arg) rest) ∷ more)) (Running (frame l rest ∷ more))
  -- it is begun by another thread
  begins : (name : List ℕ) (f : Function) (values : List ℤ) → function_named p name ≡ Some f → Turns p NotBegun (Running (frame (passed f.params values) f.body ∷ []))

-- the same of a number that may be no thread's
abbrev pub IfAny : (Status → Status → Type 0) → Option Status → Option Status → Type 0
IfAny R None None = ⊤
IfAny R (Some x) (Some y) = R x y
IfAny R None (Some y) = ⊥
IfAny R (Some x) None = ⊥

-- what each thread does turns so from one state to the next
abbrev pub EachTurns : (Status → Status → Type 0) → State → State → Type 0
EachTurns R s next = (u : ℕ) → IfAny R (slice_get s.threads u) (slice_get next.threads u)
