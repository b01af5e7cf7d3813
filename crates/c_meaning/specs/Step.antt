-- What an event does in a state. Locks, waits, signals, creates and joins are those of POSIX threads; expressions are those of C.
use Rattle.std.specs.Prelude.{ℕ, if◌then◌else◌, List, [], ◌∷◌, Some, None, slice_get}
use Rattle.std.specs.declared.option.Option.{Option}
use Rattle.c_tree.specs.Values.{constant}
use Rattle.c_tree.specs.Bare as bare
use Rattle.c_tree.specs.Bare.{Stmt, Stmts, Nil, Cons, Program, before}
use Rattle.c_tree.specs.Numbering.{function_named, thread_in}
use Rattle.c_meaning.specs.declared.EventKind.{EventKind}
use Rattle.c_meaning.specs.declared.EventKind.TheVariants.{Go, Choose, Wake}
use Rattle.c_meaning.specs.declared.Event.{Event}
use Rattle.c_meaning.specs.State.{Locals, Frame, Status, NotBegun, Running, Waiting, Reacquiring, Ended, State, frame}
use Rattle.c_meaning.specs.Outcome.{Outcome, NotEnabled, Undefined}
use Rattle.c_meaning.specs.Places.{evaluated, evaluated_if_any, evaluated_all, mutex_at, condition_at, target_at}
use Rattle.c_meaning.specs.Setting.{declared_local, assigned, read_into}
use Rattle.c_meaning.specs.Printing.{printed}
use Rattle.c_meaning.specs.Branching.{branched, looped, loop_of, for_begun}
use Rattle.c_meaning.specs.Calls.{called, frame_ended, returned}
use Rattle.c_meaning.specs.Threads.{first_frame, created, joined}
use Rattle.c_meaning.specs.Locks.{initialised, locked, tried, unlocked, taken, given}
use Rattle.c_meaning.specs.Waits.{waited, signalled, signalled_to, broadcast, woken, retaken}

-- A running thread does its first statement. It is in the newest of its frames, whose locals are given, and has the statements `rest` to do behind that one; `more`
-- are its other frames.
abbrev pub acted : Program → State → ℕ → Locals → Stmts → List Frame → Stmt → Outcome
acted p s t locals rest more (bare.Declare name e) = declared_local s t locals rest more name (evaluated_if_any p s locals e)
acted p s t locals rest more (bare.Assign target e) = assigned s t locals rest more (target_at p s locals target) (evaluated p s locals e)
acted p s t locals rest more (bare.Call target function args) =
    called s t (frame locals (Cons (bare.Call target function args) rest) ∷ more) (function_named p function) (evaluated_all p s locals args)
acted p s t locals rest more (bare.If test then_arm else_arm) = branched s t locals rest more then_arm else_arm (evaluated p s locals test)
acted p s t locals rest more (bare.While test body) = looped s t locals rest more test body (evaluated p s locals test)
acted p s t locals rest more (bare.For first_part test step body) = for_begun p s t locals (Cons (loop_of test step body) rest) more first_part
acted p s t locals rest more (bare.Return e) = returned p s t more (evaluated_if_any p s locals e)
acted p s t locals rest more (bare.Read target) = read_into s t locals rest more (target_at p s locals target) s.input
acted p s t locals rest more (bare.Print format args) = printed s t (frame locals rest ∷ more) format (evaluated_all p s locals args)
acted p s t locals rest more (bare.Create slot function arg) =
    created s t (frame locals rest ∷ more) (thread_in p slot) (first_frame (function_named p function) (constant arg))
acted p s t locals rest more (bare.Join slot) = joined s t (frame locals rest ∷ more) (thread_in p slot)
acted p s t locals rest more (bare.InitMutex place) = initialised s t (frame locals rest ∷ more) (mutex_at p s locals place)
acted p s t locals rest more (bare.InitCond place) = initialised s t (frame locals rest ∷ more) (condition_at p s locals place)
acted p s t locals rest more (bare.Lock place) = locked s t (frame locals rest ∷ more) (mutex_at p s locals place)
acted p s t locals rest more (bare.TryLock place taken_arm busy_arm) =
    tried s t (frame locals (before taken_arm rest) ∷ more) (frame locals (before busy_arm rest) ∷ more) (mutex_at p s locals place)
acted p s t locals rest more (bare.Unlock place) = unlocked s t (frame locals rest ∷ more) (mutex_at p s locals place)
acted p s t locals rest more (bare.Wait cond mutex takes) =
    waited s t (frame locals (Cons (bare.Wait cond mutex takes) rest) ∷ more) (condition_at p s locals cond) (mutex_at p s locals mutex)
acted p s t locals rest more (bare.Signal cond) = signalled s t (frame locals rest ∷ more) (condition_at p s locals cond)
acted p s t locals rest more (bare.Broadcast cond) = broadcast s t (frame locals rest ∷ more) (condition_at p s locals cond)
acted p s t locals rest more (bare.Take monitor) = taken s t (Running (frame locals rest ∷ more)) monitor (slice_get p.monitors monitor) (slice_get s.tokens monitor)
acted p s t locals rest more (bare.Give monitor) = given s t (frame locals rest ∷ more) monitor (slice_get s.tokens monitor)

-- where nothing is left to do, the frame ends without a result
abbrev pub acted_on : Program → State → ℕ → Locals → List Frame → Stmts → Outcome
acted_on p s t locals more Nil = frame_ended p s t more None
acted_on p s t locals more (Cons act rest) = acted p s t locals rest more act

-- a running thread acts in the newest of its frames; it always has one
abbrev pub went : Program → State → ℕ → List Frame → Outcome
went p s t [] = Undefined
went p s t (f ∷ more) = acted_on p s t f.locals more f.todo

-- a thread whose first statement is a signal wakes u by it
abbrev pub chose_on : Program → State → ℕ → Locals → List Frame → ℕ → Stmts → Outcome
chose_on p s t locals more u (Cons (bare.Signal cond) rest) = signalled_to s t (frame locals rest ∷ more) u (condition_at p s locals cond)
chose_on p s t locals more u todo = NotEnabled

abbrev pub chose : Program → State → ℕ → ℕ → List Frame → Outcome
chose p s t u [] = NotEnabled
chose p s t u (f ∷ more) = chose_on p s t f.locals more u f.todo

-- a woken thread takes the first of the tokens that it still takes, or else its mutex
abbrev pub acquired_again : Program → State → ℕ → ℕ → List Frame → List ℕ → Outcome
acquired_again p s t mutex frames [] = retaken s t mutex frames (slice_get s.owners mutex)
acquired_again p s t mutex frames (monitor ∷ takes) =
    taken s t (Reacquiring mutex takes frames) monitor (slice_get p.monitors monitor) (slice_get s.tokens monitor)

-- Go: a running thread does its first statement, and a woken one acquires again what it needs to go on
abbrev pub gone : Program → State → ℕ → Option Status → Outcome
gone p s t (Some (Running frames)) = went p s t frames
gone p s t (Some (Reacquiring mutex takes frames)) = acquired_again p s t mutex frames takes
gone p s t (Some NotBegun) = NotEnabled
gone p s t (Some (Waiting condition mutex frames)) = NotEnabled
gone p s t (Some Ended) = NotEnabled
gone p s t None = NotEnabled

-- Choose: a running thread signals
abbrev pub chosen : Program → State → ℕ → ℕ → Option Status → Outcome
chosen p s t u (Some (Running frames)) = chose p s t u frames
chosen p s t u (Some NotBegun) = NotEnabled
chosen p s t u (Some (Waiting condition mutex frames)) = NotEnabled
chosen p s t u (Some (Reacquiring mutex takes frames)) = NotEnabled
chosen p s t u (Some Ended) = NotEnabled
chosen p s t u None = NotEnabled

-- Wake: a waiting thread wakes
abbrev pub awoken : State → ℕ → Option Status → Outcome
awoken s t (Some (Waiting condition mutex frames)) = woken s t mutex frames
awoken s t (Some NotBegun) = NotEnabled
awoken s t (Some (Running frames)) = NotEnabled
awoken s t (Some (Reacquiring mutex takes frames)) = NotEnabled
awoken s t (Some Ended) = NotEnabled
awoken s t None = NotEnabled

-- A thread that isn't one of the program's has no status.
abbrev pub happened : Program → State → ℕ → EventKind → Option Status → Outcome
happened p s t Go status = gone p s t status
happened p s t (Choose u) status = chosen p s t u status
happened p s t Wake status = awoken s t status

-- what an event does: nothing is enabled after main has ended
abbrev pub step : Program → State → Event → Outcome
step p s e = if s.main_ended then NotEnabled else happened p s e.thread e.kind (slice_get s.threads e.thread)
