-- Why a thread's next act is undefined.
use Rattle.std.specs.Prelude.{◌≡◌, ◌⊎◌, ℕ, false, List, ◌∷◌, Some, None, ⊤, slice_get}
use Rattle.c_tree.specs.Expressions.{Exprs, Place}
use Rattle.c_tree.specs.Bare as bare
use Rattle.c_tree.specs.Bare.{Stmt, Stmts, Nil, Cons, Program}
use Rattle.c_tree.specs.Numbering.{monitor_resource}
use Rattle.c_meaning.specs.State.{Locals, Frame, Running, State, frame}
use Rattle.c_meaning.specs.Places.{mutex_at}
use Rattle.c_meaning.specs.Stuck.{is_owner}
use Rattle.step_effects.specs.Effects.{Is}
use Rattle.reached_states.specs.Counts.{tokens_held}
use Rattle.undefined_steps.specs.Faults.{Fault, FaultIfAny, FaultAmong, BeyondArray, BeyondObjects}

-- ---- a statement's own expressions and places, without those of the statements inside it

-- an expression of a `for`'s first part has no value
abbrev pub FaultAtFirst : Program → State → Locals → Stmts → Type 0
FaultAtFirst p s l (Cons (bare.Declare name e) Nil) = FaultIfAny p s l e
FaultAtFirst p s l (Cons (bare.Assign target e) Nil) = FaultIfAny p s l target.index ⊎ Fault p s l e
FaultAtFirst p s l first_part = ⊥

-- an expression that a statement evaluates has no value; the place of a call's result is evaluated when the call ends
abbrev pub HasFault : Program → State → Locals → Stmt → Type 0
HasFault p s l (bare.Declare name e) = FaultIfAny p s l e
HasFault p s l (bare.Assign target e) = FaultIfAny p s l target.index ⊎ Fault p s l e
HasFault p s l (bare.Call target function args) = FaultAmong p s l args
HasFault p s l (bare.If test then_arm else_arm) = Fault p s l test
HasFault p s l (bare.While test body) = Fault p s l test
HasFault p s l (bare.For first_part test step body) = FaultAtFirst p s l first_part
HasFault p s l (bare.Return e) = FaultIfAny p s l e
HasFault p s l (bare.Read target) = FaultIfAny p s l target.index
HasFault p s l (bare.Print format args) = FaultAmong p s l args
HasFault p s l (bare.InitMutex place) = FaultIfAny p s l place.index
HasFault p s l (bare.InitCond place) = FaultIfAny p s l place.index
HasFault p s l (bare.Lock place) = FaultIfAny p s l place.index
HasFault p s l (bare.TryLock place taken busy) = FaultIfAny p s l place.index
HasFault p s l (bare.Unlock place) = FaultIfAny p s l place.index
HasFault p s l (bare.Wait cond mutex takes) = FaultIfAny p s l cond.index ⊎ FaultIfAny p s l mutex.index
HasFault p s l (bare.Signal cond) = FaultIfAny p s l cond.index
HasFault p s l (bare.Broadcast cond) = FaultIfAny p s l cond.index
HasFault p s l (bare.Create slot function arg) = ⊥
HasFault p s l (bare.Join slot) = ⊥
HasFault p s l (bare.Take monitor) = ⊥
HasFault p s l (bare.Give monitor) = ⊥

abbrev pub BeyondAtFirst : Program → State → Locals → Stmts → Type 0
BeyondAtFirst p s l (Cons (bare.Assign target e) Nil) = BeyondArray p s l target.name target.index
BeyondAtFirst p s l first_part = ⊥

-- the index of a place that a statement sets or acts on is out of range
abbrev pub IsBeyond : Program → State → Locals → Stmt → Type 0
IsBeyond p s l (bare.Assign target e) = BeyondArray p s l target.name target.index
IsBeyond p s l (bare.For first_part test step body) = BeyondAtFirst p s l first_part
IsBeyond p s l (bare.Read target) = BeyondArray p s l target.name target.index
IsBeyond p s l (bare.InitMutex place) = BeyondObjects p.mutexes p s l place.name place.index
IsBeyond p s l (bare.InitCond place) = BeyondObjects p.conds p s l place.name place.index
IsBeyond p s l (bare.Lock place) = BeyondObjects p.mutexes p s l place.name place.index
IsBeyond p s l (bare.TryLock place taken busy) = BeyondObjects p.mutexes p s l place.name place.index
IsBeyond p s l (bare.Unlock place) = BeyondObjects p.mutexes p s l place.name place.index
IsBeyond p s l (bare.Wait cond mutex takes) = BeyondObjects p.conds p s l cond.name cond.index ⊎ BeyondObjects p.mutexes p s l mutex.name mutex.index
IsBeyond p s l (bare.Signal cond) = BeyondObjects p.conds p s l cond.name cond.index
IsBeyond p s l (bare.Broadcast cond) = BeyondObjects p.conds p s l cond.name cond.index
IsBeyond p s l act = ⊥

-- ---- calls that end

-- a function ends: nothing is left to do, or a return
abbrev pub IsOver : Stmts → Type 0
IsOver Nil = ⊤
IsOver (Cons (bare.Return e) rest) = ⊤
IsOver todo = ⊥

-- without a value
abbrev pub GivesNothing : Stmts → Type 0
GivesNothing Nil = ⊤
GivesNothing (Cons (bare.Return None) rest) = ⊤
GivesNothing todo = ⊥

-- a thread's newest frame ends, and its result goes to a place in the frame below, which has these locals
pub record ReturnsTo (s : State) (t : ℕ) (newest : Frame) (l : Locals) (target : Place) : Type 0 where
  pub function : List ℕ
  pub args : Exprs
  pub rest : Stmts
  pub more : List Frame
  pub runs : Is s t (Running (newest ∷ frame l (Cons (bare.Call (Some target) function args) rest) ∷ more))
  pub over : IsOver newest.todo

-- ---- causes

pub data Cause (p : Program) (s : State) (t : ℕ) : Type 0 where
  -- an expression of its statement has no value
  expression : (l : Locals) (act : Stmt) (rest : Stmts) (more : List Frame) → Is s t (Running (frame l (Cons act rest) ∷ more)) → HasFault p s l act → Cause p s t
  -- an index of its statement is out of range
  index : (l : Locals) (act : Stmt) (rest : Stmts) (more : List Frame) → Is s t (Running (frame l (Cons act rest) ∷ more)) → IsBeyond p s l act → Cause p s t
  -- the place that a call's result goes to has an index without a value, or one out of range
  target_expression : (newest : Frame) (l : Locals) (target : Place) → ReturnsTo s t newest l target → FaultIfAny p s l target.index → Cause p s t
  target_index : (newest : Frame) (l : Locals) (target : Place) → ReturnsTo s t newest l target → BeyondArray p s l target.name target.index → Cause p s t
  -- a call's result is wanted, and its function gives none
  no_result : (newest : Frame) (l : Locals) (target : Place) → ReturnsTo s t newest l target → GivesNothing newest.todo → Cause p s t
  -- it unlocks a mutex that it doesn't own
  unlock : (l : Locals) (place : Place) (rest : Stmts) (more : List Frame) (m : ℕ) → Is s t (Running (frame l (Cons (bare.Unlock place) rest) ∷ more))
      → mutex_at p s l place ≡ Some m → is_owner t (slice_get s.owners m) ≡ false → Cause p s t
  -- it waits with a mutex that it doesn't own
  wait : (l : Locals) (cond place : Place) (takes : List ℕ) (rest : Stmts) (more : List Frame) (m : ℕ) → Is s t (Running (frame l (Cons (bare.Wait cond place takes) rest) ∷ more))
      → mutex_at p s l place ≡ Some m → is_owner t (slice_get s.owners m) ≡ false → Cause p s t
  -- it gives a token of a monitor of which it holds none
  give : (l : Locals) (monitor : ℕ) (rest : Stmts) (more : List Frame) → Is s t (Running (frame l (Cons (bare.Give monitor) rest) ∷ more))
      → tokens_held p s t (monitor_resource p monitor) ≡ 0 → Cause p s t
