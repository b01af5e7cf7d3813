-- Where threads stand in their outlines.
use Rattle.std.specs.Prelude.{◌≡◌, ◌⊎◌, ℕ, false, List, [], ◌∷◌, map, Some, None, slice_get, ⊤}
use Rattle.std.specs.declared.option.Option.{Option}
use Rattle.c_tree.specs.Bare as bare
use Rattle.c_tree.specs.Everywhere.{Everywhere}
use Rattle.c_tree.specs.Lined.{Stmts, bare_stmts}
use Rattle.c_tree.specs.Numbering.{monitor_resource}
use Rattle.c_meaning.specs.State.{Locals, Frame, Status, NotBegun, Running, Waiting, Reacquiring, Ended, State}
use Rattle.c_meaning.specs.Waits.{takes_of}
use Rattle.outlines.specs.Outline.{Parts}
use Rattle.outlines.specs.Moves.{Position, Before, At, Asleep, Woken, Over}
use Rattle.contexts.specs.Constants.{Constants}
use Rattle.contexts.specs.Agreeing.{Agrees, IsScoped}
use Rattle.contexts.specs.Outlined.{Code, Outlined, IsTarget}
use Rattle.contexts.specs.Quiet.{IsQuiet}

-- these parts are an outline of what a frame has still to do, in a function that writes into these names, where what is known is so in the frame
pub record HasOutline (code : Code) (writes : List (List ℕ)) (locals : Locals) (todo : bare.Stmts) (xs : Parts) : Type 0 where
  pub known : Constants
  pub end_line : ℕ
  pub left : Stmts
  pub todo_is : bare_stmts left ≡ todo
  pub outlined : Outlined code writes known (Some end_line) left xs
  pub agrees : Agrees known locals
  pub scoped : IsScoped code.program writes known

-- a frame stands at a call, and these parts are an outline of what stands behind the call, but for its result
abbrev pub BehindCall : Code → Locals → bare.Stmts → Parts → Type 0
BehindCall code locals (bare.Cons (bare.Call target name args) rest) xs = (writes : List (List ℕ)) × IsTarget writes target × HasOutline code writes locals rest xs
BehindCall code locals todo xs = ⊥

-- a frame stands at a wait, and these parts are an outline of what stands behind the wait
abbrev pub BehindWait : Code → Locals → bare.Stmts → Parts → Type 0
BehindWait code locals (bare.Cons (bare.Wait cond mutex takes) rest) xs = (writes : List (List ℕ)) × HasOutline code writes locals rest xs
BehindWait code locals todo xs = ⊥

-- so the frames below the newest one, each at its call
abbrev pub Callers : Code → List Frame → List Parts → Type 0
Callers code [] [] = ⊤
Callers code [] (xs ∷ lefts) = ⊥
Callers code (f ∷ fs) [] = ⊥
Callers code (f ∷ fs) (xs ∷ lefts) = BehindCall code f.locals f.todo xs × Callers code fs lefts

-- the newest frame has an outline, and those below it stand at their calls
pub record HaveOutlines (code : Code) (f : Frame) (fs : List Frame) (left : List Parts) : Type 0 where
  pub writes : List (List ℕ)
  pub xs : Parts
  pub lefts : List Parts
  pub left_is : left ≡ xs ∷ lefts
  pub newest : HasOutline code writes f.locals f.todo xs
  pub callers : Callers code fs lefts

-- the statement that comes first is a call of a function that bears no locks
abbrev pub AtQuietCall : Code → bare.Stmts → Type 0
AtQuietCall code (bare.Cons (bare.Call target name args) rest) = code.bears name ≡ false
AtQuietCall code todo = ⊥

abbrev pub OverQuietCall : Code → List Frame → Type 0
OverQuietCall code [] = ⊥
OverQuietCall code (f ∷ fs) = AtQuietCall code f.todo

-- frames of functions that bear no locks, the newest first, are over one that has an outline, and the thread stays where that one calls
abbrev pub Stands : Code → List Frame → List Parts → Type 0
Stands code [] left = ⊥
Stands code (f ∷ fs) left = HaveOutlines code f fs left ⊎ (Everywhere (IsQuiet code) f.todo × OverQuietCall code fs × Stands code fs left)

-- the newest frame stands at its wait
abbrev pub Sleeps : Code → List Frame → List Parts → Type 0
Sleeps code [] left = ⊥
Sleeps code (f ∷ fs) [] = ⊥
Sleeps code (f ∷ fs) (xs ∷ lefts) = BehindWait code f.locals f.todo xs × Callers code fs lefts

-- a thread that does this stands in this position of its outline
abbrev pub StandsAt : Code → Status → Position → Type 0
StandsAt code NotBegun x = x ≡ Before
StandsAt code (Running frames) x = (left : List Parts) × (x ≡ At left) × Stands code frames left
StandsAt code (Waiting condition mutex frames) x =
    (left : List Parts) × (x ≡ Asleep mutex (map (monitor_resource code.program) (takes_of frames)) left) × Sleeps code frames left
StandsAt code (Reacquiring mutex takes frames) x = (left : List Parts) × (x ≡ Woken mutex (map (monitor_resource code.program) takes) left) × Sleeps code frames left
StandsAt code Ended x = x ≡ Over

-- a number that is no thread's stands anywhere
abbrev pub StandsIf : Code → Option Status → Position → Type 0
StandsIf code None x = ⊤
StandsIf code (Some status) x = StandsAt code status x

-- each thread of a state stands in its position
abbrev pub Standing : Code → State → (ℕ → Position) → Type 0
Standing code s at = (u : ℕ) → StandsIf code (slice_get s.threads u) (at u)
