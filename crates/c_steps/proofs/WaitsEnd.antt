-- How a woken thread goes on.
use Rattle.std.proofs.Common.{◌≡◌, ℕ, zero, suc, ◌<◌, Bool, true, false, List, [], ◌∷◌, length, Some, refl, sym, ap, ◌∙◌, arith}
use Rattle.std.specs.Prelude.{slice_get, slice_set}
use Rattle.std.proofs.lemmas.Bool.{false≢true}
use Rattle.std.proofs.lemmas.List.{set-set, length-map}
use Rattle.std.proofs.lemmas.Option.{slice_get-map, slice_get_within}
use Rattle.c_tree.specs.Bare as bare
use Rattle.c_tree.specs.Bare.{Stmt, Stmts, Cons}
use Rattle.c_tree.specs.declared.program.Program.{Program}
use Rattle.c_frames.specs.Positions.{first_of}
use Rattle.c_meaning.specs.State as run
use Rattle.c_meaning.specs.declared.Did.TheVariants as did
use Rattle.c_meaning.specs.Outcome.{Undefined, Done}
use Rattle.c_meaning.specs.Waits.{wait_ended}
use Rattle.state_parts.specs.declared.threads.Doing.{Doing}
use Rattle.state_parts.specs.declared.threads.Doing.TheVariants.{NotBegun, Running, Waiting, Reacquiring, Ended}
use Rattle.state_parts.specs.declared.threads.Thread.{Thread}
use Rattle.c_steps.specs.declared.state.State.{State}
use Rattle.state_parts.specs.Threads.{status_with, status_of, frames_in}
use Rattle.c_steps.specs.Model.{state_of}
use Rattle.state_parts.specs.Waiting.{is_wait}
use Rattle.c_steps.proofs.Wakings.{present}

first_waits : (begun : Bool) (s : Stmt) → is_wait (first_of begun s) ≡ is_wait s
first_waits false s = refl
first_waits true (bare.Declare name e) = refl
first_waits true (bare.Assign target e) = refl
first_waits true (bare.Call target function args) = refl
first_waits true (bare.If test a b) = refl
first_waits true (bare.While test body) = refl
first_waits true (bare.For first_part test step body) = refl
first_waits true (bare.Return e) = refl
first_waits true (bare.Read target) = refl
first_waits true (bare.Print format args) = refl
first_waits true (bare.Create slot function arg) = refl
first_waits true (bare.Join slot) = refl
first_waits true (bare.InitMutex place) = refl
first_waits true (bare.InitCond place) = refl
first_waits true (bare.Lock place) = refl
first_waits true (bare.TryLock place taken busy) = refl
first_waits true (bare.Unlock place) = refl
first_waits true (bare.Wait cond place takes) = refl
first_waits true (bare.Signal cond) = refl
first_waits true (bare.Broadcast cond) = refl
first_waits true (bare.Take monitor) = refl
first_waits true (bare.Give monitor) = refl

ended_act : (s : run.State) (t mutex : ℕ) (locals : run.Locals) (more : List run.Frame) (rest : Stmts) (act : Stmt) → is_wait act ≡ true
    → wait_ended s t mutex locals more (Cons act rest) ≡ Done (did.Retake mutex) (record (run.goes_on s t (run.frame locals rest ∷ more)) { owners = slice_set s.owners mutex (Some t) })
ended_act s t mutex locals more rest (bare.Declare name e) h = absurd (false≢true h)
ended_act s t mutex locals more rest (bare.Assign target e) h = absurd (false≢true h)
ended_act s t mutex locals more rest (bare.Call target function args) h = absurd (false≢true h)
ended_act s t mutex locals more rest (bare.If test a b) h = absurd (false≢true h)
ended_act s t mutex locals more rest (bare.While test body) h = absurd (false≢true h)
ended_act s t mutex locals more rest (bare.For first_part test step body) h = absurd (false≢true h)
ended_act s t mutex locals more rest (bare.Return e) h = absurd (false≢true h)
ended_act s t mutex locals more rest (bare.Read target) h = absurd (false≢true h)
ended_act s t mutex locals more rest (bare.Print format args) h = absurd (false≢true h)
ended_act s t mutex locals more rest (bare.Create slot function arg) h = absurd (false≢true h)
ended_act s t mutex locals more rest (bare.Join slot) h = absurd (false≢true h)
ended_act s t mutex locals more rest (bare.InitMutex place) h = absurd (false≢true h)
ended_act s t mutex locals more rest (bare.InitCond place) h = absurd (false≢true h)
ended_act s t mutex locals more rest (bare.Lock place) h = absurd (false≢true h)
ended_act s t mutex locals more rest (bare.TryLock place taken busy) h = absurd (false≢true h)
ended_act s t mutex locals more rest (bare.Unlock place) h = absurd (false≢true h)
ended_act s t mutex locals more rest (bare.Wait cond place takes) h = refl
ended_act s t mutex locals more rest (bare.Signal cond) h = absurd (false≢true h)
ended_act s t mutex locals more rest (bare.Broadcast cond) h = absurd (false≢true h)
ended_act s t mutex locals more rest (bare.Take monitor) h = absurd (false≢true h)
ended_act s t mutex locals more rest (bare.Give monitor) h = absurd (false≢true h)

other_act : (s : run.State) (t mutex : ℕ) (locals : run.Locals) (more : List run.Frame) (rest : Stmts) (act : Stmt) → is_wait act ≡ false → wait_ended s t mutex locals more (Cons act rest) ≡ Undefined
other_act s t mutex locals more rest (bare.Declare name e) h = refl
other_act s t mutex locals more rest (bare.Assign target e) h = refl
other_act s t mutex locals more rest (bare.Call target function args) h = refl
other_act s t mutex locals more rest (bare.If test a b) h = refl
other_act s t mutex locals more rest (bare.While test body) h = refl
other_act s t mutex locals more rest (bare.For first_part test step body) h = refl
other_act s t mutex locals more rest (bare.Return e) h = refl
other_act s t mutex locals more rest (bare.Read target) h = refl
other_act s t mutex locals more rest (bare.Print format args) h = refl
other_act s t mutex locals more rest (bare.Create slot function arg) h = refl
other_act s t mutex locals more rest (bare.Join slot) h = refl
other_act s t mutex locals more rest (bare.InitMutex place) h = refl
other_act s t mutex locals more rest (bare.InitCond place) h = refl
other_act s t mutex locals more rest (bare.Lock place) h = refl
other_act s t mutex locals more rest (bare.TryLock place taken busy) h = refl
other_act s t mutex locals more rest (bare.Unlock place) h = refl
other_act s t mutex locals more rest (bare.Wait cond place takes) h = absurd (false≢true (sym h))
other_act s t mutex locals more rest (bare.Signal cond) h = refl
other_act s t mutex locals more rest (bare.Broadcast cond) h = refl
other_act s t mutex locals more rest (bare.Take monitor) h = refl
other_act s t mutex locals more rest (bare.Give monitor) h = refl

-- a wait ends, and no other statement does
pub wait_ends : (s : run.State) (t mutex : ℕ) (locals : run.Locals) (more : List run.Frame) (rest : Stmts) (begun : Bool) (act : Stmt) → is_wait act ≡ true
    → wait_ended s t mutex locals more (Cons (first_of begun act) rest) ≡ Done (did.Retake mutex) (record (run.goes_on s t (run.frame locals rest ∷ more)) { owners = slice_set s.owners mutex (Some t) })
wait_ends s t mutex locals more rest begun act e = ended_act s t mutex locals more rest (first_of begun act) (first_waits begun act ∙ e)

pub no_wait_ends : (s : run.State) (t mutex : ℕ) (locals : run.Locals) (more : List run.Frame) (rest : Stmts) (begun : Bool) (act : Stmt) → is_wait act ≡ false
    → wait_ended s t mutex locals more (Cons (first_of begun act) rest) ≡ Undefined
no_wait_ends s t mutex locals more rest begun act e = other_act s t mutex locals more rest (first_of begun act) (first_waits begun act ∙ e)

written : {X : Type 0} (xs : List X) (i : ℕ) (v : X) → i < length xs → slice_get (slice_set xs i v) i ≡ Some v
written [] i v lt = absurd (omega (arith, lt))
written (x ∷ xs) zero v lt = refl
written (x ∷ xs) (suc i) v lt = written xs i v (omega (arith, lt))

running_same : (doing : Doing) (some others : List run.Frame) → status_with doing some ≡ run.Running others → (doing ≡ Running) × (some ≡ others)
running_same NotBegun some others e = absurd cc
running_same Running some others e = (refl, cc)
running_same (Waiting c m) some others e = absurd cc
running_same (Reacquiring m taken) some others e = absurd cc
running_same Ended some others e = absurd cc

-- the thread that runs now
pub runs_there : (p : Program) (old mid : State) (t : ℕ) (thread : Thread) (frames : List run.Frame) → slice_get old.threads.items t ≡ Some thread
    → state_of p mid ≡ run.with_status (state_of p old) t (run.Running frames)
    → (x : Thread) × (slice_get mid.threads.items t ≡ Some x) × (x.doing ≡ Running) × (frames_in p mid.tables x.frames.items ≡ frames)
runs_there p old mid t thread frames there turned =
    let many = length-map old.threads.items (status_of p old.tables) in
    let lt = slice_get_within old.threads.items t thread there in
    let within : t < length (state_of p old).threads = omega (arith, many, lt) in
    let status : slice_get (state_of p mid).threads t ≡ Some (run.Running frames) = ap (λ (s : run.State). slice_get s.threads t) turned ∙ written (state_of p old).threads t (run.Running frames) within in
    let found = present (status_of p mid.tables) (slice_get mid.threads.items t) (run.Running frames) (sym (slice_get-map (status_of p mid.tables) mid.threads.items t) ∙ status) in
    let same = running_same found.0.doing (frames_in p mid.tables found.0.frames.items) frames found.2 in
    (found.0, found.1, same.0, same.1)

-- it goes on in the same way as if it had run before
pub turned_goes : (s : run.State) (t : ℕ) (status : run.Status) (frames : List run.Frame) → run.goes_on (run.with_status s t status) t frames ≡ run.goes_on s t frames
turned_goes s t status frames = ap (λ threads. record s { threads = threads }) (set-set s.threads t status (run.Running frames))
