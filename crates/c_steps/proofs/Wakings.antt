-- Threads that wait, and how they are woken.
use Rattle.std.proofs.Common.{◌≡◌, ℕ, ◌≢◌, ◌==◌, Bool, true, false, cond, List, [], ◌∷◌, map, Option, Some, None, option_map, refl, sym, ap, ◌∙◌, subst}
use Rattle.std.specs.Prelude.{slice_get}
use Rattle.std.proofs.lemmas.Option.{slice_get-map, same_Some}
use Rattle.std.proofs.lemmas.Bool.{false≢true}
use Rattle.c_tree.specs.declared.program.Program.{Program}
use Rattle.c_meaning.specs.State as run
use Rattle.c_meaning.proofs.Reading.{unwritten}
use Rattle.c_meaning.specs.declared.Did.TheVariants as did
use Rattle.c_meaning.specs.Outcome.{NotEnabled, Done}
use Rattle.c_meaning.specs.Threads.{joined_to}
use Rattle.c_meaning.specs.Waits.{acquires_again, awakened, woken_by}
use Rattle.state_parts.specs.declared.threads.Doing.{Doing}
use Rattle.state_parts.specs.declared.threads.Doing.TheVariants.{NotBegun, Running, Waiting, Reacquiring, Ended}
use Rattle.state_parts.specs.declared.threads.Thread.{Thread}
use Rattle.state_parts.specs.declared.tables.Tables.{Tables}
use Rattle.c_steps.specs.declared.state.State.{State}
use Rattle.state_parts.specs.Threads.{status_with, status_of, frames_in}
use Rattle.c_steps.specs.Model.{state_of}
use Rattle.state_parts.specs.Valid.{AreFramesIn, AreThreadsIn}
use Rattle.state_parts.specs.Waiting.{mutex_waiting, woken_with, doing_awakened, thread_awakened, has_ended}

-- a thread is awakened as its status is
awakened_as : (condition : ℕ) (doing : Doing) (frames : List run.Frame) → status_with (doing_awakened condition doing) frames ≡ awakened condition (status_with doing frames)
awakened_as condition (Waiting c mutex) frames = go (c == condition)
  where
    go : (b : Bool) → status_with (woken_with (Waiting c mutex) (cond b (Some mutex) None)) frames ≡ cond b (acquires_again mutex frames) (run.Waiting c mutex frames)
    go true = refl
    go false = refl
awakened_as condition NotBegun frames = refl
awakened_as condition Running frames = refl
awakened_as condition (Reacquiring mutex taken) frames = refl
awakened_as condition Ended frames = refl

pub all_as : (p : Program) (tables : Tables) (condition : ℕ) (threads : List Thread) → map (status_of p tables) (map (thread_awakened condition) threads) ≡ map (awakened condition) (map (status_of p tables) threads)
all_as p tables condition [] = refl
all_as p tables condition (x ∷ xs) = ap (λ s. s ∷ map (status_of p tables) (map (thread_awakened condition) xs)) (awakened_as condition x.doing (frames_in p tables x.frames.items))
    ∙ ap (λ ss. awakened condition (status_of p tables x) ∷ ss) (all_as p tables condition xs)

-- a mapped item comes from one that is there
pub present : {A B : Type 0} (f : A → B) (o : Option A) (y : B) → option_map f o ≡ Some y → (x : A) × (o ≡ Some x) × (f x ≡ y)
present f None y e = absurd cc
present f (Some x) y e = (x, refl, same_Some (f x) y e)

-- frames stay as they are
pub frames_kept : (p : Program) (tables : Tables) (condition : ℕ) (old new : List Thread) → new ≡ map (thread_awakened condition) old → AreThreadsIn p tables old → AreThreadsIn p tables new
frames_kept p tables condition old new e are t x there =
    let found = present thread_of (slice_get old t) x (sym (slice_get-map thread_of old t) ∙ ap (λ ts. slice_get ts t) (sym e) ∙ there) in
    subst (λ (y : Thread). AreFramesIn p tables y.frames.items) found.2 (are t found.0 found.1)
  where
    thread_of : Thread → Thread
    thread_of = thread_awakened condition

frames_same : (doing : Doing) (some others : List run.Frame) (condition mutex : ℕ) → status_with doing some ≡ run.Waiting condition mutex others → some ≡ others
frames_same NotBegun some others condition mutex e = absurd cc
frames_same Running some others condition mutex e = absurd cc
frames_same (Waiting c m) some others condition mutex e = cc
frames_same (Reacquiring m taken) some others condition mutex e = absurd cc
frames_same Ended some others condition mutex e = absurd cc

woken_as : (s : run.State) (t u : ℕ) (frames waiting : List run.Frame) (condition mutex : ℕ) (doing : Doing) → mutex_waiting condition doing ≡ Some mutex
    → woken_by s t frames condition u (Some (status_with doing waiting)) ≡ Done (did.Signal (Some u)) (run.with_status (run.goes_on s t frames) u (acquires_again mutex waiting))
woken_as s t u frames waiting condition mutex (Waiting c m) e = go (c == condition) refl e
  where
    go : (b : Bool) → (c == condition) ≡ b → cond b (Some m) None ≡ Some mutex
        → cond b (Done (did.Signal (Some u)) (run.with_status (run.goes_on s t frames) u (acquires_again m waiting))) NotEnabled ≡ Done (did.Signal (Some u)) (run.with_status (run.goes_on s t frames) u (acquires_again mutex waiting))
    go true d f = ap (λ n. Done (did.Signal (Some u)) (run.with_status (run.goes_on s t frames) u (acquires_again n waiting))) (same_Some m mutex f)
    go false d f = absurd cc
woken_as s t u frames waiting condition mutex NotBegun e = absurd cc
woken_as s t u frames waiting condition mutex Running e = absurd cc
woken_as s t u frames waiting condition mutex (Reacquiring m taken) e = absurd cc
woken_as s t u frames waiting condition mutex Ended e = absurd cc

pub not_woken : (s : run.State) (t u : ℕ) (frames waiting : List run.Frame) (condition : ℕ) (doing : Doing) → mutex_waiting condition doing ≡ None
    → woken_by s t frames condition u (Some (status_with doing waiting)) ≡ NotEnabled
not_woken s t u frames waiting condition (Waiting c m) e = go (c == condition) refl e
  where
    go : (b : Bool) → (c == condition) ≡ b → cond b (Some m) None ≡ None → cond b (Done (did.Signal (Some u)) (run.with_status (run.goes_on s t frames) u (acquires_again m waiting))) NotEnabled ≡ NotEnabled
    go true d f = absurd cc
    go false d f = refl
not_woken s t u frames waiting condition NotBegun e = refl
not_woken s t u frames waiting condition Running e = refl
not_woken s t u frames waiting condition (Reacquiring m taken) e = refl
not_woken s t u frames waiting condition Ended e = refl

is_waiting : (condition mutex : ℕ) (doing : Doing) → mutex_waiting condition doing ≡ Some mutex → (c : ℕ) × (m : ℕ) × (doing ≡ Waiting c m)
is_waiting condition mutex (Waiting c m) e = (c, m, refl)
is_waiting condition mutex NotBegun e = absurd cc
is_waiting condition mutex Running e = absurd cc
is_waiting condition mutex (Reacquiring m taken) e = absurd cc
is_waiting condition mutex Ended e = absurd cc

-- a thread that runs isn't the one that waits
other_thread : (threads : List Thread) (t u condition mutex : ℕ) (running waiting : Thread) → slice_get threads t ≡ Some running → running.doing ≡ Running
    → slice_get threads u ≡ Some waiting → mutex_waiting condition waiting.doing ≡ Some mutex → u ≢ t
other_thread threads t u condition mutex running waiting at runs there waits same =
    let one : running ≡ waiting = same_Some running waiting (sym at ∙ ap (slice_get threads) (sym same) ∙ there) in
    let e : None ≡ Some mutex = ap (mutex_waiting condition) (sym runs ∙ ap (λ (x : Thread). x.doing) one) ∙ waits in
    absurd cc

-- the thread t goes on, and then the thread u, which waits, is woken
pub woken_after : (p : Program) (old mid new : State) (t u : ℕ) (frames : List run.Frame) (condition mutex : ℕ) (running waiting : Thread)
    → slice_get old.threads.items t ≡ Some running → running.doing ≡ Running → slice_get old.threads.items u ≡ Some waiting → mutex_waiting condition waiting.doing ≡ Some mutex
    → state_of p mid ≡ run.goes_on (state_of p old) t frames
    → ((x : Thread) → slice_get mid.threads.items u ≡ Some x → state_of p new ≡ run.with_status (state_of p mid) u (acquires_again mutex (frames_in p mid.tables x.frames.items)))
    → woken_by (state_of p old) t frames condition u (slice_get (state_of p old).threads u) ≡ Done (did.Signal (Some u)) (state_of p new)
woken_after p old mid new t u frames condition mutex running waiting at runs there waits goes turns =
    let status = status_of p old.tables waiting in
    let own = frames_in p old.tables waiting.frames.items in
    let before : slice_get (state_of p old).threads u ≡ Some status = slice_get-map (status_of p old.tables) old.threads.items u ∙ ap (option_map (status_of p old.tables)) there in
    let apart = other_thread old.threads.items t u condition mutex running waiting at runs there waits in
    let still : slice_get (state_of p mid).threads u ≡ Some status = ap (λ (s : run.State). slice_get s.threads u) goes ∙ unwritten (state_of p old).threads t u (run.Running frames) apart ∙ before in
    let found = present (status_of p mid.tables) (slice_get mid.threads.items u) status (sym (slice_get-map (status_of p mid.tables) mid.threads.items u) ∙ still) in
    let is = is_waiting condition mutex waiting.doing waits in
    let same = frames_same found.0.doing (frames_in p mid.tables found.0.frames.items) own is.0 is.1 (found.2 ∙ ap (λ d. status_with d own) is.2) in
    ap (woken_by (state_of p old) t frames condition u) before
    ∙ woken_as (state_of p old) t u frames own condition mutex waiting.doing waits
    ∙ ap (Done (did.Signal (Some u)))
    (sym (turns found.0 found.1 ∙ ap (λ fs. run.with_status (state_of p mid) u (acquires_again mutex fs)) same ∙ ap (λ s. run.with_status s u (acquires_again mutex own)) goes))

-- a thread is waited for until it has ended
pub joined_where_ended : (s : run.State) (t u : ℕ) (frames own : List run.Frame) (doing : Doing) → has_ended doing ≡ true → joined_to s t frames u (Some (status_with doing own)) ≡ Done (did.Join u) (run.goes_on s t frames)
joined_where_ended s t u frames own Ended e = refl
joined_where_ended s t u frames own NotBegun e = absurd (false≢true e)
joined_where_ended s t u frames own Running e = absurd (false≢true e)
joined_where_ended s t u frames own (Waiting c mutex) e = absurd (false≢true e)
joined_where_ended s t u frames own (Reacquiring mutex taken) e = absurd (false≢true e)

pub joined_before : (s : run.State) (t u : ℕ) (frames own : List run.Frame) (doing : Doing) → has_ended doing ≡ false → joined_to s t frames u (Some (status_with doing own)) ≡ NotEnabled
joined_before s t u frames own Ended e = absurd (false≢true (sym e))
joined_before s t u frames own NotBegun e = refl
joined_before s t u frames own Running e = refl
joined_before s t u frames own (Waiting c mutex) e = refl
joined_before s t u frames own (Reacquiring mutex taken) e = refl

-- the status of a thread that does this
pub status_there : (p : Program) (s : State) (u : ℕ) (doing : Doing) → option_map (λ thread. thread.doing) (slice_get s.threads.items u) ≡ Some doing
    → (own : List run.Frame) × (slice_get (state_of p s).threads u ≡ Some (status_with doing own))
status_there p s u doing e =
    let found = present (λ thread. thread.doing) (slice_get s.threads.items u) doing e in
    let own = frames_in p s.tables found.0.frames.items in
    (own, slice_get-map (status_of p s.tables) s.threads.items u ∙ ap (option_map (status_of p s.tables)) found.1 ∙ ap (λ d. Some (status_with d own)) found.2)

-- a thread is begun where it wasn't, when another has gone on
pub begun_after : (p : Program) (old mid new : State) (t u : ℕ) (frames begin : List run.Frame) → state_of p mid ≡ run.goes_on (state_of p old) t frames
    → state_of p new ≡ run.with_status (state_of p mid) u (run.Running begin) → state_of p new ≡ run.with_status (run.goes_on (state_of p old) t frames) u (run.Running begin)
begun_after p old mid new t u frames begin goes begins = begins ∙ ap (λ s. run.with_status s u (run.Running begin)) goes
