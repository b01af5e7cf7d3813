-- A state in which one thread has changed.
use Rattle.std.proofs.Common.{◌≡◌, ℕ, ◌<◌, List, length, get_or, map, Some, sym, ap, ◌∙◌, subst, ⊎_elim, arith}
use Rattle.std.specs.Prelude.{slice_get, slice_set}
use Rattle.std.specs.Vec.{with_item}
use Rattle.std.proofs.lemmas.List.{map-set, length-set}
use Rattle.std.proofs.Math.Seq.{map-set_same}
use Rattle.std.proofs.lemmas.Option.{same_Some, get_or_from_slice_get}
use Rattle.c_meaning.proofs.Reading.{read_after}
use Rattle.c_tree.specs.declared.program.Program.{Program}
use Rattle.c_tree.specs.Bare.{Stmt}
use Rattle.c_meaning.specs.State as run
use Rattle.state_parts.specs.declared.threads.Thread.{Thread}
use Rattle.c_steps.specs.declared.state.State.{State}
use Rattle.state_parts.specs.Threads.{frames_in, status_with, status_of}
use Rattle.c_steps.specs.Model.{state_of}
use Rattle.state_parts.specs.Valid.{AreFramesIn}
use Rattle.c_steps.specs.Kept.{IsStateOf}
use Rattle.c_steps.specs.Standing.{At}

abbrev pub with_thread : State → ℕ → Thread → State
with_thread s t thread = record s { threads = with_item s.threads t thread }

-- what the state is then
pub new_status : (p : Program) (s : State) (t : ℕ) (thread : Thread) (status : run.Status) → status_of p s.tables thread ≡ status
    → state_of p (with_thread s t thread) ≡ run.with_status (state_of p s) t status
new_status p s t thread status is =
    ap (λ threads. record (state_of p s) { threads = threads }) (map-set (status_of p s.tables) s.threads.items t thread ∙ ap (slice_set (map (status_of p s.tables) s.threads.items) t) is)

-- what the code keeps
pub thread_kept : (p : Program) (s : State) (t : ℕ) (thread : Thread) → IsStateOf p s → AreFramesIn p s.tables thread.frames.items → IsStateOf p (with_thread s t thread)
thread_kept p s t thread is are =
    let same : length (slice_set s.threads.items t thread) ≡ length s.threads.items = length-set s.threads.items t thread in
    record {
      tables = is.tables;
      threads = λ u x e. ⊎_elim
          (λ here. let P : Thread → Type 0 = λ x. AreFramesIn p s.tables x.frames.items in subst P (sym here.1) are)
          (λ other. is.threads u x other.1)
          (read_after s.threads.items t thread u x e);
      few_threads = omega (arith, is.few_threads);
      few_mutexes = is.few_mutexes;
      few_monitors = is.few_monitors;
      rows = is.rows;
      owners = λ mutex u e. let own : u < length s.threads.items = is.owners mutex u e in omega arith;
    }

-- the thread that stands at a statement
pub is_at : (p : Program) (s : State) (t : ℕ) (act : Stmt) (at : At p s t act) (thread : Thread) → slice_get s.threads.items t ≡ Some thread → at.thread ≡ thread
is_at p s t act at thread there = same_Some at.thread thread (sym at.there ∙ there)

-- it runs in these frames
pub status_at : (p : Program) (s : State) (t : ℕ) (act : Stmt) (at : At p s t act) → status_of p s.tables at.thread ≡ run.Running (frames_in p s.tables at.thread.frames.items)
status_at p s t act at = ap (λ d. status_with d (frames_in p s.tables at.thread.frames.items)) at.runs

-- a thread that stands for the same
pub same_status : (p : Program) (s : State) (t : ℕ) (thread new : Thread) → slice_get s.threads.items t ≡ Some thread → status_of p s.tables new ≡ status_of p s.tables thread
    → state_of p (with_thread s t new) ≡ state_of p s
same_status p s t thread new there same =
    let read : get_or s.threads.items t thread ≡ thread = get_or_from_slice_get s.threads.items t thread thread there in
    ap {A = List run.Status} (λ threads. record (state_of p s) { threads = threads }) (map-set_same (status_of p s.tables) s.threads.items t new thread (same ∙ ap (status_of p s.tables) (sym read)))
