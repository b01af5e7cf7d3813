use Rattle.std.proofs.Common.{◌++◌, ◌∷◌, [], map, replicate, sym, ap, ◌∙◌, append_assoc}
use Rattle.std.specs.Prelude.{slice_get}
use Rattle.std.proofs.lemmas.List.{map-append, replicate_more}
use Rattle.c_meaning.specs.State as run
use Rattle.state_parts.specs.Threads.{status_of}
use Rattle.state_parts.proofs.Starts.{threads_more, no_frames_in}
use Rattle.state_parts.specs.declared.threads.Thread.{Thread}
use Rattle.state_parts.specs.declared.threads.Doing.TheVariants.{NotBegun}
use Rattle.state_parts.proofs.starting.push_threads.Goals as goal

pub loop-thread-preserved : goal.loop-thread-preserved
loop-thread-preserved c =
    let items = c.in_ok-push.ensures.items in
    let thread : Thread = record { doing = NotBegun; frames = c.new.result } in (
      λ p tables. ap (map (status_of p tables)) items ∙ map-append (status_of p tables) c.loop-thread.threads.items (thread ∷ [])
          ∙ ap (λ l. l ++ run.NotBegun ∷ []) (c.loop-thread.invariant.0 p tables)
          ∙ append_assoc (map (status_of p tables) c.args.threads.now.items) (replicate c.loop-thread._thread run.NotBegun) (run.NotBegun ∷ [])
          ∙ ap (λ l. map (status_of p tables) c.args.threads.now.items ++ l) (replicate_more c.loop-thread._thread run.NotBegun),
      λ p tables old t x e. threads_more p tables c.loop-thread.threads.items thread (c.loop-thread.invariant.1 p tables old) (no_frames_in p tables c.new.result.items c.new.ensures.items) t x
          (ap (λ l. slice_get l t) (sym items) ∙ e),
    )
