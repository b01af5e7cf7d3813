use Rattle.std.proofs.Common.{◌≡◌, List, length, map, sym, ap, subst, ◌∙◌, arith}
use Rattle.std.specs.Vec.{with_items}
use Rattle.std.proofs.lemmas.List.{length-map, with_items_is}
use Rattle.state_parts.specs.declared.threads.Thread.{Thread}
use Rattle.state_parts.specs.Waiting.{thread_awakened}
use Rattle.c_steps.specs.Kept.{OwnBelow}
use Rattle.state_parts.specs.Threads.{status_of}
use Rattle.c_steps.specs.Model.{state_of}
use Rattle.c_steps.proofs.Wakings.{all_as, frames_kept}
use Rattle.c_steps.proofs.state.State.awaken.Goals as goal

pub returns-clause-is : goal.returns-clause-is
returns-clause-is c p =
    let s = c.args.self.now in
    let made : c.awaken_all.new.threads ≡ map (thread_awakened c.args.condition) s.threads.items = c.awaken_all.ensures ∙ ap (map (thread_awakened c.args.condition)) c.as_mut_slice.ensures.value in
    let many : length c.awaken_all.new.threads ≡ length s.threads.items = ap length made ∙ length-map s.threads.items (thread_awakened c.args.condition) in
    let new = with_items_is s.threads c.awaken_all.new.threads (omega (arith, many, s.threads.ok.0)) ∙ made in
    ap (λ (threads : List Thread). record (state_of p s) { threads = map (status_of p s.tables) threads }) new
    ∙ ap (λ statuses. record (state_of p s) { threads = statuses }) (all_as p s.tables c.args.condition s.threads.items)

pub returns-clause-kept : goal.returns-clause-kept
returns-clause-kept c p is =
    let s = c.args.self.now in
    let made : c.awaken_all.new.threads ≡ map (thread_awakened c.args.condition) s.threads.items = c.awaken_all.ensures ∙ ap (map (thread_awakened c.args.condition)) c.as_mut_slice.ensures.value in
    let many : length c.awaken_all.new.threads ≡ length s.threads.items = ap length made ∙ length-map s.threads.items (thread_awakened c.args.condition) in
    let threads = with_items s.threads c.awaken_all.new.threads in
    let new = with_items_is s.threads c.awaken_all.new.threads (omega (arith, many, s.threads.ok.0)) ∙ made in
    let same : length threads.items ≡ length s.threads.items = ap length new ∙ length-map s.threads.items (thread_awakened c.args.condition) in
    record {
      tables = is.tables;
      threads = frames_kept p s.tables c.args.condition s.threads.items threads.items new is.threads;
      few_threads = omega (arith, is.few_threads, same);
      few_mutexes = is.few_mutexes;
      few_monitors = is.few_monitors;
      rows = is.rows;
      owners = subst (λ n. OwnBelow n s.owners.items) (sym same) is.owners;
    }
