use Rattle.std.proofs.Common.{◌≡◌, ℕ, Option, None, ◌≤◌, map, replicate, length, refl, sym, ap, ◌∙◌, arith}
use Rattle.std.proofs.lemmas.List.{length-map, length-replicate}
use Rattle.c_tree.specs.Numbering.{mutex_count, thread_count, creations}
use Rattle.c_rules.specs.declared.rule.Count.TheVariants as count
use Rattle.c_meaning.specs.Shown.{shown}
use Rattle.c_meaning.specs.State as run
use Rattle.state_parts.specs.Threads.{status_of}
use Rattle.c_steps.proofs.Started.{started, none_own, rows_of}
use Rattle.c_steps.proofs.state.State.start.Goals as goal

pub returns-clause-is : goal.returns-clause-is
returns-clause-is c =
    let p = c.args.p.now in let tables = c.in_ok-tables.ensures in
    started (shown p) c.args.input _ c.in_ok-first_cells.ensures refl c.new-2.ensures.items refl
    (c.in_ok-owners.ensures ∙ ap (λ n. replicate n None) (c.mutexes.ensures (shown p) tables.numbers))
    (c.in_ok-tokens.ensures ∙ ap (λ n. map (λ capacity. replicate n 0) c.as_slice.result.now) (c.threads.ensures (shown p) tables.numbers)
    ∙ ap (map (λ capacity. replicate (thread_count (shown p)) 0)) c.as_slice.ensures)
    c.in_ok-threads.ensures.are

pub returns-clause-kept : goal.returns-clause-kept
returns-clause-kept c =
    let p = c.args.p.now in let tables = c.in_ok-tables.ensures in let few = c.requires.accepted.within in
    let threads : length c.in_ok-threads.threads.items ≡ thread_count (shown p) =
    sym (length-map c.in_ok-threads.threads.items (status_of p c.in_ok-tables.tables)) ∙ ap length c.in_ok-threads.ensures.are ∙ (let n = length-replicate (length (creations (shown p))) run.NotBegun in omega arith) in
    let mutexes = c.in_ok-owners.ensures ∙ ap (λ n. replicate n None) (c.mutexes.ensures (shown p) tables.numbers) in
    let tokens = c.in_ok-tokens.ensures ∙ ap (λ n. map (λ capacity. replicate n 0) c.as_slice.result.now) (c.threads.ensures (shown p) tables.numbers)
    ∙ ap (map (λ capacity. replicate (thread_count (shown p)) 0)) c.as_slice.ensures in
    let few_threads : thread_count (shown p) ≤ 32 = few count.Threads in
    let few_mutexes : mutex_count (shown p) ≤ 48 = few count.Mutexes in
    let few_monitors : length p.monitors ≤ 16 = few count.Monitors in
    record {
      tables = tables;
      threads = c.in_ok-threads.ensures.valid;
      few_threads = omega (arith, threads, few_threads);
      few_mutexes = omega (arith, ap length mutexes, length-replicate {A = Option ℕ} (mutex_count (shown p)) None, few_mutexes);
      few_monitors = omega (arith, sym (length-map c.in_ok-tokens.tokens.items (λ row. row.items)) ∙ ap length tokens ∙ length-map p.monitors (λ capacity. replicate (thread_count (shown p)) 0), few_monitors);
      rows = rows_of (thread_count (shown p)) p.monitors (map (λ row. row.items) c.in_ok-tokens.tokens.items) few_threads tokens;
      owners = none_own (mutex_count (shown p)) (length c.in_ok-threads.threads.items) c.in_ok-owners.owners.items mutexes;
    }
