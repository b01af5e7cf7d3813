use Rattle.std.proofs.Common.{◌≡◌, ◌+◌, drop, sym, subst}
use Rattle.c_tree.specs.Bare.{Stmts, Cons}
use Rattle.c_tree.specs.Numbering.{creations_of}
use Rattle.c_meaning.specs.Shown.{shown_body, shown_stmt}
use Rattle.context_walk.specs.Prepared.{program_in}
use Rattle.context_walk.proofs.Beginning.{next_created, none_created, starts_split}
use Rattle.rule_facts.specs.FromLast.{from_last, named_in, StartsNamed}
use Rattle.flow_graph.specs.Left.{left_in}
use Rattle.flow_graph.specs.Walking.{created_names, threads_at, AddsThreads}
use Rattle.flow_graph.proofs.Taking.{threads_both, threads_none}
use Rattle.flow_graph.proofs.routes.Routes.created_threads.Goals as goal

pub loop-s-init : goal.loop-s-init
loop-s-init c = record { added = threads_none (threads_at c.args.self.now (created_names (shown_body c.args.body.now)) (left_in c.args.marks.now)) c.args.builder.now; named = c.requires.named }

pub created_thread-requires-clause-named : goal.created_thread-requires-clause-named
created_thread-requires-clause-named c =
    let p = program_in c.args.self.now.functions.now in
    let rest : Stmts = shown_body (drop (c.loop-s.s-index + 1) c.args.body.now) in
    let here : shown_body (drop c.loop-s.s-index c.args.body.now) ≡ Cons (shown_stmt c.s-item.result) rest = next_created c.args.body.now c.loop-s.s-index c.s-item.result c.loop-s-test.true c.s-item.is in
    (starts_split (named_in (from_last p)) (shown_stmt c.s-item.result) rest (subst (λ ss. StartsNamed (named_in (from_last p)) (creations_of ss)) here c.loop-s.invariant.named)).0

pub loop-s-preserved : goal.loop-s-preserved
loop-s-preserved c =
    let p = program_in c.args.self.now.functions.now in
    let rest : Stmts = shown_body (drop (c.loop-s.s-index + 1) c.args.body.now) in
    let here : shown_body (drop c.loop-s.s-index c.args.body.now) ≡ Cons (shown_stmt c.s-item.result) rest = next_created c.args.body.now c.loop-s.s-index c.s-item.result c.loop-s-test.true c.s-item.is in
    record {
      added = threads_both (threads_at c.args.self.now (created_names (shown_body c.args.body.now)) (left_in c.args.marks.now)) (threads_at c.args.self.now (created_names (shown_body (drop c.loop-s.s-index c.args.body.now))) (left_in c.loop-s.marks))
          (threads_at c.args.self.now (created_names rest) (left_in c.created_thread.new.marks)) c.args.builder.now c.loop-s.builder c.created_thread.new.builder c.loop-s.invariant.added
          (subst (λ ss. AddsThreads (threads_at c.args.self.now (created_names ss) (left_in c.loop-s.marks)) (threads_at c.args.self.now (created_names rest) (left_in c.created_thread.new.marks)) c.loop-s.builder c.created_thread.new.builder)
          (sym here) (c.in_ok-created_thread.ensures rest));
      named = (starts_split (named_in (from_last p)) (shown_stmt c.s-item.result) rest (subst (λ ss. StartsNamed (named_in (from_last p)) (creations_of ss)) here c.loop-s.invariant.named)).1;
    }

pub returns : goal.returns
returns c =
    subst (λ ss. AddsThreads (threads_at c.args.self.now (created_names (shown_body c.args.body.now)) (left_in c.args.marks.now)) (threads_at c.args.self.now (created_names ss) (left_in c.loop-s.marks)) c.args.builder.now c.loop-s.builder)
    (none_created c.args.body.now c.loop-s.s-index c.loop-s-test.false) c.loop-s.invariant.added
