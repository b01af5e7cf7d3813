use Rattle.std.proofs.Common.{◌≡◌, [], sym, subst, ap, ◌∙◌}
use Rattle.std.proofs.lemmas.Result.{on_ok_weaker}
use Rattle.c_tree.specs.Lined.{Program, bare_program}
use Rattle.c_tree.specs.Numbering.{creations_of, main_body}
use Rattle.c_meaning.specs.Shown.{shown_body}
use Rattle.contexts.specs.Outlines.{starts}
use Rattle.rule_facts.specs.FromLast.{from_last, named_in, StartsNamed}
use Rattle.rule_facts.proofs.Behind.{regular_names}
use Rattle.context_walk.specs.Prepared.{program_in}
use Rattle.flow_graph.specs.Left.{left_in}
use Rattle.flow_graph.specs.Weaving.{program_pieces}
use Rattle.flow_graph.specs.Walking.{created_names, threads_at, AddsThreads}
use Rattle.flow_graph.proofs.Starting.{start_names}
use Rattle.flow_graph.proofs.Taking.{threads_both}
use Rattle.flow_graph.proofs.routes.Routes.threads.Goals as goal

pub thread-requires-clause-named : goal.thread-requires-clause-named
thread-requires-clause-named c = (regular_names (program_in c.args.self.now.functions.now) c.requires.regular).main

pub created_threads-requires-clause-named : goal.created_threads-requires-clause-named
created_threads-requires-clause-named c =
    let p : Program = program_in c.args.self.now.functions.now in
    let body : shown_body c.as_slice.result.now ≡ main_body (bare_program p) = ap shown_body c.as_slice.ensures ∙ c.main-main.ensures.body in
    subst (λ ss. StartsNamed (named_in (from_last p)) (creations_of ss)) (sym body) (regular_names p c.requires.regular).starts

pub returns : goal.returns
returns c = on_ok_weaker c.created_threads.result (λ adds.
    let p : Program = program_in c.args.self.now.functions.now in
    let body : shown_body c.as_slice.result.now ≡ main_body (bare_program p) = ap shown_body c.as_slice.ensures ∙ c.main-main.ensures.body in
    threads_both (program_pieces p (left_in c.args.marks.now)) (threads_at c.args.self.now (created_names (main_body (bare_program p))) (left_in c.thread.new.marks)) [] c.args.builder.now c.thread.new.builder c.created_threads.new.builder
    (subst (λ names. AddsThreads (threads_at c.args.self.now names (left_in c.args.marks.now)) (threads_at c.args.self.now (created_names (main_body (bare_program p))) (left_in c.thread.new.marks)) c.args.builder.now c.thread.new.builder)
    (sym (start_names p)) (c.in_ok-thread.ensures (created_names (main_body (bare_program p)))))
    (subst (λ ss. AddsThreads (threads_at c.args.self.now (created_names ss) (left_in c.thread.new.marks)) [] c.thread.new.builder c.created_threads.new.builder) body adds)) c.created_threads.ensures
