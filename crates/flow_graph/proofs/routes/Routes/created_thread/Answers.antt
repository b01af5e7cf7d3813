use Rattle.std.proofs.Common.{sym, subst, ap, ◌∙◌}
use Rattle.std.specs.Prelude.{option_map}
use Rattle.std.proofs.lemmas.Result.{on_ok_weaker}
use Rattle.c_tree.specs.Bare.{Cons}
use Rattle.c_meaning.specs.Shown.{shown_stmt}
use Rattle.context_walk.specs.Prepared.{program_in}
use Rattle.rule_facts.specs.FromLast.{from_last, named_in}
use Rattle.flow_graph.specs.Left.{left_in}
use Rattle.flow_graph.specs.Walking.{created_names, started, threads_at, AddsThreads}
use Rattle.flow_graph.proofs.Starting.{created_first, created_same, started_named}
use Rattle.flow_graph.proofs.Taking.{threads_none}
use Rattle.flow_graph.proofs.routes.Routes.created_thread.Goals as goal

pub thread-requires-clause-named : goal.thread-requires-clause-named
thread-requires-clause-named c =
    started_named (named_in (from_last (program_in c.args.self.now.functions.now))) (shown_stmt c.args.s.now) c.in-Some.name.now (sym c.started.ensures ∙ ap (option_map (λ name. name.now)) c.in-Some.is) c.requires.named

pub returns-in-Some : goal.returns-in-Some
returns-in-Some c = on_ok_weaker c.thread.result (λ adds more.
    subst (λ names. AddsThreads (threads_at c.args.self.now names (left_in c.args.marks.now)) (threads_at c.args.self.now (created_names more) (left_in c.thread.new.marks)) c.args.builder.now c.thread.new.builder)
    (sym (created_first (shown_stmt c.args.s.now) c.in-Some.name.now (sym c.started.ensures ∙ ap (option_map (λ name. name.now)) c.in-Some.is) more)) (adds (created_names more))) c.thread.ensures

pub returns-in-None : goal.returns-in-None
returns-in-None c = λ more.
    subst (λ names. AddsThreads (threads_at c.args.self.now (created_names (Cons (shown_stmt c.args.s.now) more)) (left_in c.args.marks.now)) (threads_at c.args.self.now names (left_in c.args.marks.now)) c.args.builder.now c.args.builder.now)
    (created_same (shown_stmt c.args.s.now) (sym c.started.ensures ∙ ap (option_map (λ name. name.now)) c.in-None.is) more)
    (threads_none (threads_at c.args.self.now (created_names (Cons (shown_stmt c.args.s.now) more)) (left_in c.args.marks.now)) c.args.builder.now)
