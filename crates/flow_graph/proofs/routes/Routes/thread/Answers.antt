use Rattle.std.proofs.Common.{◌≡◌, ◌<◌, length, sym, subst, ◌∙◌, arith}
use Rattle.std.proofs.lemmas.Result.{on_ok_weaker}
use Rattle.c_tree.specs.Lined.{Program}
use Rattle.context_walk.specs.Prepared.{count_in, program_in}
use Rattle.context_walk.proofs.Beginning.{begins_at, named_somewhere}
use Rattle.flow_graph.specs.Left.{left_in}
use Rattle.flow_graph.specs.Walking.{threads_at, AddsThreads}
use Rattle.flow_graph.proofs.Entered.{EntersAt, begun_at, thread_begins}
use Rattle.flow_graph.proofs.routes.Routes.thread.Goals as goal

pub thread_at-requires-clause-within : goal.thread_at-requires-clause-within
thread_at-requires-clause-within c =
    let within : c.in-Some.k < count_in c.args.self.now.functions.now = (begins_at c.args.self.now.functions.now c.requires.ready.prepared c.args.name.now c.in-Some.k (sym c.place.ensures ∙ c.in-Some.is)).within in
    let all : length c.args.self.now.routes.items ≡ count_in c.args.self.now.functions.now = c.requires.ready.all in
    omega arith

pub returns : goal.returns
returns c = on_ok_weaker c.thread_at.result (λ adds names.
    let p : Program = program_in c.args.self.now.functions.now in
    let there : EntersAt p (length p.functions) c.args.name.now c.in-Some.k = begun_at c.args.self.now.functions.now c.requires.ready.prepared c.args.name.now c.in-Some.k (sym c.place.ensures ∙ c.in-Some.is) in
    subst (λ ps. AddsThreads ps (threads_at c.args.self.now names (left_in c.thread_at.new.marks)) c.args.builder.now c.thread_at.new.builder)
    (sym (thread_begins p c.args.name.now c.in-Some.k names (left_in c.args.marks.now) there)) (adds there.f there.at (threads_at c.args.self.now names))) c.thread_at.ensures

pub unreachable-requires : goal.unreachable-requires
unreachable-requires c = named_somewhere c.args.self.now.functions.now c.requires.ready.prepared c.args.name.now c.requires.named (sym c.place.ensures ∙ c.in-None.is)
