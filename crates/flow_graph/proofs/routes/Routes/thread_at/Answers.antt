use Rattle.std.proofs.Common.{◌≡◌, ◌<◌, length, refl, subst, arith}
use Rattle.std.specs.Prelude.{slice_get}
use Rattle.std.proofs.lemmas.Option.{slice_get_read}
use Rattle.c_tree.specs.Lined.{Function, Program, function_of}
use Rattle.context_walk.specs.Prepared.{count_in, program_in, IsPrepared}
use Rattle.context_walk.proofs.Preparing.{same_some}
use Rattle.flow_graph.specs.Left.{left_in}
use Rattle.flow_graph.specs.Weaving.{behind_next, function_shapes, thread_of}
use Rattle.flow_graph.specs.Walking.{woven_at, AddsThreads}
use Rattle.flow_graph.proofs.Taking.{thread_added}
use Rattle.flow_graph.proofs.routes.Routes.thread_at.Goals as goal

pub returns : goal.returns
returns c = λ f at behind.
    let q = c.args.self.now.functions.now in
    let p : Program = program_in q in
    let within : c.args.k < count_in q = omega (arith, c.requires.within, c.requires.ready.all) in
    let ready : IsPrepared p c.args.k c.index.result.now = c.requires.ready.prepared.so_far.each c.args.k c.index.result.now (slice_get_read q.functions.items (length q.functions.items) c.args.k c.index.result.now refl within c.index.ensures) in
    let g : Function = function_of c.index.result.now.function.now in
    let same : g ≡ f = same_some (slice_get p.functions c.args.k) g f ready.function at in
    subst (λ (h : Function). AddsThreads (thread_of (h.line, h.end_line) (woven_at c.args.self.now c.args.k (function_shapes h) (behind_next (left_in c.args.marks.now))) behind) (behind (left_in c.enter.new.marks)) c.args.builder.now c.push-2.new.self)
    same
    (subst (λ ms. AddsThreads (thread_of (g.line, g.end_line) (woven_at c.args.self.now c.args.k (function_shapes g) ms) behind) (behind (left_in c.enter.new.marks)) c.args.builder.now c.push-2.new.self)
    c.next_resource.ensures.left
    (thread_added (g.line, g.end_line) (woven_at c.args.self.now c.args.k (function_shapes g) (left_in c.next_resource.new.self)) behind (left_in c.enter.new.marks) c.args.builder.now c.push.new.self c.enter.new.builder c.push-2.new.self
    c.push.ensures (c.in_ok-enter.ensures g ready.function) c.push-2.ensures))
