use Rattle.std.proofs.Common.{◌+◌, ◌<◌, length, ◌∙◌, arith}
use Rattle.c_tree.specs.Numbering.{mutex_count}
use Rattle.c_tree.specs.Lined.{bare_program}
use Rattle.context_walk.specs.Prepared.{program_in}
use Rattle.flow_graph.specs.Left.{left_in}
use Rattle.flow_graph.specs.Walking.{entries_at}
use Rattle.flow_graph.proofs.Taking.{wait_added}
use Rattle.flow_graph.proofs.routes.Routes.pass_wait.Goals as goal

pub resources_of-requires-clause-fits : goal.resources_of-requires-clause-fits
resources_of-requires-clause-fits c = λ k inside.
    let few : mutex_count (bare_program (program_in c.args.self.now.functions.now)) + length (program_in c.args.self.now.functions.now).monitors < 256 = c.requires.ready.few in
    let less : k < length (program_in c.args.self.now.functions.now).monitors = c.requires.fits k inside in
    omega arith

pub returns : goal.returns
returns c = λ k more.
    let p = program_in c.args.self.now.functions.now in
    wait_added (bare_program p) (entries_at p k) c.args.line c.args.takes.now more (left_in c.args.marks.now) (left_in c.next_resource-resource.new.self) c.next_resource-resource.result c.args.self.now.mutexes c.as_slice.result.now c.args.builder.now c.wait.new.self
    c.next_resource-resource.ensures.resource c.next_resource-resource.ensures.left c.requires.ready.mutexes (c.as_slice.ensures.value ∙ c.in_ok-takes.ensures) c.wait.ensures
