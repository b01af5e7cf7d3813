use Rattle.std.proofs.Common.{◌<◌, slice_index_or, arith}
use Rattle.std.proofs.lemmas.List.Elements.{Contains-get_or}
use Rattle.flow_graph.proofs.walk.resources_of.Goals as goal

pub overflow_add-mutexes : goal.overflow_add-mutexes
overflow_add-mutexes c =
    let few : c.args.mutexes < 256 = c.requires.few in
    let less : slice_index_or c.args.monitors.now c.loop-k.k-index 0 < 256 =
    c.requires.fits (slice_index_or c.args.monitors.now c.loop-k.k-index 0) (Contains-get_or c.args.monitors.now c.loop-k.k-index 0 c.loop-k-test.true) in
    omega arith
