use Rattle.flow_graph.specs.Left.{left_in}
use Rattle.flow_graph.specs.Shown.{shown_shape}
use Rattle.flow_graph.proofs.Taking.{one_added}
use Rattle.flow_graph.proofs.walk.pass_one.Goals as goal

pub returns : goal.returns
returns c = λ p entries more.
    one_added p entries (shown_shape c.args.shape.now) more (left_in c.args.marks.now) (left_in c.resource_for-resource.new.marks) c.resource_for-resource.result c.piece_of.result c.args.builder.now c.push.new.self c.requires
    c.resource_for-resource.ensures.resource c.resource_for-resource.ensures.left c.piece_of.ensures c.push.ensures
