use Rattle.flow_graph.proofs.Woven.{marks_make_pieces}
use Rattle.flow_graph.proofs.laws.marks_make_pieces.Goals as goal

pub returns : goal.returns
returns c = marks_make_pieces
