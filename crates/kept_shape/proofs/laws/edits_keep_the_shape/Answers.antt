use Rattle.kept_shape.proofs.Programs.{edits_shape}
use Rattle.kept_shape.proofs.laws.edits_keep_the_shape.Goals as goal

pub returns : goal.returns
returns c = edits_shape
