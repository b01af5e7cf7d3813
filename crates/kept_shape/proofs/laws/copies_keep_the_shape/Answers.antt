use Rattle.kept_shape.proofs.Programs.{copy_shape}
use Rattle.kept_shape.proofs.laws.copies_keep_the_shape.Goals as goal

pub returns : goal.returns
returns c = copy_shape
