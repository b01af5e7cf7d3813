use Rattle.kept_shape.proofs.Programs.{lines_shape}
use Rattle.kept_shape.proofs.laws.lines_do_not_matter_to_the_shape.Goals as goal

pub returns : goal.returns
returns c = lines_shape
