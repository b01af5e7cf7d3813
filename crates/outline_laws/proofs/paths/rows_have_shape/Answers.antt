use Rattle.outline_laws.proofs.Shape.{rows_have_shape}
use Rattle.outline_laws.proofs.paths.rows_have_shape.Goals as goal

pub returns : goal.returns
returns c = rows_have_shape
