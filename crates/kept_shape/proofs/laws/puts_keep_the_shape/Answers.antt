use Rattle.kept_shape.proofs.Programs.{put_shape}
use Rattle.kept_shape.proofs.laws.puts_keep_the_shape.Goals as goal

pub returns : goal.returns
returns c = put_shape
