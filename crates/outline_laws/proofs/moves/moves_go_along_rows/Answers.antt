use Rattle.outline_laws.proofs.Move.{moves_go_along}
use Rattle.outline_laws.proofs.moves.moves_go_along_rows.Goals as goal

pub returns : goal.returns
returns c = moves_go_along
