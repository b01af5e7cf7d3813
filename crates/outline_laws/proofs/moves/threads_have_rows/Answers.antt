use Rattle.outline_laws.proofs.Move.{threads_have_rows}
use Rattle.outline_laws.proofs.moves.threads_have_rows.Goals as goal

pub returns : goal.returns
returns c = threads_have_rows
