use Rattle.outline_laws.proofs.Move.{threads_begin}
use Rattle.outline_laws.proofs.moves.threads_begin.Goals as goal

pub returns : goal.returns
returns c = threads_begin
