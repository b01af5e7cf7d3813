use Rattle.net_laws.proofs.Minimal.{minimal}
use Rattle.net_laws.proofs.lines.candidates_have_minimal_sets.Goals as goal

pub returns : goal.returns
returns c n C shaped = minimal n shaped C
