use Rattle.net_laws.proofs.Emptied.{emptied}
use Rattle.net_laws.proofs.lines.lines_keep_siphons_from_emptying.Goals as goal

pub returns : goal.returns
returns c = emptied
