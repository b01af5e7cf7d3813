use Rattle.net_laws.proofs.Least.{siphon, least}
use Rattle.net_laws.proofs.siphons.least_siphons_are_least.Goals as goal

pub returns-clause-siphon : goal.returns-clause-siphon
returns-clause-siphon c = siphon

pub returns-clause-least : goal.returns-clause-least
returns-clause-least c n R P is p l = least n R P is l.0 p l.1
