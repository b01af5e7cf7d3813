use Rattle.outline_laws.proofs.Placed.{leads_within, of_threads}
use Rattle.outline_laws.proofs.nets.edges_lead_within_threads.Goals as goal

pub returns-clause-edges : goal.returns-clause-edges
returns-clause-edges c = leads_within

pub returns-clause-points : goal.returns-clause-points
returns-clause-points c = of_threads
