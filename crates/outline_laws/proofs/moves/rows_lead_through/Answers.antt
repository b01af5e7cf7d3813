use Rattle.outline_laws.proofs.Lead.{leads, leads_all, leads_joined}
use Rattle.outline_laws.proofs.moves.rows_lead_through.Goals as goal

pub returns-clause-part : goal.returns-clause-part
returns-clause-part c = leads

pub returns-clause-parts : goal.returns-clause-parts
returns-clause-parts c = leads_all

pub returns-clause-joined : goal.returns-clause-joined
returns-clause-joined c = leads_joined
