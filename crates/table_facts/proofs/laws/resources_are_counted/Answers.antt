use Rattle.table_facts.proofs.Names.{resource_below}
use Rattle.table_facts.proofs.laws.resources_are_counted.Goals as goal

pub returns : goal.returns
returns c = resource_below
