use Rattle.outline_laws.proofs.Placed.{takes_named, gives_named}
use Rattle.outline_laws.proofs.nets.edges_name_resources.Goals as goal

pub returns-clause-taken : goal.returns-clause-taken
returns-clause-taken c n ths resources net names = takes_named n ths net resources names

pub returns-clause-given : goal.returns-clause-given
returns-clause-given c n ths resources net names = gives_named n ths net resources names
