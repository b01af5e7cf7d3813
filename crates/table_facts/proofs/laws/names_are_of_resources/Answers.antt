use Rattle.table_facts.proofs.Names.{names_mutex, names_monitor}
use Rattle.table_facts.proofs.laws.names_are_of_resources.Goals as goal

pub returns-clause-mutexes : goal.returns-clause-mutexes
returns-clause-mutexes c = names_mutex

pub returns-clause-monitors : goal.returns-clause-monitors
returns-clause-monitors c = names_monitor
