use Rattle.rule_facts.proofs.Counted.{numbered_bounds, mutex_below}
use Rattle.rule_facts.proofs.laws.numbers_are_counted.Goals as goal

pub returns-clause-objects : goal.returns-clause-objects
returns-clause-objects c = numbered_bounds

pub returns-clause-mutexes : goal.returns-clause-mutexes
returns-clause-mutexes c = mutex_below
