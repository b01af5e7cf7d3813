use Rattle.table_facts.proofs.Starts.{main_starts, thread_starts}
use Rattle.table_facts.proofs.laws.threads_are_those_of_the_table.Goals as goal

pub returns-clause-main : goal.returns-clause-main
returns-clause-main c = main_starts

pub returns-clause-others : goal.returns-clause-others
returns-clause-others c = thread_starts
