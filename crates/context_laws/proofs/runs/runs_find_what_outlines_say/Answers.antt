use Rattle.context_laws.proofs.ForRuns.{function_is, ints_among, quiet, main_thread, created_thread}
use Rattle.context_laws.proofs.runs.runs_find_what_outlines_say.Goals as goal

pub returns-clause-functions : goal.returns-clause-functions
returns-clause-functions c = λ p places name f regular is. (function_is p regular name f is).2

pub returns-clause-ints : goal.returns-clause-ints
returns-clause-ints c = ints_among

pub returns-clause-quiet : goal.returns-clause-quiet
returns-clause-quiet c = λ p places name g regular firsts is none. quiet p places regular firsts name g is none

pub returns-clause-main : goal.returns-clause-main
returns-clause-main c = main_thread

pub returns-clause-created : goal.returns-clause-created
returns-clause-created c = created_thread
