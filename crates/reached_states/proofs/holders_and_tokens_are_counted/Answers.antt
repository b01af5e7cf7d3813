use Rattle.reached_states.proofs.Counts.{holders_are_counted, counts_fit, taken_is_counted}
use Rattle.reached_states.proofs.holders_and_tokens_are_counted.Goals as goal

pub returns-clause-holders : goal.returns-clause-holders
returns-clause-holders c = holders_are_counted

pub returns-clause-fit : goal.returns-clause-fit
returns-clause-fit c = counts_fit

pub returns-clause-taken : goal.returns-clause-taken
returns-clause-taken c = taken_is_counted
