use Rattle.c_grammar.proofs.SpelledSamples.{monitor_calls_are_spelled}
use Rattle.c_grammar.proofs.spelled.monitor_calls_are_spelled.Goals as goal

pub returns : goal.returns
returns c = monitor_calls_are_spelled
