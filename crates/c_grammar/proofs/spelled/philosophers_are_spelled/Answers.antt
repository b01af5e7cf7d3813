use Rattle.c_grammar.proofs.SpelledSamples.{philosophers_are_spelled}
use Rattle.c_grammar.proofs.spelled.philosophers_are_spelled.Goals as goal

pub returns : goal.returns
returns c = philosophers_are_spelled
