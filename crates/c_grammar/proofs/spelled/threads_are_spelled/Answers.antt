use Rattle.c_grammar.proofs.SpelledSamples.{threads_are_spelled}
use Rattle.c_grammar.proofs.spelled.threads_are_spelled.Goals as goal

pub returns : goal.returns
returns c = threads_are_spelled
