use Rattle.c_grammar.proofs.SpelledSamples.{library_calls_are_spelled}
use Rattle.c_grammar.proofs.spelled.library_calls_are_spelled.Goals as goal

pub returns : goal.returns
returns c = library_calls_are_spelled
