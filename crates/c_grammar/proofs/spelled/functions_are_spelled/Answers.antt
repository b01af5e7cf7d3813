use Rattle.c_grammar.proofs.SpelledSamples.{functions_are_spelled}
use Rattle.c_grammar.proofs.spelled.functions_are_spelled.Goals as goal

pub returns : goal.returns
returns c = functions_are_spelled
