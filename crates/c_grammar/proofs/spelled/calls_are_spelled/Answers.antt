use Rattle.c_grammar.proofs.SpelledSamples.{calls_are_spelled}
use Rattle.c_grammar.proofs.spelled.calls_are_spelled.Goals as goal

pub returns : goal.returns
returns c = calls_are_spelled
