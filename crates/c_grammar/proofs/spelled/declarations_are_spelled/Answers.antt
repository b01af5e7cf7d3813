use Rattle.c_grammar.proofs.SpelledSamples.{declarations_are_spelled}
use Rattle.c_grammar.proofs.spelled.declarations_are_spelled.Goals as goal

pub returns : goal.returns
returns c = declarations_are_spelled
