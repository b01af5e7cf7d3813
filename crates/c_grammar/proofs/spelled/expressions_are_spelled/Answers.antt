use Rattle.c_grammar.proofs.SpelledSamples.{expressions_are_spelled}
use Rattle.c_grammar.proofs.spelled.expressions_are_spelled.Goals as goal

pub returns : goal.returns
returns c = expressions_are_spelled
