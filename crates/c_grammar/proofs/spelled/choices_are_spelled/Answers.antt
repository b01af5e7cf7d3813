use Rattle.c_grammar.proofs.SpelledSamples.{choices_are_spelled}
use Rattle.c_grammar.proofs.spelled.choices_are_spelled.Goals as goal

pub returns : goal.returns
returns c = choices_are_spelled
