use Rattle.c_grammar.proofs.SpelledSamples.{defined_keywords_are_spelled}
use Rattle.c_grammar.proofs.spelled.defined_keywords_are_spelled.Goals as goal

pub returns : goal.returns
returns c = defined_keywords_are_spelled
