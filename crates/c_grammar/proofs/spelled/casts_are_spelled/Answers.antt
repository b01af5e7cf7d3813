use Rattle.c_grammar.proofs.SpelledSamples.{casts_are_spelled}
use Rattle.c_grammar.proofs.spelled.casts_are_spelled.Goals as goal

pub returns : goal.returns
returns c = casts_are_spelled
