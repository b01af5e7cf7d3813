use Rattle.c_grammar.proofs.SpelledSamples.{trylocks_are_spelled}
use Rattle.c_grammar.proofs.spelled.trylocks_are_spelled.Goals as goal

pub returns : goal.returns
returns c = trylocks_are_spelled
