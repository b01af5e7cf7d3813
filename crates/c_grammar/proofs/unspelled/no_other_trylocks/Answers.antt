use Rattle.c_grammar.proofs.NotSpelledSamples.{other_trylocks}
use Rattle.c_grammar.proofs.unspelled.no_other_trylocks.Goals as goal

pub returns : goal.returns
returns c = other_trylocks
