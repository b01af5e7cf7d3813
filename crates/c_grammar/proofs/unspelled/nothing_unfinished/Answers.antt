use Rattle.c_grammar.proofs.NotSpelledSamples.{unfinished}
use Rattle.c_grammar.proofs.unspelled.nothing_unfinished.Goals as goal

pub returns : goal.returns
returns c = unfinished
