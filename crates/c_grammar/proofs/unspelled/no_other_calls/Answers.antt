use Rattle.c_grammar.proofs.NotSpelledSamples.{other_calls}
use Rattle.c_grammar.proofs.unspelled.no_other_calls.Goals as goal

pub returns : goal.returns
returns c = other_calls
