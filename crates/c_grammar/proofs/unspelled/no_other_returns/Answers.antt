use Rattle.c_grammar.proofs.NotSpelledSamples.{other_returns}
use Rattle.c_grammar.proofs.unspelled.no_other_returns.Goals as goal

pub returns : goal.returns
returns c = other_returns
