use Rattle.c_grammar.proofs.NotSpelledSamples.{calls_inside}
use Rattle.c_grammar.proofs.unspelled.no_calls_inside.Goals as goal

pub returns : goal.returns
returns c = calls_inside
