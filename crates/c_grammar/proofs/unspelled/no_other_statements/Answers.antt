use Rattle.c_grammar.proofs.NotSpelledSamples.{other_statements}
use Rattle.c_grammar.proofs.unspelled.no_other_statements.Goals as goal

pub returns : goal.returns
returns c = other_statements
