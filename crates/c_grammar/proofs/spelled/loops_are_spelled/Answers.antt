use Rattle.c_grammar.proofs.SpelledSamples.{loops_are_spelled}
use Rattle.c_grammar.proofs.spelled.loops_are_spelled.Goals as goal

pub returns : goal.returns
returns c = loops_are_spelled
