use Rattle.c_grammar.proofs.SpelledSamples.{lines_are_spelled}
use Rattle.c_grammar.proofs.spelled.lines_are_spelled.Goals as goal

pub returns : goal.returns
returns c = lines_are_spelled
