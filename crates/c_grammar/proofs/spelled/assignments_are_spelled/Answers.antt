use Rattle.c_grammar.proofs.SpelledSamples.{assignments_are_spelled}
use Rattle.c_grammar.proofs.spelled.assignments_are_spelled.Goals as goal

pub returns : goal.returns
returns c = assignments_are_spelled
