use Rattle.c_grammar.proofs.DeepSamples.{line_is_spelled}
use Rattle.c_grammar.proofs.depth.line_is_spelled.Goals as goal

pub returns : goal.returns
returns c = line_is_spelled
