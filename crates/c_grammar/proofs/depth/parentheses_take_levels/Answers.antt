use Rattle.c_grammar.proofs.DeepSamples.{parentheses_take_levels}
use Rattle.c_grammar.proofs.depth.parentheses_take_levels.Goals as goal

pub returns : goal.returns
returns c = parentheses_take_levels
