use Rattle.c_grammar.proofs.DeepSamples.{all_keywords}
use Rattle.c_grammar.proofs.depth.all_keywords.Goals as goal

pub returns : goal.returns
returns c = all_keywords
