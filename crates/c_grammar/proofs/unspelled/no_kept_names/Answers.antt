use Rattle.c_grammar.proofs.Groups.{kept_names}
use Rattle.c_grammar.proofs.unspelled.no_kept_names.Goals as goal

pub returns : goal.returns
returns c = kept_names
