use Rattle.c_grammar.proofs.Groups.{groups_left}
use Rattle.c_grammar.proofs.unspelled.operators_group_left.Goals as goal

pub returns : goal.returns
returns c = groups_left
