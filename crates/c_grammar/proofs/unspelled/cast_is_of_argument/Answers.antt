use Rattle.c_grammar.proofs.Groups.{cast_of_argument}
use Rattle.c_grammar.proofs.unspelled.cast_is_of_argument.Goals as goal

pub returns : goal.returns
returns c = cast_of_argument
