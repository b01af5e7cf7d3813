use Rattle.c_grammar.proofs.Groups.{defined_twice}
use Rattle.c_grammar.proofs.unspelled.no_second_definition.Goals as goal

pub returns : goal.returns
returns c = defined_twice
