use Rattle.c_parser.proofs.OneAnswer.{one_text_program}
use Rattle.c_parser.proofs.laws.one_program.Goals as goal

pub returns : goal.returns
returns c = λ text p q x y. one_text_program text p q x y
