use Rattle.c_parser.proofs.EachText.{each_text}
use Rattle.c_parser.proofs.OneAnswer.{one_answer}
use Rattle.c_parser.proofs.laws.one_answer.Goals as goal

pub returns-clause-some : goal.returns-clause-some
returns-clause-some c = each_text

pub returns-clause-one : goal.returns-clause-one
returns-clause-one c = one_answer
