use Rattle.schedule_texts.proofs.OneInput.{one_answer}
use Rattle.schedule_texts.proofs.EachInput.{each_input}
use Rattle.schedule_texts.proofs.laws.one_input.Goals as goal

pub returns-clause-some : goal.returns-clause-some
returns-clause-some c = each_input

pub returns-clause-one : goal.returns-clause-one
returns-clause-one c = one_answer
