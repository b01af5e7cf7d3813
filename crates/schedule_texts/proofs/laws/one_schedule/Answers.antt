use Rattle.schedule_texts.proofs.OneSchedule.{one_answer}
use Rattle.schedule_texts.proofs.EachSchedule.{each_schedule}
use Rattle.schedule_texts.proofs.laws.one_schedule.Goals as goal

pub returns-clause-some : goal.returns-clause-some
returns-clause-some c = each_schedule

pub returns-clause-one : goal.returns-clause-one
returns-clause-one c = one_answer
