use Rattle.answers.proofs.Judging.{RuleLaws}
use Rattle.answers.proofs.Ran.{RunLaws}
use Rattle.answers.proofs.Each.{some_each, one_each, written_each}
use Rattle.answers.proofs.laws.one_answer.Goals as goal

pub returns-clause-some : goal.returns-clause-some
returns-clause-some c =
    let laws : RuleLaws = record { judged = c.every_program_is_judged.ensures; one_break = c.one_first_break.ensures; one_passed = c.one_first_passed.ensures } in
    let own : RunLaws = record { one_schedule = c.one_schedule.ensures.one; one_input = c.one_input.ensures.one; each_schedule = c.one_schedule.ensures.some; each_input = c.one_input.ensures.some; each_trace = c.one_trace.ensures.some; one_trace = c.one_trace.ensures.one } in
    some_each laws own

pub returns-clause-one : goal.returns-clause-one
returns-clause-one c =
    let laws : RuleLaws = record { judged = c.every_program_is_judged.ensures; one_break = c.one_first_break.ensures; one_passed = c.one_first_passed.ensures } in
    let own : RunLaws = record { one_schedule = c.one_schedule.ensures.one; one_input = c.one_input.ensures.one; each_schedule = c.one_schedule.ensures.some; each_input = c.one_input.ensures.some; each_trace = c.one_trace.ensures.some; one_trace = c.one_trace.ensures.one } in
    one_each laws own

pub returns-clause-written : goal.returns-clause-written
returns-clause-written c =
    let laws : RuleLaws = record { judged = c.every_program_is_judged.ensures; one_break = c.one_first_break.ensures; one_passed = c.one_first_passed.ensures } in
    let own : RunLaws = record { one_schedule = c.one_schedule.ensures.one; one_input = c.one_input.ensures.one; each_schedule = c.one_schedule.ensures.some; each_input = c.one_input.ensures.some; each_trace = c.one_trace.ensures.some; one_trace = c.one_trace.ensures.one } in
    written_each laws own
