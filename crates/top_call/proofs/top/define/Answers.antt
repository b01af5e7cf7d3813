use Rattle.command_words.specs.Tasks.{texts}
use Rattle.top_call.proofs.Told.{asked_for, defined_for, ok_on}
use Rattle.top_call.proofs.top.define.Goals as goal

pub returns-in-Some-clause-defines : goal.returns-in-Some-clause-defines
returns-in-Some-clause-defines g c =
    ok_on _ _ _ (λ answer is. defined_for _ _ _ _ _ answer c.in_ok-task.ensures c.in-Some.is is) c.answer_to.ensures.defines

pub returns-in-Some-clause-asked : goal.returns-in-Some-clause-asked
returns-in-Some-clause-asked g c = asked_for (texts c.args.words.now) _ _ _ _ c.in_ok-task.ensures c.in-Some.is c.answer_to.ensures.asked
