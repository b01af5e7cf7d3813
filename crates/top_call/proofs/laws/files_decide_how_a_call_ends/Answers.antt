use Rattle.std.proofs.Common.{refl, sym, subst}
use Rattle.answers.specs.Answered.{unread_answer, too_long_answer}
use Rattle.top_call.specs.Answers.{AnswersFor, AnswersOn}
use Rattle.top_call.proofs.laws.files_decide_how_a_call_ends.Goals as goal

pub returns-clause-absent : goal.returns-clause-absent
returns-clause-absent c words files old new status exact task name asked read =
    let a = unread_answer name in
    exact a (subst (λ found. AnswersFor files found a) (sym asked) (subst (λ end. AnswersOn task end a) (sym read) refl))

pub returns-clause-too_long : goal.returns-clause-too_long
returns-clause-too_long c words files old new status exact task name limit asked read =
    let a = too_long_answer name limit in
    exact a (subst (λ found. AnswersFor files found a) (sym asked) (subst (λ end. AnswersOn task end a) (sym read) refl))

pub returns-clause-decided : goal.returns-clause-decided
returns-clause-decided c words files old new status exact task contents asked read a is =
    exact a (subst (λ found. AnswersFor files found a) (sym asked) (subst (λ end. AnswersOn task end a) (sym read) is))
