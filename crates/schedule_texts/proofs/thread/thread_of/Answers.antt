use Rattle.std.proofs.Common.{◌∙◌, ⊎_elim, rules, tests}
use Rattle.std.proofs.lemmas.Fmt.{decimal_digit}
use Rattle.schedule_texts.proofs.Decimals.{decimal_shape, decimal_two}
use Rattle.schedule_texts.proofs.Shapes.{one_of, two_of}
use Rattle.schedule_texts.proofs.thread.thread_of.Goals as goal
use Rattle.schedule_texts.proofs.thread.thread_of.Goals.{in-len1, in-len2}

pub returns-in_default-clause-none : goal.returns-in_default-clause-none
returns-in_default-clause-none c = λ t is. ⊎_elim (λ one. let at = is.1 ∙ one.1 in search (rules, tests)) (λ two. let at = is.1 ∙ two.1 in search (rules, tests)) (decimal_shape t is.0)

pub returns-in_default-2-clause-none : goal.returns-in_default-2-clause-none
returns-in_default-2-clause-none c = λ t is. ⊎_elim (λ one. let at = is.1 ∙ one.1 in grind (rules, tests)) (λ two. let at = is.1 ∙ two.1 in grind (rules, tests)) (decimal_shape t is.0)

pub returns-in_default-3-clause-none : goal.returns-in_default-3-clause-none
returns-in_default-3-clause-none c = λ t is. ⊎_elim (λ one. let at = is.1 ∙ one.1 in grind (rules, tests)) (λ two. let at = is.1 ∙ two.1 in grind (rules, tests)) (decimal_shape t is.0)

pub returns-in_default-4-clause-none : goal.returns-in_default-4-clause-none
returns-in_default-4-clause-none c = λ t is. ⊎_elim (λ one. let at = is.1 ∙ one.1 in grind (rules, tests)) (λ two. let at = is.1 ∙ two.1 in grind (rules, tests)) (decimal_shape t is.0)

pub returns-in_default-5-clause-none : goal.returns-in_default-5-clause-none
returns-in_default-5-clause-none c = λ t is. ⊎_elim (λ one. let at = is.1 ∙ one.1 in grind (rules, tests)) (λ two. let at = is.1 ∙ two.1 in grind (rules, tests)) (decimal_shape t is.0)

pub returns-else-number-lt-THREADS-clause-none : goal.returns-else-number-lt-THREADS-clause-none
returns-else-number-lt-THREADS-clause-none c = λ t is. elim c.if-word-lt2.branch [
  | in-len1 w ↦ ⊎_elim (λ one. let at = is.1 ∙ one.1 in grind (rules, tests)) (λ two. let at = is.1 ∙ two.1 in grind (rules, tests)) (decimal_shape t is.0)
  | in-len2 w ↦ ⊎_elim (λ one. let at = is.1 ∙ one.1 in grind (rules, tests)) (λ two. let at = is.1 ∙ two.1 in grind (rules, tests)) (decimal_shape t is.0)
]

pub returns-then-number-lt-THREADS-clause-some : goal.returns-then-number-lt-THREADS-clause-some
returns-then-number-lt-THREADS-clause-some c = elim c.if-word-lt2.branch [
  | in-len1 w ↦ (search rules, let is = one_of c.args.word.now 0 w.in-len1.len_at_least w.in-len1.len_below in let text = decimal_digit c.if-word-lt2.number (grind (rules, tests)) in grind (rules, tests))
  | in-len2 w ↦ (search rules, let is = two_of c.args.word.now 0 w.in-len2.len_at_least w.in-len2.len_below in let text = decimal_two c.if-word-lt2.number (grind (rules, tests)) (grind (rules, tests)) in grind (rules, tests))
]
