use Rattle.std.specs.Prelude.{nat_le}
use Rattle.c_tree.specs.Lined.{bare_program}
use Rattle.first_form.specs.FirstForm.{is_first_form}
use Rattle.first_form.specs.Size.{first_tokens}
use Rattle.answers.proofs.Declined.{and_first}
use Rattle.answers.proofs.instrument.accepted_programs_are_safe.Goals as goal

pub returns : goal.returns
returns c = λ bytes acc. record {
  program = acc.program;
  spelled = acc.spells.spelled;
  never_stuck = c.one_lock_at_a_time.ensures acc.program
      (and_first (is_first_form (bare_program acc.program)) (nat_le (first_tokens (bare_program acc.program)) 65536) acc.first_form) acc.not_nested;
}
