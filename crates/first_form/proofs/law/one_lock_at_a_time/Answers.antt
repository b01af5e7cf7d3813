use Rattle.first_form.proofs.NotStuck.{never_stuck}
use Rattle.first_form.proofs.law.one_lock_at_a_time.Goals as goal

pub returns : goal.returns
returns c = never_stuck
