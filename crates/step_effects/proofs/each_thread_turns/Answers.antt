use Rattle.step_effects.proofs.Turning.{each_turns}
use Rattle.step_effects.proofs.each_thread_turns.Goals as goal

pub returns : goal.returns
returns c = each_turns
