use Rattle.std.proofs.Common.{refl}
use Rattle.c_meaning.specs.State as run
use Rattle.state_parts.specs.Threads.{frames_in}
use Rattle.c_steps.proofs.Changing.{new_status, thread_kept}
use Rattle.state_parts.specs.declared.threads.Doing.TheVariants.{Running}
use Rattle.c_steps.proofs.state.State.begin.Goals as goal

pub returns-in-Some-clause-is : goal.returns-in-Some-clause-is
returns-in-Some-clause-is c p lt = new_status p c.args.self.now c.args.u (record { doing = Running; frames = c.args.frames }) (run.Running (frames_in p c.args.self.now.tables c.args.frames.items)) refl

pub returns-in-Some-clause-kept : goal.returns-in-Some-clause-kept
returns-in-Some-clause-kept c p is are = thread_kept p c.args.self.now c.args.u (record { doing = Running; frames = c.args.frames }) is are
