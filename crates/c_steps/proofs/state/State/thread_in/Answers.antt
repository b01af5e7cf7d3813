use Rattle.c_meaning.specs.Shown.{shown}
use Rattle.c_steps.proofs.state.State.thread_in.Goals as goal

pub returns : goal.returns
returns c = c.thread.ensures (shown c.args.p.now) c.requires.tables.numbers
