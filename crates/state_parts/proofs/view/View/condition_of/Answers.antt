use Rattle.c_meaning.specs.Shown.{shown}
use Rattle.state_parts.proofs.Told.{told}
use Rattle.state_parts.proofs.view.View.condition_of.Goals as goal

pub returns : goal.returns
returns c = told c.args.self.now.numbered (c.condition.ensures (shown c.args.self.now.program.now))
