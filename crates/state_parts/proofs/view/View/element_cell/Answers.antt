use Rattle.std.proofs.Common.{arith}
use Rattle.std.proofs.lemmas.Int.{ints}
use Rattle.c_meaning.specs.Shown.{shown}
use Rattle.state_parts.proofs.Told.{told}
use Rattle.state_parts.proofs.view.View.element_cell.Goals as goal

pub returns : goal.returns
returns c = told c.args.self.now.numbered (λ are.
    let e = c.element.ensures (shown c.args.self.now.program.now) are in grind (arith, ints))
