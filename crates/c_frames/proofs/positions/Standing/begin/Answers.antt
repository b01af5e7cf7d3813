use Rattle.std.proofs.Common.{true, ap, ◌∙◌}
use Rattle.c_tree.specs.Bare.{before}
use Rattle.c_frames.specs.Positions.{next_in, behind}
use Rattle.c_frames.proofs.Leaving.{next_here}
use Rattle.c_frames.proofs.positions.Standing.begin.Goals as goal

pub returns-clause-begins : goal.returns-clause-begins
returns-clause-begins c body s stands =
    ap (λ l. before (next_in true l) (behind body c.args.self.now.entered.items)) stands.here ∙ next_here true s _ (behind body c.args.self.now.entered.items)
