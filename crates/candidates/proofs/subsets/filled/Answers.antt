use Rattle.std.proofs.Common.{sym, subst, MatchOption}
use Rattle.candidates.specs.Subsets.{HasNoChoice, IsLeastChoice}
use Rattle.candidates.proofs.Choices.{none_filled}
use Rattle.candidates.proofs.subsets.filled.Goals as goal

pub returns-in_err-set : goal.returns-in_err-set
returns-in_err-set c =
    subst (λ r. MatchOption r (HasNoChoice c.args.room c.args.size c.args.from) (λ set. IsLeastChoice c.args.room c.args.size c.args.from set)) (sym c.from_residual.ensures)
    (none_filled c.args.room c.loop-set.set c.args.size c.args.from c.in_err-set.ensures c.loop-set-test.true)
