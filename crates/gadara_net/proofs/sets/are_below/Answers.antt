use Rattle.std.proofs.Common.{refl, ⊎_elim, arith}
use Rattle.std.proofs.lemmas.Bool.{cases_lt, both_ways}
use Rattle.net_laws.proofs.Masks.{members-below}
use Rattle.gadara_net.proofs.sets.are_below.Goals as goal

pub returns : goal.returns
returns c = (
  λ _ r on.
      ⊎_elim
      (λ below. below)
      (λ up. let low = members-below c.args.resources c.ranges.resources.fits r on in
      absurd (both_ways _ (c.loop-r.invariant r up (omega (arith, low, up, c.loop-r-test.false))) on))
      (cases_lt r c.args.count),
  λ _. refl,
)
