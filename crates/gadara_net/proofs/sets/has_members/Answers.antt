use Rattle.std.proofs.Common.{◌≡◌, ◌<◌, true, subst, arith}
use Rattle.std.proofs.lemmas.Bool.{both_ways, eqb-false, ne_eqb, not-true, not_from_false}
use Rattle.net_laws.specs.Candidates.{members}
use Rattle.gadara_net.proofs.Bits.{members-zero, some_member}
use Rattle.gadara_net.proofs.sets.has_members.Goals as goal

pub returns : goal.returns
returns c =
    let mask = c.args.resources in (
      λ on. let nonzero = eqb-false mask 0 (not-true _ on) in let above : 0 < mask = omega (arith, nonzero) in some_member mask above c.ranges.resources.fits,
      λ some. not_from_false _ (ne_eqb mask 0 (λ e. both_ways _ (members-zero some.0) (subst (λ x. members x some.0 ≡ true) e some.1))),
    )
