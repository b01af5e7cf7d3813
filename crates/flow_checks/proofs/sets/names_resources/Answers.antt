use Rattle.std.proofs.Common.{arith, inl, inr, eqb-true, refl}
use Rattle.std.specs.Int.{bit_at}
use Rattle.std.proofs.lemmas.Bool.{cases_lt}
use Rattle.std.proofs.lemmas.Nat.Bits.{bit_at_above}
use Rattle.flow_checks.proofs.sets.names_resources.Goals as goal

pub returns : goal.returns
returns c = (
  λ _ r member. elim (cases_lt r 64) [
    | inl below ↦ omega (arith, c.loop-r.invariant r (omega (arith, c.loop-r-test.false)) member, c.resources-count.ensures)
    | inr above ↦ absurd (omega (arith, bit_at_above c.args.resources 64 r c.ranges.resources.fits above, eqb-true (bit_at c.args.resources r) 1 member))
  ],
  λ _. refl,
)
