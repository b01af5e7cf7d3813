use Rattle.std.proofs.Common.{◌==◌, ap, w32}
use Rattle.std.proofs.lemmas.Nat.Bits.{bit_at_clear_same, bit_at_clear_other}
use Rattle.c_meaning.proofs.closed.without.Goals as goal

pub returns-clause-same : goal.returns-clause-same
returns-clause-same c = ap (λ b. b == 1) (bit_at_clear_same w32 c.args.set c.args.t c.requires)

pub returns-clause-other : goal.returns-clause-other
returns-clause-other c u below differs = ap (λ b. b == 1) (bit_at_clear_other w32 c.args.set c.args.t c.requires u below differs)
