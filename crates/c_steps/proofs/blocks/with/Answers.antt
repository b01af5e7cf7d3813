use Rattle.std.proofs.Common.{◌==◌, ap, w32}
use Rattle.std.proofs.lemmas.Nat.Bits.{bit_at_set_same, bit_at_set_other}
use Rattle.c_steps.proofs.blocks.with.Goals as goal

pub returns-clause-same : goal.returns-clause-same
returns-clause-same c = ap (λ b. b == 1) (bit_at_set_same w32 c.args.set c.args.u c.requires)

pub returns-clause-other : goal.returns-clause-other
returns-clause-other c v below differs = ap (λ b. b == 1) (bit_at_set_other w32 c.args.set c.args.u c.requires v differs)
