use Rattle.std.proofs.Common.{◌*◌}
use Rattle.place_sets.specs.Rows.{LieWithin}
use Rattle.place_sets.proofs.words.blocks_lie_within.Given as goal

abbrev pub invariant-loop-block : goal.invariant-loop-block
invariant-loop-block l = LieWithin l.one l.other 0 (8 * l.block)
