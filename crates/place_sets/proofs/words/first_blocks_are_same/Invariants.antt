use Rattle.std.proofs.Common.{◌*◌}
use Rattle.place_sets.specs.Rows.{AreSameWords}
use Rattle.place_sets.proofs.words.first_blocks_are_same.Given as goal

abbrev pub invariant-loop-block : goal.invariant-loop-block
invariant-loop-block l = AreSameWords l.one l.other 0 (8 * l.block)
