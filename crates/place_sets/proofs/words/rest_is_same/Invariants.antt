use Rattle.place_sets.specs.Rows.{AreSameWords}
use Rattle.place_sets.proofs.words.rest_is_same.Given as goal

abbrev pub invariant-loop-at : goal.invariant-loop-at
invariant-loop-at l = AreSameWords l.one l.other l.from l.at
