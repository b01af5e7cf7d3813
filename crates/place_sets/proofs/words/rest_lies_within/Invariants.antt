use Rattle.place_sets.specs.Rows.{LieWithin}
use Rattle.place_sets.proofs.words.rest_lies_within.Given as goal

abbrev pub invariant-loop-at : goal.invariant-loop-at
invariant-loop-at l = LieWithin l.one l.other l.from l.at
