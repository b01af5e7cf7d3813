-- Every program has one judgement.
use Rattle.c_tree.specs.declared.program.Mode.{Mode}
use Rattle.c_tree.specs.Lined.{Program}
use Rattle.c_rules.specs.Formed.{Judged, formed, broken, passed}
use Rattle.c_rules.proofs.Breaks.{Ruled, good, bad, ruled}
use Rattle.c_rules.proofs.Passed as counts
use Rattle.c_rules.proofs.Passed.{Counted, counted}

judged_so : (p : Program) (mode : Mode) → Ruled p mode → Counted p → Judged p mode
judged_so p mode (bad r line f) c = broken r line f
judged_so p mode (good keeps) (counts.within w) = formed (record { keeps_rules = keeps; within = w })
judged_so p mode (good keeps) (counts.passed what f) = passed what keeps f

pub judged : (p : Program) (mode : Mode) → Judged p mode
judged p mode = judged_so p mode (ruled p mode) (counted p)
