use Rattle.std.proofs.Common.{ℕ, ◌-◌, ◌≤◌}
use Rattle.std.specs.Int.RustNames.{count_ones}
use Rattle.place_sets.specs.Sets.{IsPartOf}
use Rattle.net_laws.specs.Candidates.{members}
use Rattle.candidates.specs.Subsets.{IsChoice}
use Rattle.candidates.proofs.subsets.filled.Given as goal

abbrev pub invariant-loop-set : goal.invariant-loop-set
invariant-loop-set l = record {
  part : IsPartOf (members l.set) (members l.room);
  few : count_ones l.set ≤ l.size;
  from_here : l.from ≤ l.set;
  least : (other : ℕ) → IsChoice l.room l.size other → l.from ≤ other → l.set ≤ other;
}

abbrev pub decreases-loop-set : goal.decreases-loop-set
decreases-loop-set l = l.size - count_ones l.set
