use Rattle.gadara_net.specs.Chains.{IsChained}
use Rattle.gadara_net.proofs.chains.Chains.new.Given as goal

abbrev pub invariant-loop-i : goal.invariant-loop-i
invariant-loop-i l = IsChained l.keys l.last.items l.before.items l.size l.i
