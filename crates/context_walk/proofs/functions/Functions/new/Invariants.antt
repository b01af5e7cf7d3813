use Rattle.std.proofs.Common.{◌≡◌}
use Rattle.context_walk.specs.Prepared.{count_in, AreSoFar}
use Rattle.context_walk.proofs.functions.Functions.new.Given as goal

abbrev pub invariant-loop-f : goal.invariant-loop-f
invariant-loop-f l = record {
  so_far : AreSoFar l.functions;
  program : l.functions.program.now ≡ l.p;
  count : count_in l.functions ≡ l.f-index;
}
