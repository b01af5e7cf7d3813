-- That the net of threads is shaped, and is a flow where its points fit the tokens.
use Rattle.std.proofs.Common.{◌<◌, arith}
use Rattle.outline_laws.proofs.Placed.{leads_within, of_threads, sleepers_wake}
use Rattle.held_counts.specs.Flows.{HeldNetsAreShaped, MutexesFit, HeldNetsAreFlows}
use Rattle.held_counts.proofs.Along.{held_once, is_net, paths_let_go}

pub held_shaped : HeldNetsAreShaped
held_shaped n ths counts h has = record {
  leads = λ e edge. let r = leads_within n ths h.net e edge in (r.0, r.1);
  of_threads = λ p lt. of_threads n ths h.net p lt;
  kinds = has.kinds;
  single = has.single;
  few = has.few;
}

pub mutexes_fit : MutexesFit
mutexes_fit n ths counts h has all = record {
  fits = λ p r lt below.
      let mutex : r < n.mutexes = omega (arith, below, all) in
      let one = has.single r mutex in
      omega (arith, one, held_once n ths counts h p r lt mutex);
}

pub held_flows : HeldNetsAreFlows
held_flows n ths counts h has fitting = record {
  net = is_net n ths counts h has.filled;
  shaped = held_shaped n ths counts h has;
  fitting = fitting;
  asleep = λ e edge waits. sleepers_wake n ths h.net e edge waits;
  ends = λ p lt. paths_let_go n ths counts h p lt;
}
