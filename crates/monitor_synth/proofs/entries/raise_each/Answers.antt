use Rattle.std.proofs.Common.{length, ap, arith}
use Rattle.std.proofs.lemmas.Option.{slice_get_within}
use Rattle.monitor_synth.proofs.entries.raise_each.Goals as goal

pub raise_to-requires-clause-from : goal.raise_to-requires-clause-from
raise_to-requires-clause-from c =
    omega (arith, (c.keeps_flow.ensures.shaped.leads c.edge.result (c.loop-k.k, c.edge.ensures)).0, c.requires.each, ap length c.requires.own)

pub raise_to-requires-clause-to : goal.raise_to-requires-clause-to
raise_to-requires-clause-to c =
    omega (arith, (c.keeps_flow.ensures.shaped.leads c.edge.result (c.loop-k.k, c.edge.ensures)).1, c.requires.each)

pub returns : goal.returns
returns c =
    let inv = c.loop-k.invariant in
    record {
      own = inv.own;
      next = λ e has. inv.next has.0 e (omega (arith, slice_get_within c.args.n.now.edges has.0 e has.1)) has.1;
      met = inv.met;
    }
