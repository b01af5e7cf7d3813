use Rattle.std.proofs.Common.{◌∙◌, arith}
use Rattle.gadara_net.specs.Flows.{flow_net}
use Rattle.coverage.proofs.First.{all_covered, first_bad, more_lines, names, when_false, when_true}
use Rattle.coverage.proofs.bad.first_without_line.Goals as goal

pub has_line-requires-clause-named : goal.has_line-requires-clause-named
has_line-requires-clause-named g c = names (flow_net c.args.net.now) c.args.room.now.sets c.loop-k.k c.set-set.result c.requires.minimal c.set-set.ensures

pub returns-then-not-has_line-clause-first : goal.returns-then-not-has_line-clause-first
returns-then-not-has_line-clause-first g c = first_bad (flow_net c.args.net.now) c.args.room.now.sets c.loop-k.k c.set-set.result c.requires.minimal c.set-set.ensures (when_false c.has_line.result _ _ c.if-not-has_line.true c.has_line.ensures.line) c.loop-k.invariant.lines

pub loop-k-preserved : goal.loop-k-preserved
loop-k-preserved g c = record {
  size = c.has_line.ensures.size ∙ c.loop-k.invariant.size;
  work = c.has_line.ensures.work ∙ c.loop-k.invariant.work;
  lines = more_lines (flow_net c.args.net.now) c.args.room.now.sets c.loop-k.k c.set-set.result c.set-set.ensures (when_true c.has_line.result _ _ c.if-not-has_line.false c.has_line.ensures.line) c.loop-k.invariant.lines;
}

pub returns-clause-first : goal.returns-clause-first
returns-clause-first g c = all_covered (flow_net c.args.net.now) c.args.room.now.sets c.loop-k.k c.requires.minimal (omega (arith, c.loop-k-test.false, c.count-k-end.ensures.count)) c.loop-k.invariant.lines
