use Rattle.std.proofs.Common.{length, sym, subst}
use Rattle.std.specs.Prelude.{All}
use Rattle.std.proofs.lemmas.List.Elements.{All-push}
use Rattle.context_walk.specs.Steps.{IsStep}
use Rattle.context_walk.specs.Prepared.{count_in, program_in}
use Rattle.context_walk.proofs.Preparing.{fits_here, step_pushed}
use Rattle.context_walk.proofs.functions.Functions.steps.Goals as goal

pub step-requires-clause-fits : goal.step-requires-clause-fits
step-requires-clause-fits c = fits_here (length c.args.self.now.program.now.monitors) c.args.items.now c.loop-item.item-index c.item-item.result c.loop-item-test.true c.item-item.is c.requires.fits

pub loop-item-preserved : goal.loop-item-preserved
loop-item-preserved c = record {
  items = step_pushed c.args.items.now c.loop-item.item-index c.item-item.result c.loop-item.steps.items c.push.new.self.items c.step.result c.loop-item-test.true c.item-item.is
      c.loop-item.invariant.items c.in_ok-push.ensures.items c.step.ensures.item;
  steps = subst (All (IsStep (program_in c.args.self.now) (count_in c.args.self.now) c.args.names.now)) (sym c.in_ok-push.ensures.items)
      (All-push (IsStep (program_in c.args.self.now) (count_in c.args.self.now) c.args.names.now) c.loop-item.steps.items c.step.result c.loop-item.invariant.steps c.step.ensures.step);
}
