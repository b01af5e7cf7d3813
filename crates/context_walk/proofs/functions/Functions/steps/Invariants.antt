use Rattle.std.proofs.Common.{◌≡◌, take}
use Rattle.std.specs.Prelude.{All}
use Rattle.context_walk.specs.Shown.{shown_items}
use Rattle.context_walk.specs.Steps.{shown_steps, IsStep}
use Rattle.context_walk.specs.Prepared.{count_in, program_in}
use Rattle.context_walk.proofs.functions.Functions.steps.Given as goal

abbrev pub invariant-loop-item : goal.invariant-loop-item
invariant-loop-item l = record {
  items : shown_steps l.steps.items ≡ shown_items (take l.item-index l.items);
  steps : All (IsStep (program_in l.self) (count_in l.self) l.names) l.steps.items;
}
