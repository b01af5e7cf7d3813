use Rattle.std.proofs.Common.{◌≡◌, ◌+◌, ◌*◌, drop}
use Rattle.context_locals.specs.Known.{IsKept}
use Rattle.context_walk.specs.Prepared.{program_in}
use Rattle.context_walk.specs.Steps.{shown_steps}
use Rattle.context_walk.specs.Walking.{along, Continues}
use Rattle.context_walk.proofs.functions.Functions.+walk.Given as goal

-- a call enters a function above
abbrev pub decreases-enter : goal.decreases-enter
decreases-enter l = 4 * l.k + 3

abbrev pub decreases-walk_steps : goal.decreases-walk_steps
decreases-walk_steps l = 4 * l.k + 2

abbrev pub decreases-walk_step : goal.decreases-walk_step
decreases-walk_step l = 4 * l.k + 1

abbrev pub decreases-call : goal.decreases-call
decreases-call l = 4 * l.k

abbrev pub invariant-walk_steps-loop-step : goal.invariant-walk_steps-loop-step
invariant-walk_steps-loop-step l = record {
  found : Continues (along (program_in l.self) l.k l.fn.known (shown_steps l.steps) l.fn.found) (along (program_in l.self) l.k l.known (shown_steps (drop l.step-index l.steps)) l.found) l.fn.found l.found;
  names : l.known.names ≡ l.fn.known.names;
  kept : IsKept l.known;
}
