use Rattle.std.proofs.Common.{ap, ◌+◌}
use Rattle.c_names.specs.Tables.{meant}
use Rattle.c_check.proofs.Wholes.{function_turn}
use Rattle.c_check.proofs.functions.check_functions.Goals as goal

pub loop-function-preserved : goal.loop-function-preserved
loop-function-preserved c = record {
  here = ap (λ n. n + 1) c.loop-function.invariant.here;
  breaks = function_turn (meant c.args.names.now) c.args.mode c.args.monitors c.args.functions.now c.loop-function.function-index c.loop-function.place c.function-item.result
      c.loop-function.first c.check_function.new.first _ c.loop-function-test.true c.function-item.is c.in_ok-check_function.ensures c.loop-function.invariant.breaks;
}
