use Rattle.std.proofs.Common.{ap, ◌∙◌, ◌||◌, bytes_eq}
use Rattle.c_names.specs.Tables.{in_scope}
use Rattle.c_acts.specs.First.{noted_all}
use Rattle.c_acts.specs.Uses.{around}
use Rattle.c_acts.specs.Acts.{local_breaks}
use Rattle.c_check.proofs.Walks.{same_tests}
use Rattle.c_check.proofs.Wholes.{parameter_turn, enter_turn, enter_end}
use Rattle.c_check.proofs.functions.check_parameters.Goals as goal

pub loop-name-preserved : goal.loop-name-preserved
loop-name-preserved c =
    let entered_so = same_tests _ _ (λ n. c.in_ok-enter.ensures.scoped n ∙ ap (λ x. bytes_eq n x || in_scope c.loop-name.scope n) c.as_slice-in-loop-name.ensures) in
    record {
      breaks = parameter_turn (around c.args.at.now) c.args.line c.args.names.now c.loop-name.name-index c.name-item.result (in_scope c.loop-name.scope) (in_scope c.enter.new.scope)
          c.loop-name.first c.check_local.new.first _ c.loop-name-test.true c.name-item.is entered_so
          (c.check_local.ensures ∙ ap (λ x. noted_all c.loop-name.first (local_breaks (around c.args.at.now) (in_scope c.loop-name.scope) x c.args.line)) c.as_slice.ensures)
          c.loop-name.invariant.breaks;
      scoped = enter_turn c.args.names.now c.loop-name.name-index c.name-item.result (in_scope c.loop-name.scope) (in_scope c.enter.new.scope) _ c.loop-name-test.true c.name-item.is
          entered_so c.loop-name.invariant.scoped;
    }

pub returns-clause-scoped : goal.returns-clause-scoped
returns-clause-scoped c = enter_end c.args.names.now c.loop-name.name-index (in_scope c.loop-name.scope) _ c.loop-name-test.false c.loop-name.invariant.scoped
