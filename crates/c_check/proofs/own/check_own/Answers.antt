use Rattle.std.proofs.Common.{ap, ◌∙◌, ◌||◌, not}
use Rattle.c_names.specs.Tables.{in_scope}
use Rattle.c_acts.specs.Uses.{around}
use Rattle.c_check.specs.Own.{past_of}
use Rattle.c_check.proofs.Owned.{own_turn}
use Rattle.c_check.proofs.own.check_own.Goals as goal

pub loop-s-preserved : goal.loop-s-preserved
loop-s-preserved c =
    own_turn (around c.args.at.now) c.args.main c.args.body.now c.loop-s.s-index c.s-item.result (in_scope c.loop-s.scope) (in_scope c.check_stmt.new.scope)
    (past_of c.loop-s.past) (past_of c.add.new.self) c.is_unfixed-unfixed.result c.either-late.result c.loop-s.first c.check_stmt.new.first _
    c.loop-s-test.true c.s-item.is c.in_ok-check_stmt.ensures.scoped c.in_ok-add.ensures c.is_unfixed-unfixed.ensures
    (c.either-late.ensures ∙ ap (λ b. not c.args.main || b) (c.either.ensures ∙ ap (λ b. b || c.loop-s.past.active) c.acts-active.ensures))
    c.in_ok-check_stmt.ensures.breaks c.loop-s.invariant
