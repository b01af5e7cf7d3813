use Rattle.std.proofs.Common.{sym, ◌∙◌, arith}
use Rattle.c_tree.specs.Expressions.{place_of}
use Rattle.c_rules.specs.declared.rule.Count.TheVariants as count
use Rattle.c_meaning.specs.Shown.{shown}
use Rattle.c_steps.specs.Model.{state_of}
use Rattle.c_steps.proofs.Acquirings.{mutex_below}
use Rattle.c_steps.proofs.state.State.locked.Goals as goal

pub returns-in_err-mutex : goal.returns-in_err-mutex
returns-in_err-mutex c act at = c.from_residual.ensures ∙ sym c.in_err-mutex.was ∙ c.mutex_at.ensures act at

pub returns-else-mutex : goal.returns-else-mutex
returns-else-mutex c act at =
    let p = c.args.p.now in
    let w = c.requires.accepted.within count.Mutexes in
    let below = mutex_below (shown p) (state_of p c.args.self.now) at.locals (place_of c.args.place.now) c.in_ok-mutex.mutex (sym (c.mutex_at.ensures act at) ∙ c.in_ok-mutex.was) in
    absurd (omega (arith, w, below, c.if-mutex.false))
