use Rattle.std.proofs.Common.{◌∷◌, sym, ap, refl, ◌∙◌}
use Rattle.c_meaning.specs.State.{frame}
use Rattle.c_meaning.specs.Outcome.{Done}
use Rattle.c_meaning.specs.declared.Did.TheVariants as did
use Rattle.c_meaning.specs.Threads.{joined_to}
use Rattle.c_steps.specs.Model.{state_of}
use Rattle.c_steps.proofs.Wakings.{status_there, joined_where_ended, joined_before}
use Rattle.c_steps.proofs.state.State.join_thread.Goals as goal

pub returns-then-not-has_ended-clause-is : goal.returns-then-not-has_ended-clause-is
returns-then-not-has_ended-clause-is c act at =
    let s = state_of c.args.p.now c.args.self.now in
    let frames = frame at.locals at.rest ∷ at.more in
    let found = status_there c.args.p.now c.args.self.now c.args.u c.in-Some.doing (sym c.doing.ensures ∙ c.in-Some.is) in
    (ap (joined_to s c.args.t frames c.args.u) found.1 ∙ joined_before s c.args.t c.args.u frames found.0 c.in-Some.doing (sym c.has_ended.ensures ∙ c.if-not-has_ended.true), refl)

pub returns-clause-is : goal.returns-clause-is
returns-clause-is c act at =
    let s = state_of c.args.p.now c.args.self.now in
    let frames = frame at.locals at.rest ∷ at.more in
    let found = status_there c.args.p.now c.args.self.now c.args.u c.in-Some.doing (sym c.doing.ensures ∙ c.in-Some.is) in
    ap (joined_to s c.args.t frames c.args.u) found.1
    ∙ joined_where_ended s c.args.t c.args.u frames found.0 c.in-Some.doing (sym c.has_ended.ensures ∙ c.if-not-has_ended.false)
    ∙ ap (Done (did.Join c.args.u)) (sym (c.go_on.ensures.goes act at))
