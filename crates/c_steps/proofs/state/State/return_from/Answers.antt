use Rattle.std.proofs.Common.{refl, sym, ap, subst, false}
use Rattle.c_tree.specs.Bare as bare
use Rattle.c_tree.specs.Bare.{Cons}
use Rattle.c_tree.specs.Expressions.{value_of}
use Rattle.c_meaning.specs.Shown.{shown}
use Rattle.c_meaning.specs.State as run
use Rattle.c_meaning.specs.Calls.{returned}
use Rattle.c_steps.specs.Answers.{Answers}
use Rattle.c_steps.specs.Model.{state_of}
use Rattle.c_steps.proofs.BelowNewest.{runs_at}
use Rattle.c_steps.proofs.state.State.return_from.Goals as goal

pub returns-in-None-clause-is : goal.returns-in-None-clause-is
returns-in-None-clause-is c at =
    (ap (returned (shown c.args.p.now) (state_of c.args.p.now c.args.self.now) c.args.t at.more) (sym (c.in-None.ensures (bare.Return (value_of c.args.value.now)) at)), refl)

pub returns-in-Some-clause-is : goal.returns-in-Some-clause-is
returns-in-Some-clause-is c at =
    let p = c.args.p.now in let s = c.args.self.now in let act = bare.Return (value_of c.args.value.now) in
    subst (λ v. Answers false (returned (shown p) (state_of p s) c.args.t at.more v) c.finish.result (state_of p s) (state_of p c.finish.new.self)) (c.in-Some.ensures act at)
    (c.finish.ensures.is (run.frame at.locals (Cons act at.rest)) at.more (runs_at p s c.args.t act at))
