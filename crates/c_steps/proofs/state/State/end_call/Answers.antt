use Rattle.std.proofs.Common.{◌∷◌, sym, ap, ◌∙◌, subst, false}
use Rattle.c_tree.specs.Bare as bare
use Rattle.c_tree.specs.Bare.{Stmt, Cons}
use Rattle.c_tree.specs.Expressions.{target_of, exprs_of}
use Rattle.c_frames.specs.Positions.{first_of}
use Rattle.c_meaning.specs.Shown.{shown}
use Rattle.c_meaning.specs.State as run
use Rattle.c_meaning.specs.Calls.{call_ended}
use Rattle.c_steps.specs.Answers.{Answers}
use Rattle.c_steps.specs.Model.{state_of}
use Rattle.c_steps.specs.Running.{Runs}
use Rattle.c_steps.proofs.Shown.{call_is}
use Rattle.c_steps.proofs.Rows.{first_call}
use Rattle.c_steps.proofs.state.State.end_call.Goals as goal

pub returns-in-Call-clause-is : goal.returns-in-Call-clause-is
returns-in-Call-clause-is c newest locals begun rest more r =
    let p = c.args.p.now in let s = c.args.self.now in let t = c.args.t in
    let call : Stmt = bare.Call (target_of c.in-Call.target) c.in-Call.function (exprs_of c.in-Call.args) in
    let is = ap (first_of begun) (call_is c.args.s.now c.in-Call.target c.in-Call.function c.in-Call.args c.in-Call.is) ∙ first_call begun (target_of c.in-Call.target) c.in-Call.function (exprs_of c.in-Call.args) in
    subst (λ act. Answers false (call_ended (shown p) (state_of p s) t locals more c.args.gives (Cons act rest)) c.give_back.result (state_of p s) (state_of p c.give_back.new.self)) (sym is)
    (c.give_back.ensures.is newest locals call rest more (subst (λ act. Runs p s t newest (run.frame locals (Cons act rest) ∷ more)) is r))
