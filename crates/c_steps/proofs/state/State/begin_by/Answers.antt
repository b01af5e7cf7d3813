use Rattle.std.proofs.Common.{sym, subst, false}
use Rattle.c_tree.specs.Bare.{Stmt, Nil, Cons}
use Rattle.c_meaning.specs.Branching.{for_begun}
use Rattle.c_meaning.specs.Shown.{shown}
use Rattle.c_steps.specs.Answers.{Answers}
use Rattle.c_steps.specs.Model.{state_of}
use Rattle.state_parts.specs.Onward.{onward}
use Rattle.state_parts.specs.declared.frames.Onward.TheVariants.{Loop}
use Rattle.c_steps.proofs.Shown.{declare_is, assign_is}
use Rattle.c_steps.proofs.state.State.begin_by.Goals as goal

pub returns-in-Declare-clause-is : goal.returns-in-Declare-clause-is
returns-in-Declare-clause-is c act at =
    let p = c.args.p.now in let s = c.args.self.now in
    subst (λ (x : Stmt). Answers false (for_begun (shown p) (state_of p s) c.args.t at.locals (onward Loop act at.rest) at.more (Cons x Nil)) c.declare.result (state_of p s) (state_of p c.declare.new.self))
    (sym (declare_is c.args.s.now c.in-Declare.name c.in-Declare.value c.in-Declare.is)) (c.declare.ensures.is act at)

pub returns-in-Assign-clause-is : goal.returns-in-Assign-clause-is
returns-in-Assign-clause-is c act at =
    let p = c.args.p.now in let s = c.args.self.now in
    subst (λ (x : Stmt). Answers false (for_begun (shown p) (state_of p s) c.args.t at.locals (onward Loop act at.rest) at.more (Cons x Nil)) c.assign.result (state_of p s) (state_of p c.assign.new.self))
    (sym (assign_is c.args.s.now c.in-Assign.target c.in-Assign.value c.in-Assign.is)) (c.assign.ensures.is act at)
