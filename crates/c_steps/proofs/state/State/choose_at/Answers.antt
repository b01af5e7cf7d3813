use Rattle.std.proofs.Common.{sym, ap, ◌∙◌, subst, false}
use Rattle.c_tree.specs.Bare as bare
use Rattle.c_tree.specs.Bare.{Stmt, Cons}
use Rattle.c_tree.specs.Expressions.{place_of}
use Rattle.c_frames.specs.Positions.{first_of}
use Rattle.c_meaning.specs.Shown.{shown}
use Rattle.c_meaning.specs.Step.{chose_on}
use Rattle.c_steps.specs.Answers.{Answers}
use Rattle.c_steps.specs.Model.{state_of}
use Rattle.c_steps.specs.Standing.{At}
use Rattle.c_steps.proofs.Rows.{first_stays}
use Rattle.c_steps.proofs.Shown.{signal_is}
use Rattle.c_steps.proofs.state.State.choose_at.Goals as goal

pub returns-in-Signal-clause-is : goal.returns-in-Signal-clause-is
returns-in-Signal-clause-is c begun at =
    let p = c.args.p.now in let s = c.args.self.now in
    let act : Stmt = bare.Signal (place_of c.in-Signal.cond) in
    let is = ap (first_of begun) (signal_is c.args.s.now c.in-Signal.cond c.in-Signal.is) ∙ first_stays act tt begun in
    subst (λ (a : Stmt). (at : At p s c.args.t a) → Answers false (chose_on (shown p) (state_of p s) c.args.t at.locals at.more c.args.u (Cons a at.rest)) c.choose.result (state_of p s) (state_of p c.choose.new.self))
    (sym is) c.choose.ensures.is at
