use Rattle.std.proofs.Common.{◌≡◌, false, ap}
use Rattle.c_tree.specs.Bare as bare
use Rattle.c_tree.specs.Bare.{Stmt}
use Rattle.c_tree.specs.Expressions.{expr_of}
use Rattle.c_frames.specs.Positions.{first_of}
use Rattle.c_tree.specs.Bare.{before}
use Rattle.c_meaning.specs.Branching.{loop_of}
use Rattle.c_meaning.specs.Shown.{shown_body}
use Rattle.c_steps.specs.Model.{state_of}
use Rattle.c_steps.proofs.Rows.{carried_with}
use Rattle.c_steps.proofs.state.State.go_round.Goals as goal

pub returns-then-begun-clause-is : goal.returns-then-begun-clause-is
returns-then-begun-clause-is c step body =
    let p = c.args.p.now in let s = c.args.self.now in
    let act : Stmt = bare.For (shown_body c.args.first.now) (expr_of c.args.test.now) step body in
    let is : first_of c.args.begun act ≡ loop_of (expr_of c.args.test.now) step body = ap (λ b. first_of b act) c.if-begun.true in
    carried_with false p s c.args.t (first_of c.args.begun act) (loop_of (expr_of c.args.test.now) step body) c.repeat.result (state_of p s) (state_of p c.repeat.new.self) is (c.repeat.ensures.is (before body step))

pub returns-else-begun-clause-is : goal.returns-else-begun-clause-is
returns-else-begun-clause-is c step body =
    let p = c.args.p.now in let s = c.args.self.now in
    let act : Stmt = bare.For (shown_body c.args.first.now) (expr_of c.args.test.now) step body in
    let is : first_of c.args.begun act ≡ act = ap (λ b. first_of b act) c.if-begun.false in
    carried_with false p s c.args.t (first_of c.args.begun act) act c.begin_for.result (state_of p s) (state_of p c.begin_for.new.self) is (c.begin_for.ensures.is (expr_of c.args.test.now) step body)
