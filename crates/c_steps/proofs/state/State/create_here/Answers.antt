use Rattle.std.proofs.Common.{sym, ap}
use Rattle.c_tree.specs.Bare as bare
use Rattle.c_tree.specs.Expressions.{expr_of, place_of}
use Rattle.c_steps.specs.Model.{state_of}
use Rattle.c_steps.proofs.Rows.{carried}
use Rattle.c_steps.proofs.state.State.create_here.Goals as goal

pub returns-clause-is : goal.returns-clause-is
returns-clause-is c =
    let p = c.args.p.now in let s = c.args.self.now in
    carried p s c.args.t (bare.Create (place_of c.args.slot.now) c.args.name.now (expr_of c.args.arg.now)) (bare.Create (place_of c.args.slot.now) c.as_slice.result.now (expr_of c.args.arg.now))
    c.create.result (state_of p s) (state_of p c.create.new.self) (ap (λ n. bare.Create (place_of c.args.slot.now) n (expr_of c.args.arg.now)) (sym c.as_slice.ensures)) c.create.ensures.is
