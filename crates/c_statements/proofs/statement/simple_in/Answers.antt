use Rattle.std.proofs.Common.{arith}
use Rattle.c_expressions.specs.Gives.{sight}
use Rattle.c_statements.proofs.Openings.{shallow_is}
use Rattle.c_statements.proofs.statement.simple_in.Goals as goal

pub returns-clause-gives : goal.returns-clause-gives
returns-clause-gives c =
    let e = shallow_is (sight c.args.setting) c.args.kind c.args.room c.args.tokens.now (omega arith) in
    rw e c.simple.ensures.gives
