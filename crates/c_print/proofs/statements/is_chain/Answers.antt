use Rattle.std.proofs.Common.{arith}
use Rattle.c_print.proofs.Loops.{long_chain}
use Rattle.c_print.proofs.statements.is_chain.Goals as goal

pub returns-in_default-2 : goal.returns-in_default-2
returns-in_default-2 c = long_chain c.args.ss.now (omega arith)
