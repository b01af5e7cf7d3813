use Rattle.std.proofs.Common.{◌≡◌, take}
use Rattle.c_tree.proofs.+copy_stmt.Given as goal

abbrev pub invariant-copies::copy_stmts-loop-s : goal.invariant-copies::copy_stmts-loop-s
invariant-copies::copy_stmts-loop-s l = l.all ≡ take l.s-index l.s-items
