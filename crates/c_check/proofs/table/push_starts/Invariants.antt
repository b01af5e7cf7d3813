use Rattle.std.proofs.Common.{◌≡◌, ◌++◌, drop, map}
use Rattle.c_tree.specs.Lined.{program_of, stmts_of, bare_program, bare_stmts}
use Rattle.c_tree.specs.Numbering.{creations_of}
use Rattle.c_check.specs.Tables as spec
use Rattle.c_check.proofs.table.push_starts.Given as goal

-- those pushed and those that are left are all of them
abbrev pub invariant-loop-s : goal.invariant-loop-s
invariant-loop-s l =
    l.starts.items ++ map (spec.start_of (bare_program (program_of l.p))) (creations_of (bare_stmts (stmts_of (drop l.s-index l.body))))
    ≡ l.initial.starts.items ++ map (spec.start_of (bare_program (program_of l.p))) (creations_of (bare_stmts (stmts_of l.body)))
