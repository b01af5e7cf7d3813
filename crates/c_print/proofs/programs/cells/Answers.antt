use Rattle.std.proofs.Common.{◌++◌, refl}
use Rattle.std.specs.List.{flat_map}
use Rattle.c_tree.specs.Lined.{bare_cell}
use Rattle.c_canonical.specs.Programs.{cell}
use Rattle.c_layout.specs.Layout.{text}
use Rattle.c_print.proofs.Loops.{ended}
use Rattle.c_print.proofs.ProgramTexts.{next_line}
use Rattle.c_print.proofs.programs.cells.Goals as goal

pub loop-c-preserved : goal.loop-c-preserved
loop-c-preserved c =
    next_line (λ c. cell (bare_cell c)) c.args.cs.now c.loop-c.c-index c.c-item.result (c.args.out.now.items ++ text (flat_map (λ c. cell (bare_cell c)) c.args.cs.now)) c.loop-c.out.items c.cell.new.out.items
    c.loop-c-test.true c.c-item.is c.in_ok-cell.ensures c.loop-c.invariant

pub returns : goal.returns
returns c =
    ended (λ xs. text (flat_map (λ c. cell (bare_cell c)) xs)) c.args.cs.now c.loop-c.c-index (c.args.out.now.items ++ text (flat_map (λ c. cell (bare_cell c)) c.args.cs.now)) c.loop-c.out.items
    c.loop-c-test.false refl c.loop-c.invariant
