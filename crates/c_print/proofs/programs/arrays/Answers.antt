use Rattle.std.proofs.Common.{◌++◌, refl}
use Rattle.std.specs.List.{flat_map}
use Rattle.c_tree.specs.Lined.{bare_array}
use Rattle.c_canonical.specs.Programs.{array}
use Rattle.c_layout.specs.Layout.{text}
use Rattle.c_print.proofs.Loops.{ended}
use Rattle.c_print.proofs.ProgramTexts.{next_line}
use Rattle.c_print.proofs.programs.arrays.Goals as goal

pub loop-a-preserved : goal.loop-a-preserved
loop-a-preserved c =
    next_line (λ a. array (bare_array a)) c.args.arrays.now c.loop-a.a-index c.a-item.result (c.args.out.now.items ++ text (flat_map (λ a. array (bare_array a)) c.args.arrays.now)) c.loop-a.out.items c.array.new.out.items
    c.loop-a-test.true c.a-item.is c.in_ok-array.ensures c.loop-a.invariant

pub returns : goal.returns
returns c =
    ended (λ xs. text (flat_map (λ a. array (bare_array a)) xs)) c.args.arrays.now c.loop-a.a-index (c.args.out.now.items ++ text (flat_map (λ a. array (bare_array a)) c.args.arrays.now)) c.loop-a.out.items
    c.loop-a-test.false refl c.loop-a.invariant
