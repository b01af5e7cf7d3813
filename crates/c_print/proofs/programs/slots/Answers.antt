use Rattle.std.proofs.Common.{◌++◌, refl}
use Rattle.std.specs.List.{flat_map}
use Rattle.c_tree.specs.Lined.{bare_slot}
use Rattle.c_canonical.specs.Programs.{slot}
use Rattle.c_layout.specs.Layout.{text}
use Rattle.c_print.proofs.Loops.{ended}
use Rattle.c_print.proofs.ProgramTexts.{next_line}
use Rattle.c_print.proofs.programs.slots.Goals as goal

pub loop-t-preserved : goal.loop-t-preserved
loop-t-preserved c =
    next_line (λ t. slot (bare_slot t)) c.args.ts.now c.loop-t.t-index c.t-item.result (c.args.out.now.items ++ text (flat_map (λ t. slot (bare_slot t)) c.args.ts.now)) c.loop-t.out.items c.slot.new.out.items
    c.loop-t-test.true c.t-item.is c.in_ok-slot.ensures c.loop-t.invariant

pub returns : goal.returns
returns c =
    ended (λ xs. text (flat_map (λ t. slot (bare_slot t)) xs)) c.args.ts.now c.loop-t.t-index (c.args.out.now.items ++ text (flat_map (λ t. slot (bare_slot t)) c.args.ts.now)) c.loop-t.out.items
    c.loop-t-test.false refl c.loop-t.invariant
