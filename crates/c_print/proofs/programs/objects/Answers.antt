use Rattle.std.proofs.Common.{◌++◌, refl}
use Rattle.std.specs.List.{flat_map}
use Rattle.c_tree.specs.Lined.{bare_object}
use Rattle.c_canonical.specs.Programs.{object}
use Rattle.c_layout.specs.Layout.{text}
use Rattle.c_print.proofs.Loops.{ended}
use Rattle.c_print.proofs.ProgramTexts.{next_line}
use Rattle.c_print.proofs.programs.objects.Goals as goal

pub loop-o-preserved : goal.loop-o-preserved
loop-o-preserved c =
    next_line (λ o. object c.args.kind.now c.args.initialiser.now (bare_object o)) c.args.os.now c.loop-o.o-index c.o-item.result (c.args.out.now.items ++ text (flat_map (λ o. object c.args.kind.now c.args.initialiser.now (bare_object o)) c.args.os.now)) c.loop-o.out.items c.object.new.out.items
    c.loop-o-test.true c.o-item.is c.in_ok-object.ensures c.loop-o.invariant

pub returns : goal.returns
returns c =
    ended (λ xs. text (flat_map (λ o. object c.args.kind.now c.args.initialiser.now (bare_object o)) xs)) c.args.os.now c.loop-o.o-index (c.args.out.now.items ++ text (flat_map (λ o. object c.args.kind.now c.args.initialiser.now (bare_object o)) c.args.os.now)) c.loop-o.out.items
    c.loop-o-test.false refl c.loop-o.invariant
