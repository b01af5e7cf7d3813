use Rattle.std.proofs.Common.{◌++◌, map, refl}
use Rattle.c_canonical.specs.Expressions.{followed}
use Rattle.c_canonical.specs.Programs.{parameter}
use Rattle.c_layout.specs.Layout.{text}
use Rattle.c_print.proofs.Loops.{ended}
use Rattle.c_print.proofs.ProgramTexts.{next_item}
use Rattle.c_print.proofs.programs.following_parameters.Goals as goal

pub loop-name-preserved : goal.loop-name-preserved
loop-name-preserved c =
    next_item (parameter c.args.kind) c.args.names.now c.loop-name.name-index c.name-item.result c.name-item.result (c.args.out.now.items ++ text (followed (map (parameter c.args.kind) c.args.names.now))) c.loop-name.out.items c.following_parameter.new.out.items
    c.loop-name-test.true c.name-item.is c.in_ok-following_parameter.ensures c.loop-name.invariant

pub returns : goal.returns
returns c =
    ended (λ xs. text (followed (map (parameter c.args.kind) xs))) c.args.names.now c.loop-name.name-index (c.args.out.now.items ++ text (followed (map (parameter c.args.kind) c.args.names.now))) c.loop-name.out.items
    c.loop-name-test.false refl c.loop-name.invariant
