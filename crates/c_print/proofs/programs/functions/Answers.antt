use Rattle.std.proofs.Common.{◌++◌, refl}
use Rattle.std.specs.List.{flat_map}
use Rattle.c_tree.specs.Lined.{bare_function, function_of}
use Rattle.c_canonical.specs.Programs.{function}
use Rattle.c_layout.specs.Layout.{text}
use Rattle.c_print.proofs.Loops.{ended}
use Rattle.c_print.proofs.ProgramTexts.{next_line}
use Rattle.c_print.proofs.programs.functions.Goals as goal

pub loop-f-preserved : goal.loop-f-preserved
loop-f-preserved c =
    next_line (λ f. function (bare_function (function_of f))) c.args.fs.now c.loop-f.f-index c.f-item.result (c.args.out.now.items ++ text (flat_map (λ f. function (bare_function (function_of f))) c.args.fs.now)) c.loop-f.out.items c.function.new.out.items
    c.loop-f-test.true c.f-item.is c.in_ok-function.ensures c.loop-f.invariant

pub returns : goal.returns
returns c =
    ended (λ xs. text (flat_map (λ f. function (bare_function (function_of f))) xs)) c.args.fs.now c.loop-f.f-index (c.args.out.now.items ++ text (flat_map (λ f. function (bare_function (function_of f))) c.args.fs.now)) c.loop-f.out.items
    c.loop-f-test.false refl c.loop-f.invariant
