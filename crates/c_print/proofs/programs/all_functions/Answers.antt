use Rattle.std.proofs.Common.{◌++◌, map, sym, ap, ◌∙◌}
use Rattle.std.specs.List.{flat_map}
use Rattle.c_layout.specs.Layout.{text}
use Rattle.c_tree.specs.Lined.{bare_function, function_of}
use Rattle.c_canonical.specs.Programs.{function}
use Rattle.c_print.proofs.Loops.{mapped}
use Rattle.c_print.proofs.programs.all_functions.Goals as goal

pub returns : goal.returns
returns c =
    let fs = c.args.p.now.functions in
    c.in_ok-functions.ensures ∙ ap (λ xs. c.args.out.now.items ++ text (flat_map (λ f. function (bare_function (function_of f))) xs)) c.as_slice.ensures
    ∙ ap (λ items. c.args.out.now.items ++ text items) (sym (mapped function bare_function (map function_of fs) ∙ mapped (λ f. function (bare_function f)) function_of fs))
