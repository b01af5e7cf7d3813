use Rattle.std.proofs.Common.{◌++◌, sym, ap, ◌∙◌}
use Rattle.std.specs.List.{flat_map}
use Rattle.c_layout.specs.Layout.{text}
use Rattle.c_tree.specs.Lined.{bare_object}
use Rattle.c_canonical.specs.Programs.{condition}
use Rattle.c_print.proofs.Loops.{mapped}
use Rattle.c_print.proofs.programs.all_conditions.Goals as goal

pub returns : goal.returns
returns c =
    c.in_ok-objects.ensures ∙ ap (λ xs. c.args.out.now.items ++ text (flat_map (λ x. condition (bare_object x)) xs)) c.as_slice.ensures
    ∙ ap (λ items. c.args.out.now.items ++ text items) (sym (mapped condition bare_object c.args.p.now.conds))
