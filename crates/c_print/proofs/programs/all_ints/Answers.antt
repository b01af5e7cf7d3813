use Rattle.std.proofs.Common.{◌++◌, sym, ap, ◌∙◌}
use Rattle.std.specs.List.{flat_map}
use Rattle.c_layout.specs.Layout.{text}
use Rattle.c_tree.specs.Lined.{bare_cell}
use Rattle.c_canonical.specs.Programs.{cell}
use Rattle.c_print.proofs.Loops.{mapped}
use Rattle.c_print.proofs.programs.all_ints.Goals as goal

pub returns : goal.returns
returns c =
    c.in_ok-cells.ensures ∙ ap (λ xs. c.args.out.now.items ++ text (flat_map (λ x. cell (bare_cell x)) xs)) c.as_slice.ensures
    ∙ ap (λ items. c.args.out.now.items ++ text items) (sym (mapped cell bare_cell c.args.p.now.ints))
