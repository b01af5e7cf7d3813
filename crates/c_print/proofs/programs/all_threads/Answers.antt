use Rattle.std.proofs.Common.{◌++◌, sym, ap, ◌∙◌}
use Rattle.std.specs.List.{flat_map}
use Rattle.c_layout.specs.Layout.{text}
use Rattle.c_tree.specs.Lined.{bare_slot}
use Rattle.c_canonical.specs.Programs.{slot}
use Rattle.c_print.proofs.Loops.{mapped}
use Rattle.c_print.proofs.programs.all_threads.Goals as goal

pub returns : goal.returns
returns c =
    c.in_ok-slots.ensures ∙ ap (λ xs. c.args.out.now.items ++ text (flat_map (λ x. slot (bare_slot x)) xs)) c.as_slice.ensures
    ∙ ap (λ items. c.args.out.now.items ++ text items) (sym (mapped slot bare_slot c.args.p.now.threads))
