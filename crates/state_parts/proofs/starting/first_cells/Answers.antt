use Rattle.std.proofs.Common.{◌++◌, map, flat_map, ap, ◌∙◌}
use Rattle.c_tree.specs.Lined.{bare_cell}
use Rattle.state_parts.specs.Starting.{bare_values}
use Rattle.state_parts.proofs.Starts.{values_are, arrays_are}
use Rattle.state_parts.proofs.starting.first_cells.Goals as goal

pub returns : goal.returns
returns c =
    let p = c.args.p.now in
    c.in_ok-push_arrays.ensures
    ∙ ap (λ l. l ++ flat_map bare_values c.as_slice-2.result.now) (c.in_ok-all.ensures ∙ ap (map (λ c. c.value)) c.as_slice.ensures ∙ values_are p.ints)
    ∙ ap (λ l. map (λ c. c.value) (map bare_cell p.ints) ++ l) (ap (flat_map bare_values) c.as_slice-2.ensures ∙ arrays_are p.arrays)
