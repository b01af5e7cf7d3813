use Rattle.std.proofs.Common.{ap, ◌∙◌, not, map}
use Rattle.std.specs.Prelude.{flat_map}
use Rattle.std.specs.List.{list_any}
use Rattle.std.proofs.Common.{List}
use Rattle.c_tree.specs.declared.program.Function.{Function}
use Rattle.c_tree.specs.Lined.{function_of, program_of}
use Rattle.c_rules.specs.declared.rule.Rule.TheVariants.{NoMain}
use Rattle.c_rules.specs.Sites.{is_main}
use Rattle.c_acts.specs.First.{noted_all, break_if}
use Rattle.c_check.specs.Outer.{array_breaks, object_breaks, slot_breaks, length_breaks, capacity_breaks}
use Rattle.c_check.proofs.Outers.{noted_seven}
use Rattle.c_check.proofs.outer.check_parts.Goals as goal

pub returns : goal.returns
returns c =
    let p = c.args.p.now in
    let none = λ (fs : List Function). break_if (not (list_any is_main (map function_of fs))) NoMain p.end_line in
    noted_seven c.args.first.now c.check_arrays.new.first c.check_objects.new.first c.check_objects-2.new.first c.check_slots.new.first c.check_long_names.new.first
    c.check_capacities.new.first c.note_if.new.first
    (flat_map array_breaks p.arrays) (flat_map object_breaks p.mutexes) (flat_map object_breaks p.conds) (flat_map slot_breaks p.threads)
    (flat_map (length_breaks c.args.mode) (map function_of p.functions)) (capacity_breaks c.args.mode (program_of p)) (none p.functions)
    (c.check_arrays.ensures ∙ ap (λ x. noted_all c.args.first.now (flat_map array_breaks x)) c.as_slice.ensures)
    (c.check_objects.ensures ∙ ap (λ x. noted_all c.check_arrays.new.first (flat_map object_breaks x)) c.as_slice-2.ensures)
    (c.check_objects-2.ensures ∙ ap (λ x. noted_all c.check_objects.new.first (flat_map object_breaks x)) c.as_slice-3.ensures)
    (c.check_slots.ensures ∙ ap (λ x. noted_all c.check_objects-2.new.first (flat_map slot_breaks x)) c.as_slice-4.ensures)
    (c.check_long_names.ensures ∙ ap (λ x. noted_all c.check_slots.new.first (flat_map (length_breaks c.args.mode) (map function_of x))) c.as_slice-5.ensures)
    c.check_capacities.ensures
    (c.note_if.ensures ∙ ap (λ b. noted_all c.check_capacities.new.first (break_if (not b) NoMain p.end_line)) c.has_main.ensures
    ∙ ap (λ x. noted_all c.check_capacities.new.first (none x)) c.as_slice-6.ensures)
