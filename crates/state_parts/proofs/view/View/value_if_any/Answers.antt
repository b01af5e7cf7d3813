use Rattle.std.proofs.Common.{◌≡◌, rules, w32, to_z, of_z, Some, sym, ap, ◌∙◌}
use Rattle.std.specs.Prelude.{option_map}
use Rattle.c_tree.specs.Expressions.{value_of}
use Rattle.c_meaning.specs.Shown.{shown}
use Rattle.c_meaning.specs.Places.{evaluated_if_any}
use Rattle.c_frames.specs.Frames.{locals_in}
use Rattle.state_parts.proofs.view.View.value_if_any.Goals as goal

pub returns-in-None-value : goal.returns-in-None-value
returns-in-None-value c s e =
    let view = c.args.self.now in
    ap (option_map (λ z. Some z)) (c.in-None-value.ensures s e) ∙ ap (λ o. evaluated_if_any (shown view.program.now) s (locals_in view.names.now view.frame.now) (value_of o)) (sym c.in-Some.is)

pub returns-in-Some-value : goal.returns-in-Some-value
returns-in-Some-value c s e =
    let view = c.args.self.now in
    let same : to_z w32 (of_z w32 c.in-Some-value.z) ≡ c.in-Some-value.z = search rules in
    ap (λ z. Some (Some z)) same ∙ ap (option_map (λ z. Some z)) (c.in-Some-value.ensures s e) ∙ ap (λ o. evaluated_if_any (shown view.program.now) s (locals_in view.names.now view.frame.now) (value_of o)) (sym c.in-Some.is)
