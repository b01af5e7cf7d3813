use Rattle.std.proofs.Common.{◌≡◌, ◌++◌, [], Some, sym, ap, ◌∙◌, w32, to_z, of_z, rules}
use Rattle.std.specs.Prelude.{option_map}
use Rattle.std.proofs.lemmas.List.{append-nil}
use Rattle.std.proofs.lemmas.Result.{IfOk-weaker}
use Rattle.c_tree.specs.Expressions.{exprs_of}
use Rattle.c_meaning.specs.Places.{in_front, evaluated_all}
use Rattle.c_meaning.specs.Shown.{shown}
use Rattle.c_frames.specs.Frames.{locals_in}
use Rattle.state_parts.proofs.InFront.{one_more, no_length}
use Rattle.state_parts.proofs.arguments.+more_values.Goals as goal

pub returns-in_default : goal.returns-in_default
returns-in_default t c s e =
    let view = c.args.view.now in
    let all = evaluated_all (shown view.program.now) s (locals_in view.names.now view.frame.now) in
    let none : c.args.es.now ≡ [] = no_length c.args.es.now c.in_default.ensures.cases in
    sym (ap (λ es. option_map (λ zs. c.args.all.items ++ zs) (all (exprs_of es))) none ∙ ap (λ l. Some l) (append-nil c.args.all.items))

pub returns-in-None : goal.returns-in-None
returns-in-None t c s e =
    let view = c.args.view.now in
    let all = evaluated_all (shown view.program.now) s (locals_in view.names.now view.frame.now) in
    sym (ap (λ es. option_map (λ zs. c.args.all.items ++ zs) (all (exprs_of es))) c.in-Some.ensures.cases.0
    ∙ ap (λ v. option_map (λ zs. c.args.all.items ++ zs) (in_front v (all (exprs_of c.in-Some.rest.now)))) (sym (c.in-None.ensures s e)))

pub returns-in_ok-push-in-Some-value : goal.returns-in_ok-push-in-Some-value
returns-in_ok-push-in-Some-value t c =
    let view = c.args.view.now in
    let z = to_z w32 (of_z w32 c.in-Some-value.z) in
    IfOk-weaker c.more_values.result _ _ (λ values h s e.
    let all = evaluated_all (shown view.program.now) s (locals_in view.names.now view.frame.now) in
    let same : z ≡ c.in-Some-value.z = search rules in
    h s e ∙ sym (
    ap (λ es. option_map (λ zs. c.args.all.items ++ zs) (all (exprs_of es))) c.in-Some.ensures.cases.0
    ∙ ap (λ v. option_map (λ zs. c.args.all.items ++ zs) (in_front v (all (exprs_of c.in-Some.rest.now)))) (sym (c.in-Some-value.ensures s e))
    ∙ ap (λ z. option_map (λ zs. c.args.all.items ++ zs) (in_front (Some z) (all (exprs_of c.in-Some.rest.now)))) (sym same)
    ∙ one_more c.args.all.items z (all (exprs_of c.in-Some.rest.now))
    ∙ ap (λ l. option_map (λ zs. l ++ zs) (all (exprs_of c.in-Some.rest.now))) (sym c.in_ok-push-in-Some-value.ensures.items)))
    c.more_values.ensures
