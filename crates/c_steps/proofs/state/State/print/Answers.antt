use Rattle.std.proofs.Common.{◌≡◌, ◌∷◌, ◌++◌, refl, sym, ap, ◌∙◌}
use Rattle.std.specs.Prelude.{option_map}
use Rattle.c_tree.specs.Bare as bare
use Rattle.c_tree.specs.Bare.{Cons}
use Rattle.c_tree.specs.Expressions.{exprs_of}
use Rattle.c_meaning.specs.State as run
use Rattle.c_meaning.specs.Printing.{printed, formatted}
use Rattle.c_meaning.specs.Outcome.{Done}
use Rattle.c_meaning.specs.declared.Did.TheVariants.{Print}
use Rattle.c_steps.specs.Model.{state_of}
use Rattle.c_steps.specs.Standing.{At}
use Rattle.c_steps.proofs.state.State.print.Goals as goal

pub returns-in_default-values-clause-is : goal.returns-in_default-values-clause-is
returns-in_default-values-clause-is c at =
    let p = c.args.p.now in let s = c.args.self.now in
    let act = bare.Print c.args.format.now (exprs_of c.args.args.now) in
    let values = sym (c.in-Ok.ensures act at) ∙ ap (option_map (λ v. v.items)) c.in_default-values.is in
    (ap (printed (state_of p s) c.args.t (run.frame at.locals at.rest ∷ at.more) c.args.format.now) values, refl)

pub returns-clause-is : goal.returns-clause-is
returns-clause-is c at =
    let p = c.args.p.now in let s = c.args.self.now in
    let act = bare.Print c.args.format.now (exprs_of c.args.args.now) in
    let frames = run.frame at.locals at.rest ∷ at.more in
    let values = sym (c.in-Ok.ensures act at) ∙ ap (option_map (λ v. v.items)) c.in-Some.is in
    let out : c.extend_from_slice.new.self.items ≡ s.output.items ++ formatted c.args.format.now c.in-Some.values.items =
    c.in-Ok-extend_from_slice.ensures.items
    ∙ ap (λ l. s.output.items ++ l) (c.as_slice-2.ensures.value ∙ c.in-Ok-formatted.ensures ∙ ap (formatted c.args.format.now) c.as_slice.ensures.value) in
    let moved : At p (record s { output = c.extend_from_slice.new.self }) c.args.t act =
    record { thread = at.thread; there = at.there; runs = at.runs; locals = at.locals; rest = at.rest; more = at.more; stands = at.stands } in
    ap (printed (state_of p s) c.args.t frames c.args.format.now) values
    ∙ ap (λ o. Done Print (record (run.goes_on (state_of p s) c.args.t frames) { output = o })) (sym out)
    ∙ ap (λ x. Done Print x) (sym (c.go_on.ensures.goes act moved))
