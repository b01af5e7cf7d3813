use Rattle.std.proofs.Common.{◌∷◌, List, refl, sym, ap, ◌∙◌}
use Rattle.std.specs.Prelude.{ℤ, option_map}
use Rattle.c_tree.specs.Bare as bare
use Rattle.c_tree.specs.Bare.{Cons}
use Rattle.c_tree.specs.Expressions.{exprs_of}
use Rattle.c_tree.specs.Numbering.{function_named}
use Rattle.c_meaning.specs.Shown.{shown}
use Rattle.c_meaning.specs.State as run
use Rattle.c_meaning.specs.Calls.{called, passed}
use Rattle.c_meaning.specs.Outcome.{Done}
use Rattle.c_meaning.specs.declared.Did.TheVariants.{Step}
use Rattle.state_parts.specs.Threads.{frame_in}
use Rattle.c_steps.specs.Model.{state_of}
use Rattle.c_steps.proofs.BelowNewest.{runs_at}
use Rattle.c_steps.proofs.Rows.{no_values, no_call, a_call}
use Rattle.c_steps.proofs.state.State.call.Goals as goal

pub returns-in_default-values-clause-is : goal.returns-in_default-values-clause-is
returns-in_default-values-clause-is c target at =
    let p = c.args.p.now in let s = c.args.self.now in
    let act = bare.Call target c.args.function.now (exprs_of c.args.args.now) in
    let frames = run.frame at.locals (Cons act at.rest) ∷ at.more in
    let f = function_named (shown p) c.args.function.now in
    let values = sym (c.in-Ok.ensures act at) ∙ ap (option_map (λ v. v.items)) c.in_default-values.is in
    (ap (called (state_of p s) c.args.t frames f) values ∙ no_values (state_of p s) c.args.t frames f, refl)

pub returns-in_default-made-clause-is : goal.returns-in_default-made-clause-is
returns-in_default-made-clause-is c target at =
    let p = c.args.p.now in let s = c.args.self.now in
    let act = bare.Call target c.args.function.now (exprs_of c.args.args.now) in
    let frames = run.frame at.locals (Cons act at.rest) ∷ at.more in
    let f = function_named (shown p) c.args.function.now in
    let values = sym (c.in-Ok.ensures act at) ∙ ap (option_map (λ v. v.items)) c.in-Some.is in (
      ap (called (state_of p s) c.args.t frames f) values ∙ no_call (state_of p s) c.args.t frames f c.in-Some.values.items (ap (option_map (frame_in p s.tables)) (sym c.in_default-made.is) ∙ c.in-Ok-make_frame.ensures.is
          ∙ ap (λ n. option_map (λ f. run.frame (passed f.params c.as_slice-2.result.now) f.body) (function_named (shown p) n)) c.as_slice.ensures
          ∙ ap {A = List ℤ} (λ vs. option_map (λ f. run.frame (passed f.params vs) f.body) f) c.as_slice-2.ensures.value),
      refl,
    )

pub returns-in-Ok-push-clause-is : goal.returns-in-Ok-push-clause-is
returns-in-Ok-push-clause-is c target at =
    let p = c.args.p.now in let s = c.args.self.now in
    let act = bare.Call target c.args.function.now (exprs_of c.args.args.now) in
    let frames = run.frame at.locals (Cons act at.rest) ∷ at.more in
    let f = function_named (shown p) c.args.function.now in
    let x = frame_in p s.tables c.in-Some-made.x in
    let values = sym (c.in-Ok.ensures act at) ∙ ap (option_map (λ v. v.items)) c.in-Some.is in
    ap (called (state_of p s) c.args.t frames f) values
    ∙ a_call (state_of p s) c.args.t frames f c.in-Some.values.items x (ap (option_map (frame_in p s.tables)) (sym c.in-Some-made.is) ∙ c.in-Ok-make_frame.ensures.is
    ∙ ap (λ n. option_map (λ f. run.frame (passed f.params c.as_slice-2.result.now) f.body) (function_named (shown p) n)) c.as_slice.ensures
    ∙ ap {A = List ℤ} (λ vs. option_map (λ f. run.frame (passed f.params vs) f.body) f) c.as_slice-2.ensures.value)
    ∙ ap (λ n. Done Step n) (sym (c.in-Ok-push.ensures.pushes refl p (run.frame at.locals (Cons act at.rest)) at.more (runs_at p s c.args.t act at)))
