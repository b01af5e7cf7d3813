use Rattle.std.proofs.Common.{◌≡◌, ◌∷◌, ◌<◌, [], Vec, Global, Option, IfSome, length, Some, option_map, sym, ap, ◌∙◌, subst, arith}
use Rattle.std.specs.Prelude.{slice_get}
use Rattle.std.proofs.lemmas.Option.{slice_get_within}
use Rattle.c_tree.specs.Expressions.{expr_of}
use Rattle.c_tree.specs.Numbering.{function_named}
use Rattle.c_tree.specs.Values.{constant}
use Rattle.c_meaning.specs.Shown.{shown}
use Rattle.c_meaning.specs.State as run
use Rattle.c_meaning.specs.State.{frame}
use Rattle.c_meaning.specs.Outcome.{Done}
use Rattle.c_meaning.specs.declared.Did.TheVariants as did
use Rattle.c_meaning.specs.Threads.{created_in, first_frame}
use Rattle.state_parts.specs.declared.tables.Tables.{Tables}
use Rattle.state_parts.specs.Valid.{AreFramesIn}
use Rattle.std.proofs.lemmas.List.{length-map}
use Rattle.c_frames.specs.declared.frames.Frame.{Frame}
use Rattle.state_parts.specs.Threads.{status_of, status_with, frames_in}
use Rattle.c_steps.specs.Model.{state_of}
use Rattle.c_steps.proofs.Effects.{as_many}
use Rattle.c_steps.proofs.Wakings.{status_there}
use Rattle.state_parts.proofs.Making.{created_new}
use Rattle.c_steps.proofs.state.State.create_thread.Goals as goal

pub returns-in-Ok-Some-clause-is : goal.returns-in-Ok-Some-clause-is
returns-in-Ok-Some-clause-is c act at =
    let p = c.args.p.now in let s = c.args.self.now in
    let frames = frame at.locals at.rest ∷ at.more in
    let begin = first_frame (function_named (shown p) c.args.name.now) (constant (expr_of c.args.arg.now)) in
    let begins = frames_in p s.tables c.in-Ok-Some.frames.items in
    let made : Some begins ≡ option_map (λ f. f ∷ []) begin = ap (option_map (λ (v : Vec Frame Global). frames_in p s.tables v.items)) (sym c.in-Ok-Some.field-0-is) ∙ c.in-Ok-Some.ensures.is in
    let found = status_there p s c.args.u c.in-Some-NotBegun.field-0 (sym c.doing.ensures ∙ c.in-Some-NotBegun.is) in
    let new : slice_get (state_of p s).threads c.args.u ≡ Some run.NotBegun = found.1 ∙ ap (λ d. Some (status_with d found.0)) c.in-Some-NotBegun.field-0-is in
    let goes = c.go_on.ensures.goes act at in
    let here : c.args.u < length (state_of p s).threads = slice_get_within (state_of p s).threads c.args.u run.NotBegun new in
    let many = length-map s.threads.items (status_of p s.tables) in
    let still = as_many p s c.go_on.new.self c.args.t (run.Running frames) goes in
    let begun = c.begin.ensures.is p (omega (arith, here, many, still)) in
    ap (λ status. created_in (state_of p s) c.args.t frames c.args.u status begin) new
    ∙ created_new (state_of p s) c.args.t c.args.u frames begins begin made
    ∙ ap (Done (did.Create c.args.u)) (sym (begun ∙ ap (λ (tables : Tables). run.with_status (state_of p c.go_on.new.self) c.args.u (run.Running (frames_in p tables c.in-Ok-Some.frames.items))) c.go_on.ensures.tables
    ∙ ap (λ before. run.with_status before c.args.u (run.Running begins)) goes))

pub returns-in-Ok-Some-clause-kept : goal.returns-in-Ok-Some-clause-kept
returns-in-Ok-Some-clause-kept c =
    let p = c.args.p.now in
    let are = subst (λ (made : Option (Vec Frame Global)). IfSome made (λ frames. AreFramesIn p c.args.self.now.tables frames.items)) c.in-Ok-Some.field-0-is c.in-Ok-Some.ensures.valid in
    c.begin.ensures.kept p c.go_on.ensures.kept (subst (λ (tables : Tables). AreFramesIn p tables c.in-Ok-Some.frames.items) (sym c.go_on.ensures.tables) are)
