use Rattle.std.proofs.Common.{◌≡◌, [], ◌∷◌, ◌++◌, length, drop, sym, ap, ◌∙◌, subst, arith}
use Rattle.std.proofs.lemmas.List.{length-append}
use Rattle.std.proofs.lemmas.Option.{slice_get-get_or}
use Rattle.std.specs.Prelude.{slice_get}
use Rattle.c_check.specs.Tables.{numbers}
use Rattle.c_meaning.specs.Shown.{shown}
use Rattle.c_steps.specs.Model.{state_of}
use Rattle.schedule_runner.specs.Acts.{act_line}
use Rattle.schedule_runner.specs.Traces.{IsFollowed, appended}
use Rattle.schedule_runner.proofs.Follows.{follows_more}
use Rattle.schedule_runner.proofs.runs.follow.Goals as goal

pub loop-k-preserved : goal.loop-k-preserved
loop-k-preserved c =
    let p = c.args.p.now in
    let n = numbers c.args.table.now in
    let old = state_of p c.loop-k.state in
    let new = state_of p c.step.new.self in
    let printed : c.behind-printed.result.now ≡ appended old new =
    c.behind-printed.ensures ∙ ap (drop _) (c.output.ensures p) ∙ ap (λ before. drop before new.output) (ap length (c.output-before.ensures p)) in
    let pushed = c.in_ok-push-in-Done.ensures.ok ∙ ap (λ line. c.loop-k.acts ++ line ∷ []) (c.in_ok-act_line-in-Done.ensures ∙ ap (act_line n _ c.in-Done.did) printed) in
    let at = ap (slice_get c.args.events.now) c.loop-k.invariant.1 ∙ slice_get-get_or c.args.events.now c.loop-k.k _ c.loop-k-test.true in (
      c.in-Done.ensures.kept,
      omega (arith, ap length c.in_ok-push-in-Done.ensures.ok, length-append c.loop-k.acts (c.in_ok-act_line-in-Done.field-0 ∷ []), c.loop-k.invariant.1),
      subst (λ lines. IsFollowed (shown p) n (state_of p c.args.state.now) c.args.events.now lines new) (sym pushed) (follows_more (shown p) n (state_of p c.args.state.now) old new c.args.events.now c.loop-k.acts _ c.in-Done.did c.loop-k.invariant.2 at c.in-Done.ensures.is),
    )
