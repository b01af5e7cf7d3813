use Rattle.std.proofs.Common.{◌<◌, ◌≢◌, None, length, sym, subst, ◌∙◌, arith, get_or-set_other, get_or-set_same, below_more}
use Rattle.std.proofs.lemmas.List.{length-set}
use Rattle.c_meaning.specs.Shown.{shown}
use Rattle.c_steps.specs.Model.{state_of}
use Rattle.c_steps.specs.Blocks.{IsEntry}
use Rattle.c_steps.proofs.state.State.blocking.Goals as goal

pub loop-t-preserved : goal.loop-t-preserved
loop-t-preserved c =
    let p = shown c.args.p.now in let s = state_of c.args.p.now c.args.self.now in
    let holders = c.loop-t.holders in
    let before = c.loop-t.invariant in
    let lt : c.loop-t.t < length holders = omega (arith, before.0) in (
      length-set holders c.loop-t.t c.entry.result ∙ before.0,
      below_more _ _
          (λ k h. let ne : k ≢ c.loop-t.t = omega arith in subst (IsEntry p s k) (sym (get_or-set_other holders c.loop-t.t k c.entry.result None ne)) (before.1 k h))
          (subst (IsEntry p s c.loop-t.t) (sym (get_or-set_same holders c.loop-t.t c.entry.result None lt)) c.entry.ensures),
    )
