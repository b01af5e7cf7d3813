use Rattle.std.proofs.Common.{◌∷◌, None, refl, sym, ap, ◌∙◌}
use Rattle.std.specs.Prelude.{if◌then◌else◌}
use Rattle.c_tree.specs.Bare.{Signal}
use Rattle.c_tree.specs.Expressions.{place_of}
use Rattle.c_meaning.specs.declared.Did.TheVariants as did
use Rattle.c_meaning.specs.State.{frame, goes_on}
use Rattle.c_meaning.specs.Outcome.{Done, NotEnabled}
use Rattle.c_meaning.specs.Waits.{signalled}
use Rattle.c_steps.specs.Model.{state_of}
use Rattle.c_steps.proofs.state.State.signal.Goals as goal

pub returns-in_default-clause-is : goal.returns-in_default-clause-is
returns-in_default-clause-is c at =
    (ap (signalled (state_of c.args.p.now c.args.self.now) c.args.t (frame at.locals at.rest ∷ at.more)) (sym (c.condition_at.ensures (Signal (place_of c.args.cond.now)) at) ∙ c.in_default.is), refl)

pub returns-then-is_awaited-clause-is : goal.returns-then-is_awaited-clause-is
returns-then-is_awaited-clause-is c at =
    let s = state_of c.args.p.now c.args.self.now in
    let frames = frame at.locals at.rest ∷ at.more in (
      ap (signalled s c.args.t frames) (sym (c.condition_at.ensures (Signal (place_of c.args.cond.now)) at) ∙ c.in-Some.is)
          ∙ ap (λ b. if b then NotEnabled else Done (did.Signal None) (goes_on s c.args.t frames)) (sym (c.is_awaited.ensures c.args.p.now) ∙ c.if-is_awaited.true),
      refl,
    )

pub returns-clause-is : goal.returns-clause-is
returns-clause-is c at =
    let act = Signal (place_of c.args.cond.now) in
    let s = state_of c.args.p.now c.args.self.now in
    let frames = frame at.locals at.rest ∷ at.more in
    ap (signalled s c.args.t frames) (sym (c.condition_at.ensures act at) ∙ c.in-Some.is)
    ∙ ap (λ b. if b then NotEnabled else Done (did.Signal None) (goes_on s c.args.t frames)) (sym (c.is_awaited.ensures c.args.p.now) ∙ c.if-is_awaited.false)
    ∙ ap (Done (did.Signal None)) (sym (c.go_on.ensures.goes act at))
