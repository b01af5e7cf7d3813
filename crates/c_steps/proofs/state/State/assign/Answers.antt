use Rattle.std.proofs.Common.{◌≡◌, rules, w32, to_z, of_z, Some, refl, sym, ap, ◌∙◌}
use Rattle.c_tree.specs.Expressions.{expr_of}
use Rattle.c_meaning.specs.Shown.{shown}
use Rattle.c_meaning.specs.Setting.{assigned, set}
use Rattle.c_meaning.specs.Places.{evaluated}
use Rattle.c_meaning.specs.Outcome.{Done}
use Rattle.c_meaning.specs.declared.Did.TheVariants.{Step}
use Rattle.state_parts.specs.Onward.{onward}
use Rattle.c_steps.specs.Model.{state_of}
use Rattle.state_parts.specs.Targets.{shown_target}
use Rattle.c_steps.proofs.Rows.{may_target}
use Rattle.c_steps.proofs.state.State.assign.Goals as goal

pub returns-in_default-clause-is : goal.returns-in_default-clause-is
returns-in_default-clause-is c act at =
    let s = state_of c.args.p.now c.args.self.now in
    (ap (λ target. assigned s c.args.t at.locals (onward c.args.to act at.rest) at.more target (evaluated (shown c.args.p.now) s at.locals (expr_of c.args.e.now))) (sym (c.in_default.ensures.is act at)), refl)

pub returns-in_default-evaluated-clause-is : goal.returns-in_default-evaluated-clause-is
returns-in_default-evaluated-clause-is c act at =
    let s = state_of c.args.p.now c.args.self.now in (
      ap (λ target. assigned s c.args.t at.locals (onward c.args.to act at.rest) at.more target (evaluated (shown c.args.p.now) s at.locals (expr_of c.args.e.now))) (sym (c.in-Some.ensures.is act at))
          ∙ ap (assigned s c.args.t at.locals (onward c.args.to act at.rest) at.more (Some (shown_target c.in-Some.target))) (sym (c.in_default-evaluated.ensures act at)),
      refl,
    )

pub set-requires-clause-may : goal.set-requires-clause-may
set-requires-clause-may c = may_target c.args.self.now c.args.t c.args.place.now.name c.in-Some.target c.requires.may c.in-Some.ensures.named

pub returns-clause-is : goal.returns-clause-is
returns-clause-is c act at =
    let same : to_z w32 (of_z w32 c.in-Some-evaluated.z) ≡ c.in-Some-evaluated.z = search rules in
    let s = state_of c.args.p.now c.args.self.now in
    ap (λ target. assigned s c.args.t at.locals (onward c.args.to act at.rest) at.more target (evaluated (shown c.args.p.now) s at.locals (expr_of c.args.e.now))) (sym (c.in-Some.ensures.is act at))
    ∙ ap (assigned s c.args.t at.locals (onward c.args.to act at.rest) at.more (Some (shown_target c.in-Some.target))) (sym (c.in-Some-evaluated.ensures act at))
    ∙ ap (λ z. Done Step (set s c.args.t at.locals (onward c.args.to act at.rest) at.more (shown_target c.in-Some.target) z)) (sym same)
    ∙ ap (λ x. Done Step x) (sym (c.set.ensures.goes act at))
