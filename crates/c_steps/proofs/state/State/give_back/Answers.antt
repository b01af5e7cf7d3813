use Rattle.std.proofs.Common.{◌≡◌, ◌∷◌, rules, w32, to_z, of_z, Some, refl, sym, ap, subst, ◌∙◌}
use Rattle.c_tree.specs.Bare.{Cons}
use Rattle.c_tree.specs.Expressions.{target_of}
use Rattle.c_meaning.specs.Shown.{shown}
use Rattle.c_meaning.specs.State as run
use Rattle.c_meaning.specs.Calls.{result_set}
use Rattle.c_meaning.specs.Setting.{assigned, set}
use Rattle.c_meaning.specs.Outcome.{Done}
use Rattle.c_meaning.specs.declared.Did.TheVariants.{Step}
use Rattle.c_steps.specs.Model.{state_of}
use Rattle.state_parts.specs.Targets.{shown_target, IsPlaceIfAny}
use Rattle.c_steps.specs.Running.{MaySetBelow}
use Rattle.c_steps.proofs.Rows.{may_target, goes_twice, set_after, at_of}
use Rattle.c_steps.proofs.state.State.give_back.Goals as goal

pub returns-in_default-clause-is : goal.returns-in_default-clause-is
returns-in_default-clause-is c newest locals call rest more r =
    let p = c.args.p.now in let s = state_of c.args.p.now c.args.self.now in let t = c.args.t in
    let next = at_of p c.leave.new.self t locals call rest more (c.leave.ensures.runs p newest (run.frame locals (Cons call rest)) more r) in
    ap (λ target. result_set (shown p) s t locals rest more (target_of target) c.args.gives) c.in_default.is
    ∙ ap (λ x. Done Step x) (sym (c.go_on.ensures.goes call next
    ∙ ap (λ x. run.goes_on x t (run.frame locals rest ∷ more)) (c.leave.ensures.leaves p newest (run.frame locals (Cons call rest) ∷ more) r)
    ∙ goes_twice s t (run.frame locals (Cons call rest) ∷ more) (run.frame locals rest ∷ more)))

pub returns-in_default-target_below-clause-is : goal.returns-in_default-target_below-clause-is
returns-in_default-target_below-clause-is c newest locals call rest more r =
    let p = c.args.p.now in let s = state_of c.args.p.now c.args.self.now in let t = c.args.t in (
      ap (λ target. result_set (shown p) s t locals rest more (target_of target) c.args.gives) c.in-Some.is
          ∙ ap (λ target. assigned s t locals rest more target c.args.gives) (sym (c.in_default-target_below.ensures.is newest (run.frame locals (Cons call rest)) more r)),
      refl,
    )

pub returns-in_default-gives-clause-is : goal.returns-in_default-gives-clause-is
returns-in_default-gives-clause-is c newest locals call rest more r =
    let p = c.args.p.now in let s = state_of c.args.p.now c.args.self.now in let t = c.args.t in (
      ap (λ target. result_set (shown p) s t locals rest more (target_of target) c.args.gives) c.in-Some.is
          ∙ ap (λ target. assigned s t locals rest more target c.args.gives) (sym (c.in-Some-target_below.ensures.is newest (run.frame locals (Cons call rest)) more r))
          ∙ ap (assigned s t locals rest more (Some (shown_target c.in-Some-target_below.target))) c.in_default-gives.is,
      refl,
    )

pub set-requires-clause-may : goal.set-requires-clause-may
set-requires-clause-may c = may_target c.leave-2.new.self c.args.t c.in-Some.place.name c.in-Some-target_below.target (c.leave-2.ensures.may c.in-Some.place.name (subst (IsPlaceIfAny (λ place. MaySetBelow c.args.self.now c.args.t place.name)) c.in-Some.is c.requires.may)) c.in-Some-target_below.ensures.named

pub returns-clause-is : goal.returns-clause-is
returns-clause-is c newest locals call rest more r =
    let same : to_z w32 (of_z w32 c.in-Some-gives.z) ≡ c.in-Some-gives.z = search rules in
    let p = c.args.p.now in let s = state_of c.args.p.now c.args.self.now in let t = c.args.t in
    let next = at_of p c.leave-2.new.self t locals call rest more (c.leave-2.ensures.runs p newest (run.frame locals (Cons call rest)) more r) in
    ap (λ target. result_set (shown p) s t locals rest more (target_of target) c.args.gives) c.in-Some.is
    ∙ ap (λ target. assigned s t locals rest more target c.args.gives) (sym (c.in-Some-target_below.ensures.is newest (run.frame locals (Cons call rest)) more r))
    ∙ ap (assigned s t locals rest more (Some (shown_target c.in-Some-target_below.target))) c.in-Some-gives.is
    ∙ ap (λ z. Done Step (set s t locals rest more (shown_target c.in-Some-target_below.target) z)) (sym same)
    ∙ ap (λ x. Done Step x) (sym (c.set.ensures.goes call next
    ∙ ap (λ x. set x t locals rest more (shown_target c.in-Some-target_below.target) (to_z w32 (of_z w32 c.in-Some-gives.z))) (c.leave-2.ensures.leaves p newest (run.frame locals (Cons call rest) ∷ more) r)
    ∙ set_after s t (run.frame locals (Cons call rest) ∷ more) locals rest more (shown_target c.in-Some-target_below.target) (to_z w32 (of_z w32 c.in-Some-gives.z))))
