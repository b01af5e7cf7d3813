use Rattle.std.proofs.Common.{◌≡◌, ◌∷◌, true, false, rules, w32, to_z, of_z, refl, sym, ap, ◌∙◌}
use Rattle.std.specs.Prelude.{if◌then◌else◌}
use Rattle.c_tree.specs.Bare as bare
use Rattle.c_tree.specs.Bare.{Cons}
use Rattle.c_tree.specs.Expressions.{expr_of}
use Rattle.c_tree.specs.Values.{is_true}
use Rattle.c_tree.specs.Bare.{before}
use Rattle.c_meaning.specs.Branching.{branched}
use Rattle.c_meaning.specs.State.{frame, goes_on}
use Rattle.c_meaning.specs.Outcome.{Done}
use Rattle.c_meaning.specs.declared.Did.TheVariants.{Step}
use Rattle.c_steps.specs.Model.{state_of}
use Rattle.c_steps.proofs.state.State.branch.Goals as goal

pub returns-in_default-clause-is : goal.returns-in_default-clause-is
returns-in_default-clause-is c then_arm else_arm at = (ap (branched (state_of c.args.p.now c.args.self.now) c.args.t at.locals at.rest at.more then_arm else_arm) (sym (c.in_default.ensures (bare.If (expr_of c.args.test.now) then_arm else_arm) at)), refl)

pub returns-then-is_true-clause-is : goal.returns-then-is_true-clause-is
returns-then-is_true-clause-is c then_arm else_arm at =
    let z = c.in-Some.z in
    let same : to_z w32 (of_z w32 z) ≡ z = search rules in
    let picks : is_true z ≡ true = ap is_true (sym same) ∙ sym c.is_true.ensures ∙ c.if-is_true.true in
    ap (branched (state_of c.args.p.now c.args.self.now) c.args.t at.locals at.rest at.more then_arm else_arm) (sym (c.in-Some.ensures (bare.If (expr_of c.args.test.now) then_arm else_arm) at))
    ∙ ap (λ b. Done Step (goes_on (state_of c.args.p.now c.args.self.now) c.args.t (frame at.locals (before (if b then then_arm else else_arm) at.rest) ∷ at.more))) picks
    ∙ ap (λ x. Done Step x) (sym (c.go_on.ensures.goes (bare.If (expr_of c.args.test.now) then_arm else_arm) at))

pub returns-else-is_true-clause-is : goal.returns-else-is_true-clause-is
returns-else-is_true-clause-is c then_arm else_arm at =
    let z = c.in-Some.z in
    let same : to_z w32 (of_z w32 z) ≡ z = search rules in
    let picks : is_true z ≡ false = ap is_true (sym same) ∙ sym c.is_true.ensures ∙ c.if-is_true.false in
    ap (branched (state_of c.args.p.now c.args.self.now) c.args.t at.locals at.rest at.more then_arm else_arm) (sym (c.in-Some.ensures (bare.If (expr_of c.args.test.now) then_arm else_arm) at))
    ∙ ap (λ b. Done Step (goes_on (state_of c.args.p.now c.args.self.now) c.args.t (frame at.locals (before (if b then then_arm else else_arm) at.rest) ∷ at.more))) picks
    ∙ ap (λ x. Done Step x) (sym (c.go_on-else-is_true.ensures.goes (bare.If (expr_of c.args.test.now) then_arm else_arm) at))
