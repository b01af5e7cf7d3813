use Rattle.std.proofs.Common.{◌≡◌, ◌∷◌, true, false, rules, w32, to_z, of_z, refl, sym, ap, ◌∙◌}
use Rattle.std.specs.Prelude.{if◌then◌else◌}
use Rattle.c_tree.specs.Bare as bare
use Rattle.c_tree.specs.Bare.{Cons}
use Rattle.c_tree.specs.Expressions.{expr_of}
use Rattle.c_tree.specs.Values.{is_true}
use Rattle.c_tree.specs.Bare.{before}
use Rattle.c_meaning.specs.Branching.{looped}
use Rattle.c_meaning.specs.State.{frame, goes_on}
use Rattle.c_meaning.specs.Outcome.{Done}
use Rattle.c_meaning.specs.declared.Did.TheVariants.{Step}
use Rattle.c_steps.specs.Model.{state_of}
use Rattle.c_steps.proofs.state.State.repeat.Goals as goal

pub returns-in_default-clause-is : goal.returns-in_default-clause-is
returns-in_default-clause-is c body at = (ap (looped (state_of c.args.p.now c.args.self.now) c.args.t at.locals at.rest at.more (expr_of c.args.test.now) body) (sym (c.in_default.ensures (bare.While (expr_of c.args.test.now) body) at)), refl)

pub returns-then-is_true-clause-is : goal.returns-then-is_true-clause-is
returns-then-is_true-clause-is c body at =
    let z = c.in-Some.z in
    let same : to_z w32 (of_z w32 z) ≡ z = search rules in
    let picks : is_true z ≡ true = ap is_true (sym same) ∙ sym c.is_true.ensures ∙ c.if-is_true.true in
    ap (looped (state_of c.args.p.now c.args.self.now) c.args.t at.locals at.rest at.more (expr_of c.args.test.now) body) (sym (c.in-Some.ensures (bare.While (expr_of c.args.test.now) body) at))
    ∙ ap (λ b. Done Step (goes_on (state_of c.args.p.now c.args.self.now) c.args.t (frame at.locals (if b then before body (Cons (bare.While (expr_of c.args.test.now) body) at.rest) else at.rest) ∷ at.more))) picks
    ∙ ap (λ x. Done Step x) (sym (c.go_on.ensures.goes (bare.While (expr_of c.args.test.now) body) at))

pub returns-else-is_true-clause-is : goal.returns-else-is_true-clause-is
returns-else-is_true-clause-is c body at =
    let z = c.in-Some.z in
    let same : to_z w32 (of_z w32 z) ≡ z = search rules in
    let picks : is_true z ≡ false = ap is_true (sym same) ∙ sym c.is_true.ensures ∙ c.if-is_true.false in
    ap (looped (state_of c.args.p.now c.args.self.now) c.args.t at.locals at.rest at.more (expr_of c.args.test.now) body) (sym (c.in-Some.ensures (bare.While (expr_of c.args.test.now) body) at))
    ∙ ap (λ b. Done Step (goes_on (state_of c.args.p.now c.args.self.now) c.args.t (frame at.locals (if b then before body (Cons (bare.While (expr_of c.args.test.now) body) at.rest) else at.rest) ∷ at.more))) picks
    ∙ ap (λ x. Done Step x) (sym (c.go_on-else-is_true.ensures.goes (bare.While (expr_of c.args.test.now) body) at))
