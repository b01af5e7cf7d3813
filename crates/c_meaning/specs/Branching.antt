-- What picks the statements that come next.
use Rattle.std.specs.Prelude.{ℕ, ℤ, if◌then◌else◌, List, ◌∷◌, Some, None}
use Rattle.std.specs.declared.option.Option.{Option}
use Rattle.c_tree.specs.Expressions.{Expr}
use Rattle.c_tree.specs.Values.{is_true}
use Rattle.c_tree.specs.Bare as bare
use Rattle.c_tree.specs.Bare.{Stmt, Stmts, Nil, Cons, Program, before}
use Rattle.c_meaning.specs.State.{Locals, Frame, State, frame}
use Rattle.c_meaning.specs.Outcome.{Outcome, Undefined, moved}
use Rattle.c_meaning.specs.Places.{evaluated, evaluated_if_any, target_at}
use Rattle.c_meaning.specs.Setting.{declared_local, assigned}

-- If: the arm that the test picks comes before the rest
abbrev pub branched : State → ℕ → Locals → Stmts → List Frame → Stmts → Stmts → Option ℤ → Outcome
branched s t locals rest more then_arm else_arm (Some z) = moved s t (frame locals (before (if is_true z then then_arm else else_arm) rest) ∷ more)
branched s t locals rest more then_arm else_arm None = Undefined

-- While: where the test isn't 0, the body and the loop itself come before the rest
abbrev pub looped : State → ℕ → Locals → Stmts → List Frame → Expr → Stmts → Option ℤ → Outcome
looped s t locals rest more test body (Some z) = moved s t (frame locals (if is_true z then before body (Cons (bare.While test body) rest) else rest) ∷ more)
looped s t locals rest more test body None = Undefined

-- what a `for` is behind its first part
abbrev pub loop_of : Expr → Stmts → Stmts → Stmt
loop_of test step body = bare.While test (before body step)

-- For: does the first part, which is nothing, one declaration or one assignment; the loop, which stands in `rest`, comes then
abbrev pub for_begun : Program → State → ℕ → Locals → Stmts → List Frame → Stmts → Outcome
for_begun p s t locals rest more Nil = moved s t (frame locals rest ∷ more)
for_begun p s t locals rest more (Cons (bare.Declare name e) Nil) = declared_local s t locals rest more name (evaluated_if_any p s locals e)
for_begun p s t locals rest more (Cons (bare.Assign target e) Nil) = assigned s t locals rest more (target_at p s locals target) (evaluated p s locals e)
for_begun p s t locals rest more first_part = Undefined
