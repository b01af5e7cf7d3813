-- How deep the lists of statements stand inside one another.
use Rattle.std.specs.Prelude.{ℕ, zero, suc, max}
use Rattle.c_tree.specs.Bare as bare
use Rattle.c_tree.specs.Bare.{Stmt, Stmts, Nil, Cons}

abbrev mutual
  -- The height of a list. Each list that can be entered in it is lower.
  pub height : Stmts → ℕ
  height Nil = zero
  height (Cons s rest) = max (suc (height_inside s)) (height rest)

  -- the height of the highest list that can be entered in a statement
  pub height_inside : Stmt → ℕ
  height_inside (bare.If test then_arm else_arm) = max (height then_arm) (height else_arm)
  height_inside (bare.While test body) = height body
  height_inside (bare.For first_part test step body) = max (height step) (height body)
  height_inside (bare.TryLock place taken busy) = max (height taken) (height busy)
  height_inside s = zero
