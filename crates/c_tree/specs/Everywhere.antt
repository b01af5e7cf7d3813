-- What holds of each statement of a list, at any depth.
use Rattle.std.specs.Prelude.{⊤}
use Rattle.c_tree.specs.Bare as bare
use Rattle.c_tree.specs.Bare.{Stmt, Stmts, Nil, Cons}

abbrev mutual
  -- a fact of each statement of a list, and of those inside them
  pub Everywhere : (Stmt → Type 0) → Stmts → Type 0
  Everywhere P Nil = ⊤
  Everywhere P (Cons s rest) = P s × EverywhereInside P s × Everywhere P rest

  -- of those inside a statement: in its arms, in its body, and in the parts of a `for`
  pub EverywhereInside : (Stmt → Type 0) → Stmt → Type 0
  EverywhereInside P (bare.If test then_arm else_arm) = Everywhere P then_arm × Everywhere P else_arm
  EverywhereInside P (bare.While test body) = Everywhere P body
  EverywhereInside P (bare.For first_part test step body) = Everywhere P first_part × Everywhere P step × Everywhere P body
  EverywhereInside P (bare.TryLock place taken busy) = Everywhere P taken × Everywhere P busy
  EverywhereInside P s = ⊤
