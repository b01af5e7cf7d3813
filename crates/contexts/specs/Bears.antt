-- Which statements bear locks.
use Rattle.std.specs.Prelude.{ℕ, Bool, true, false, ◌||◌, List}
use Rattle.c_tree.specs.Lined.{Stmt, Stmts, Nil, Cons, Call, If, While, For, Lock, TryLock, Unlock, Wait, Take, Give}

abbrev mutual
  -- a statement takes or gives something, waits, or calls a function that bears locks, at any depth
  pub bears : (List ℕ → Bool) → Stmt → Bool
  bears above (Call line target name args) = above name
  bears above (If line test a b) = bears_all above a || bears_all above b
  bears above (While line test body) = bears_all above body
  bears above (For line first_part test step body) = bears_all above first_part || bears_all above step || bears_all above body
  bears above (Lock line place) = true
  bears above (TryLock line place taken busy) = true
  bears above (Unlock line place) = true
  bears above (Wait line cond mutex takes) = true
  bears above (Take line monitor) = true
  bears above (Give line monitor) = true
  bears above s = false

  pub bears_all : (List ℕ → Bool) → Stmts → Bool
  bears_all above Nil = false
  bears_all above (Cons s rest) = bears above s || bears_all above rest
