-- Programs with a wait that takes tokens.
use Rattle.std.specs.Prelude.{Bool, true, false, ◌||◌, List, [], ◌∷◌}
use Rattle.c_tree.specs.Bare.{Stmt, Stmts, Nil, Cons, If, TryLock, While, For, Wait, Function}

abbrev mutual
  -- Whether a statement is such a wait, or one inside it is.
  pub waits : Stmt → Bool
  waits (If test then_arm else_arm) = any_waits then_arm || any_waits else_arm
  waits (TryLock p taken busy) = any_waits taken || any_waits busy
  waits (While test body) = any_waits body
  waits (For first_part test step body) = any_waits first_part || (any_waits step || any_waits body)
  waits (Wait cond mutex (k ∷ ks)) = true
  waits other = false

  -- Whether one of these is.
  pub any_waits : Stmts → Bool
  any_waits Nil = false
  any_waits (Cons first rest) = waits first || any_waits rest

-- Whether a statement of one of these functions is.
abbrev pub some_waits : List Function → Bool
some_waits [] = false
some_waits (f ∷ fs) = any_waits f.body || some_waits fs
