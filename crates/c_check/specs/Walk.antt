-- What statements break with those that they hold.
use Rattle.std.specs.Prelude.{ℕ, Bool, true, ◌||◌, List, [], ◌++◌}
use Rattle.c_tree.specs.Lined.{Stmt, Stmts, Nil, Cons, Declare, If, While, For, TryLock}
use Rattle.c_rules.specs.Names.{mentions}
use Rattle.c_rules.specs.Sites.{declared, locals_of}
use Rattle.c_rules.specs.declared.role.Role.TheVariants.{OfMutex}
use Rattle.c_rules.specs.Uses.{of_expr, of_place}
use Rattle.c_acts.specs.declared.first.Break.{Break}
use Rattle.c_acts.specs.Uses.{Around, uses_breaks}
use Rattle.c_acts.specs.Acts.{declare_breaks, act_breaks}

-- names come into scope
abbrev pub with_names : List (List ℕ) → (List ℕ → Bool) → List ℕ → Bool
with_names names inside n = mentions names n || inside n

abbrev mutual
  -- what a statement breaks, behind what it holds; a create or join itself may not be fixed, those inside aren't
  pub stmt_breaks : Around → (List ℕ → Bool) → (unfixed late : Bool) → Stmt → List Break
  stmt_breaks a inside unfixed late (Declare line name value) = declare_breaks a inside line name value
  stmt_breaks a inside unfixed late (If line test then_arm else_arm) =
      list_breaks a inside late then_arm ++ (list_breaks a inside late else_arm ++ uses_breaks a inside line (of_expr test))
  stmt_breaks a inside unfixed late (While line test body) = list_breaks a inside late body ++ uses_breaks a inside line (of_expr test)
  stmt_breaks a inside unfixed late (For line first_part test step body) =
      list_breaks a inside late first_part
      ++ (list_breaks a (with_names (locals_of first_part) inside) late step
      ++ (list_breaks a (with_names (locals_of first_part) inside) late body
      ++ uses_breaks a (with_names (locals_of first_part) inside) line (of_expr test)))
  stmt_breaks a inside unfixed late (TryLock line place taken busy) =
      list_breaks a inside late taken ++ (list_breaks a inside late busy ++ uses_breaks a inside line (of_place OfMutex place))
  stmt_breaks a inside unfixed late s = act_breaks a inside unfixed late s

  -- what a list of statements breaks
  pub list_breaks : Around → (List ℕ → Bool) → (late : Bool) → Stmts → List Break
  list_breaks a inside late Nil = []
  list_breaks a inside late (Cons s rest) = stmt_breaks a inside true late s ++ list_breaks a (with_names (declared s) inside) late rest

-- what an `if`, a `while`, a `for` or a trylock breaks, behind what it holds; nothing of the others
abbrev pub nest_breaks : Around → (List ℕ → Bool) → (late : Bool) → Stmt → List Break
nest_breaks a inside late (If line test then_arm else_arm) = stmt_breaks a inside true late (If line test then_arm else_arm)
nest_breaks a inside late (While line test body) = stmt_breaks a inside true late (While line test body)
nest_breaks a inside late (For line first_part test step body) = stmt_breaks a inside true late (For line first_part test step body)
nest_breaks a inside late (TryLock line place taken busy) = stmt_breaks a inside true late (TryLock line place taken busy)
nest_breaks a inside late s = []
