-- The statements of a function that matter for contexts, as one list in text order.
use Rattle.std.specs.Prelude.{ℕ, List, ◌∷◌}
use Rattle.std.specs.declared.option.Option.{Option}
use Rattle.c_tree.specs.Expressions.{Expr, Exprs, Place}
use Rattle.c_tree.specs.Lined.{Stmt, Stmts, Nil, Cons, Declare, Call, If, While, For, Lock, TryLock, Unlock, Wait, Take, Give}

pub data Item : Type 0 where
  -- a block begins, or ends
  Opens : Item
  Closes : Item
  Declares : (name : List ℕ) (value : Option Expr) → Item
  -- a lock, a trylock, an unlock or a wait at a mutex
  Locks : (line : ℕ) (place : Place) → Item
  -- a take or a give of a monitor
  Holds : (monitor : ℕ) → Item
  Calls : (name : List ℕ) (args : Exprs) → Item

abbrev mutual
  -- the items of a statement, before more
  pub items : Stmt → List Item → List Item
  items (Declare line name value) more = Declares name value ∷ more
  items (Call line target name args) more = Calls name args ∷ more
  items (If line test a b) more = Opens ∷ items_all a (Closes ∷ Opens ∷ items_all b (Closes ∷ more))
  items (While line test body) more = Opens ∷ items_all body (Closes ∷ more)
  items (For line first_part test step body) more = Opens ∷ items_all first_part (items_all body (items_all step (Closes ∷ more)))
  items (Lock line place) more = Locks line place ∷ more
  items (TryLock line place taken busy) more = Locks line place ∷ Opens ∷ items_all taken (Closes ∷ Opens ∷ items_all busy (Closes ∷ more))
  items (Unlock line place) more = Locks line place ∷ more
  items (Wait line cond mutex takes) more = Locks line mutex ∷ more
  items (Take line monitor) more = Holds monitor ∷ more
  items (Give line monitor) more = Holds monitor ∷ more
  items s more = more

  pub items_all : Stmts → List Item → List Item
  items_all Nil more = more
  items_all (Cons s rest) more = items s (items_all rest more)
