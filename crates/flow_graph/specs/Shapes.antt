-- The statements of a function as one list in text order, with what of each of them matters for points.
use Rattle.std.specs.Prelude.{ℕ, List, [], ◌∷◌}
use Rattle.c_tree.specs.Lined as tree
use Rattle.c_tree.specs.Lined.{Stmt, Stmts, line_of}

pub data Shape : Type 0 where
  Step : (line : ℕ) → Shape
  Join : (line : ℕ) → Shape
  Leave : (line : ℕ) → Shape
  -- a lock or a take, and an unlock or a give
  Acquire : (line : ℕ) → Shape
  Release : (line : ℕ) → Shape
  -- a wait that takes these monitors
  Wait : (line : ℕ) (takes : List ℕ) → Shape
  -- two arms: `Else` and `ArmsEnd` follow
  Try : (line : ℕ) → Shape
  Branch : (line : ℕ) → Shape
  Else : Shape
  ArmsEnd : Shape
  -- a body: `LoopEnd` follows
  Loop : (line : ℕ) → Shape
  LoopEnd : Shape
  Call : (line : ℕ) (name : List ℕ) → Shape

abbrev mutual
  -- the shapes of a statement, before more
  pub shapes : Stmt → List Shape → List Shape
  shapes (tree.Call line target name args) more = Shape.Call line name ∷ more
  shapes (tree.If line test a b) more = Shape.Branch line ∷ shapes_all a (Shape.Else ∷ shapes_all b (Shape.ArmsEnd ∷ more))
  shapes (tree.While line test body) more = Shape.Loop line ∷ shapes_all body (Shape.LoopEnd ∷ more)
  shapes (tree.For line first_part test step body) more = Shape.Step line ∷ Shape.Loop line ∷ shapes_all body (shapes_all step (Shape.LoopEnd ∷ more))
  shapes (tree.Return line value) more = Shape.Leave line ∷ more
  shapes (tree.Join line slot) more = Shape.Join line ∷ more
  shapes (tree.Lock line place) more = Shape.Acquire line ∷ more
  shapes (tree.TryLock line place taken busy) more = Shape.Try line ∷ shapes_all taken (Shape.Else ∷ shapes_all busy (Shape.ArmsEnd ∷ more))
  shapes (tree.Unlock line place) more = Shape.Release line ∷ more
  shapes (tree.Wait line cond mutex takes) more = Shape.Wait line takes ∷ more
  shapes (tree.Take line monitor) more = Shape.Acquire line ∷ more
  shapes (tree.Give line monitor) more = Shape.Release line ∷ more
  shapes s more = Shape.Step (line_of s) ∷ more

  pub shapes_all : Stmts → List Shape → List Shape
  shapes_all tree.Nil more = more
  shapes_all (tree.Cons s rest) more = shapes s (shapes_all rest more)

-- the first shape of a statement
abbrev pub first_shape : Stmt → Shape
first_shape (tree.Call line target name args) = Shape.Call line name
first_shape (tree.If line test a b) = Shape.Branch line
first_shape (tree.While line test body) = Shape.Loop line
first_shape (tree.Return line value) = Shape.Leave line
first_shape (tree.Join line slot) = Shape.Join line
first_shape (tree.Lock line place) = Shape.Acquire line
first_shape (tree.TryLock line place taken busy) = Shape.Try line
first_shape (tree.Unlock line place) = Shape.Release line
first_shape (tree.Wait line cond mutex takes) = Shape.Wait line takes
first_shape (tree.Take line monitor) = Shape.Acquire line
first_shape (tree.Give line monitor) = Shape.Release line
first_shape s = Shape.Step (line_of s)

-- the shapes behind the first one
abbrev pub other_shapes : Stmt → List Shape
other_shapes (tree.If line test a b) = shapes_all a (Shape.Else ∷ shapes_all b (Shape.ArmsEnd ∷ []))
other_shapes (tree.While line test body) = shapes_all body (Shape.LoopEnd ∷ [])
other_shapes (tree.For line first_part test step body) = Shape.Loop line ∷ shapes_all body (shapes_all step (Shape.LoopEnd ∷ []))
other_shapes (tree.TryLock line place taken busy) = shapes_all taken (Shape.Else ∷ shapes_all busy (Shape.ArmsEnd ∷ []))
other_shapes s = []
