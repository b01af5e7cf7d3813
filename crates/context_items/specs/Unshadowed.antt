-- No local is declared where one of its name is in scope.
use Rattle.std.specs.Prelude.{◌≡◌, ℕ, true, false, List, [], ◌∷◌, ⊤}
use Rattle.c_tree.specs.Bare as bare
use Rattle.c_tree.specs.Everywhere.{Everywhere}
use Rattle.c_tree.specs.Lined.{Stmt, Stmts, Nil, Cons, Function, Program, Declare, Assign, If, While, For, TryLock, bare_stmts}
use Rattle.rule_facts.specs.Apart.{Listed}
use Rattle.contexts.specs.Constants.{among, declared_all}

-- no name is among both
abbrev pub Disjoint : List (List ℕ) → List (List ℕ) → Type 0
Disjoint xs ys = (q : List ℕ) → among xs q ≡ true → among ys q ≡ false

-- the name that a statement declares in the list that it stands in
abbrev pub own_name : Stmt → List (List ℕ)
own_name (Declare line name value) = name ∷ []
own_name s = []

-- the first part of a `for`, and its step, as the grammar has them
abbrev pub FirstShape : Stmts → Type 0
FirstShape Nil = ⊤
FirstShape (Cons (Declare line name value) Nil) = ⊤
FirstShape (Cons (Assign line target value) Nil) = ⊤
FirstShape ss = ⊥

abbrev pub StepShape : Stmts → Type 0
StepShape Nil = ⊤
StepShape (Cons (Assign line target value) Nil) = ⊤
StepShape ss = ⊥

abbrev mutual
  -- so inside a statement
  pub Unshadowed : Stmt → Type 0
  Unshadowed (If line test a b) = UnshadowedAll a × UnshadowedAll b
  Unshadowed (While line test body) = UnshadowedAll body
  Unshadowed (For line first_part test step body) = FirstShape first_part × StepShape step × Disjoint (declared_all first_part) (declared_all body) × UnshadowedAll body
  Unshadowed (TryLock line place taken busy) = UnshadowedAll taken × UnshadowedAll busy
  Unshadowed s = ⊤

  pub UnshadowedAll : Stmts → Type 0
  UnshadowedAll Nil = ⊤
  UnshadowedAll (Cons s rest) = Unshadowed s × Disjoint (own_name s) (declared_all rest) × UnshadowedAll rest

-- so in each function, whose parameters are in scope everywhere
abbrev pub IsUnshadowed : Program → Type 0
IsUnshadowed p = (f : ℕ × Function) → Listed p f → Disjoint f.1.params (declared_all f.1.body) × UnshadowedAll f.1.body

-- ---- the steps of loops

-- the step of a `for` is nothing or an assignment
abbrev pub StepFits : bare.Stmts → Type 0
StepFits bare.Nil = ⊤
StepFits (bare.Cons (bare.Assign target value) bare.Nil) = ⊤
StepFits ss = ⊥

abbrev pub ForSteps : bare.Stmt → Type 0
ForSteps (bare.For first_part test step body) = StepFits step
ForSteps s = ⊤

-- so of each `for` of a program
abbrev pub HasSteps : Program → Type 0
HasSteps p = (f : ℕ × Function) → Listed p f → Everywhere ForSteps (bare_stmts f.1.body)
