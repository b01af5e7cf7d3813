-- Which trees of expressions, statements and declared threads the grammar has tokens for, apart from the lengths of names, numbers and texts.
use Rattle.std.specs.Prelude.{◌≡◌, ℕ, List, [], ◌∷◌, Option, Some, None}
use Rattle.c_tree.specs.declared.program.Kind.{Kind}
use Rattle.c_tree.specs.declared.program.Kind.TheVariants as k
use Rattle.c_tree.specs.Expressions.{Expr, Exprs, Number, Name, Element, Arg, Not, Minus, Binary, Place}
use Rattle.c_tree.specs.Expressions as tree
use Rattle.c_tree.specs.Bare.{Stmt, Stmts, Nil, Cons, Declare, Assign, Call, If, While, For, Return, Read, Print, Create, Join, InitMutex, InitCond, Lock, TryLock, Unlock, Wait, Signal, Broadcast, Take, Give, Slot}
use Rattle.c_grammar.specs.Items.{name_of, callee, undefined_name}

-- ---- names

-- A name for a scalar, an array, an object, a thread, a parameter or the function of a thread: none of the 37 keywords of C.
abbrev pub Usable : List ℕ → Type 0
Usable name = name_of (undefined_name name) ≡ Some name

-- A name of a function that is called: none of the words that the grammar spells out but `main`, `k`, `c` and `m`.
abbrev pub Callable : List ℕ → Type 0
Callable name = callee (undefined_name name) ≡ Some name

-- ---- expressions

abbrev pub ShapedExpr : Expr → Type 0
ShapedExpr (Number n) = Unit {0}
ShapedExpr (Name x) = Usable x
ShapedExpr (Element x index) = Usable x × ShapedExpr index
ShapedExpr (Arg x) = Usable x
ShapedExpr (Not a) = ShapedExpr a
ShapedExpr (Minus a) = ShapedExpr a
ShapedExpr (Binary op a b) = ShapedExpr a × ShapedExpr b

abbrev pub ShapedExprs : Exprs → Type 0
ShapedExprs tree.Nil = Unit {0}
ShapedExprs (tree.Cons e es) = ShapedExpr e × ShapedExprs es

-- An expression that may be missing.
abbrev pub ShapedIfAny : Option Expr → Type 0
ShapedIfAny None = Unit {0}
ShapedIfAny (Some e) = ShapedExpr e

abbrev pub ShapedPlace : Place → Type 0
ShapedPlace p = Usable p.name × ShapedIfAny p.index

-- A place that may be missing.
abbrev pub ShapedTarget : Option Place → Type 0
ShapedTarget None = Unit {0}
ShapedTarget (Some p) = ShapedPlace p

-- ---- statements

-- What a function of this kind returns: a value in main and in functions that give an `int`, and none in the others.
abbrev pub ShapedResult : Kind → Option Expr → Type 0
ShapedResult k.Main (Some e) = ShapedExpr e
ShapedResult k.Int (Some e) = ShapedExpr e
ShapedResult k.Void None = Unit {0}
ShapedResult k.Thread None = Unit {0}
ShapedResult kind value = ⊥

-- The step of a `for`: one assignment, or nothing.
abbrev pub ShapedStep : Stmts → Type 0
ShapedStep Nil = Unit {0}
ShapedStep (Cons (Assign target value) Nil) = ShapedPlace target × ShapedExpr value
ShapedStep other = ⊥

-- Its first part: one declaration with a value, one assignment, or nothing.
abbrev pub ShapedFirst : Stmts → Type 0
ShapedFirst (Cons (Declare name (Some value)) Nil) = Usable name × ShapedExpr value
ShapedFirst other = ShapedStep other

abbrev mutual
  -- A statement of a function of this kind.
  pub ShapedStmt : Kind → Stmt → Type 0
  ShapedStmt kind (Declare name value) = Usable name × ShapedIfAny value
  ShapedStmt kind (Assign target value) = ShapedPlace target × ShapedExpr value
  ShapedStmt kind (Call target function args) = ShapedTarget target × Callable function × ShapedExprs args
  ShapedStmt kind (If test then_arm else_arm) = ShapedExpr test × ShapedStmts kind then_arm × ShapedStmts kind else_arm
  ShapedStmt kind (While test body) = ShapedExpr test × ShapedStmts kind body
  ShapedStmt kind (For first_part test step body) = ShapedFirst first_part × ShapedExpr test × ShapedStep step × ShapedStmts kind body
  ShapedStmt kind (Return value) = ShapedResult kind value
  ShapedStmt kind (Read target) = ShapedPlace target
  ShapedStmt kind (Print format args) = ShapedExprs args
  ShapedStmt kind (Create slot function arg) = ShapedPlace slot × Usable function × ShapedExpr arg
  ShapedStmt kind (Join slot) = ShapedPlace slot
  ShapedStmt kind (InitMutex p) = ShapedPlace p
  ShapedStmt kind (InitCond p) = ShapedPlace p
  ShapedStmt kind (Lock p) = ShapedPlace p
  ShapedStmt kind (TryLock p taken busy) = ShapedPlace p × ShapedStmts kind taken × ShapedStmts kind busy
  ShapedStmt kind (Unlock p) = ShapedPlace p
  ShapedStmt kind (Wait cond mutex takes) = ShapedPlace cond × ShapedPlace mutex
  ShapedStmt kind (Signal cond) = ShapedPlace cond
  ShapedStmt kind (Broadcast cond) = ShapedPlace cond
  ShapedStmt kind (Take monitor) = Unit {0}
  ShapedStmt kind (Give monitor) = Unit {0}

  -- Each of these.
  pub ShapedStmts : Kind → Stmts → Type 0
  ShapedStmts kind Nil = Unit {0}
  ShapedStmts kind (Cons first rest) = ShapedStmt kind first × ShapedStmts kind rest

-- ---- threads

abbrev pub ShapedSlot : Slot → Type 0
ShapedSlot t = Usable t.name

-- Each of these.
abbrev pub ShapedSlots : List Slot → Type 0
ShapedSlots [] = Unit {0}
ShapedSlots (t ∷ ts) = ShapedSlot t × ShapedSlots ts
