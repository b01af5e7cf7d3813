-- What stands at the leaves of a tree: names, numbers and the formats of `printf`. A fact of each makes a fact of
-- expressions and statements.
use Rattle.std.specs.Prelude.{ℕ, List, All, Some, None, ⊤}
use Rattle.std.specs.declared.option.Option.{Option}
use Rattle.c_tree.specs.Expressions.{Expr, Exprs, Number, Name, Element, Arg, Not, Minus, Binary, Place}
use Rattle.c_tree.specs.Expressions as tree
use Rattle.c_tree.specs.Bare.{Stmt, Declare, Assign, Call, If, While, For, Return, Read, Print, Create, Join, InitMutex, InitCond, Lock, TryLock, Unlock, Wait, Signal, Broadcast, Take, Give}

-- what is to hold of each
pub record Leaves : Type 1 where
  pub name : List ℕ → Type 0
  pub number : ℕ → Type 0
  pub format : List ℕ → Type 0

-- it holds at each leaf of an expression
abbrev pub HasLeaves : Leaves → Expr → Type 0
HasLeaves facts (Number n) = facts.number n
HasLeaves facts (Name x) = facts.name x
HasLeaves facts (Element x index) = facts.name x × HasLeaves facts index
HasLeaves facts (Arg x) = facts.name x
HasLeaves facts (Not a) = HasLeaves facts a
HasLeaves facts (Minus a) = HasLeaves facts a
HasLeaves facts (Binary op a b) = HasLeaves facts a × HasLeaves facts b

-- of each of these
abbrev pub HaveLeaves : Leaves → Exprs → Type 0
HaveLeaves facts tree.Nil = ⊤
HaveLeaves facts (tree.Cons e es) = HasLeaves facts e × HaveLeaves facts es

-- of an expression that may be missing
abbrev pub HasLeavesIfAny : Leaves → Option Expr → Type 0
HasLeavesIfAny facts None = ⊤
HasLeavesIfAny facts (Some e) = HasLeaves facts e

-- of a place, and of a target that may be missing
abbrev pub PlaceLeaves : Leaves → Place → Type 0
PlaceLeaves facts p = facts.name p.name × HasLeavesIfAny facts p.index

abbrev pub TargetLeaves : Leaves → Option Place → Type 0
TargetLeaves facts None = ⊤
TargetLeaves facts (Some p) = PlaceLeaves facts p

-- of a statement itself, without those in its parts
abbrev pub OwnLeaves : Leaves → Stmt → Type 0
OwnLeaves facts (Declare name value) = facts.name name × HasLeavesIfAny facts value
OwnLeaves facts (Assign target value) = PlaceLeaves facts target × HasLeaves facts value
OwnLeaves facts (Call target function args) = TargetLeaves facts target × facts.name function × HaveLeaves facts args
OwnLeaves facts (If test then_arm else_arm) = HasLeaves facts test
OwnLeaves facts (While test body) = HasLeaves facts test
OwnLeaves facts (For first_part test step body) = HasLeaves facts test
OwnLeaves facts (Return value) = HasLeavesIfAny facts value
OwnLeaves facts (Read target) = PlaceLeaves facts target
OwnLeaves facts (Print format args) = facts.format format × HaveLeaves facts args
OwnLeaves facts (Create slot function arg) = PlaceLeaves facts slot × facts.name function × HasLeaves facts arg
OwnLeaves facts (Join slot) = PlaceLeaves facts slot
OwnLeaves facts (InitMutex p) = PlaceLeaves facts p
OwnLeaves facts (InitCond p) = PlaceLeaves facts p
OwnLeaves facts (Lock p) = PlaceLeaves facts p
OwnLeaves facts (TryLock p taken busy) = PlaceLeaves facts p
OwnLeaves facts (Unlock p) = PlaceLeaves facts p
OwnLeaves facts (Wait cond mutex takes) = PlaceLeaves facts cond × PlaceLeaves facts mutex × All facts.number takes
OwnLeaves facts (Signal cond) = PlaceLeaves facts cond
OwnLeaves facts (Broadcast cond) = PlaceLeaves facts cond
OwnLeaves facts (Take monitor) = facts.number monitor
OwnLeaves facts (Give monitor) = facts.number monitor
