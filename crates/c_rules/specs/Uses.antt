-- How the expressions and places of a statement use names, and what each use fits.
use Rattle.std.specs.Prelude.{ℕ, Bool, true, false, not, List, [], ◌∷◌, ◌++◌, is_some, Some, None}
use Rattle.std.specs.declared.option.Option.{Option}
use Rattle.c_tree.specs.declared.program.Kind.{Kind}
use Rattle.c_tree.specs.declared.program.Kind.TheVariants as kind
use Rattle.c_tree.specs.Expressions.{Expr, Exprs, Number, Name, Element, Arg, Not, Minus, Binary, Place}
use Rattle.c_tree.specs.Expressions as tree
use Rattle.c_tree.specs.Lined.{Stmt, Declare, Assign, Call, If, While, For, Return, Read, Print, Create, Join, InitMutex, InitCond, Lock, TryLock, Unlock, Wait, Signal, Broadcast, Take, Give}
use Rattle.c_rules.specs.declared.role.Role.{Role}
use Rattle.c_rules.specs.declared.role.Role.TheVariants.{Value, Cast, OfMutex, OfCondition, OfThread, Start, Called}
use Rattle.c_rules.specs.Declarations.{Thing, Scalar, Array, Mutex, Condition, Thread, Function, Local, Argument}

-- A name that is used, as what, and whether with an index.
pub record Use : Type 0 where
  pub name : List ℕ
  pub role : Role
  pub indexed : Bool

abbrev pub plain : Role → List ℕ → Use
plain role name = record { name = name; role = role; indexed = false }

-- ---- which uses there are

abbrev pub of_expr : Expr → List Use
of_expr (Number k) = []
of_expr (Name name) = plain Value name ∷ []
of_expr (Element name index) = record { name = name; role = Value; indexed = true } ∷ of_expr index
of_expr (Arg name) = plain Cast name ∷ []
of_expr (Not operand) = of_expr operand
of_expr (Minus operand) = of_expr operand
of_expr (Binary op left right) = of_expr left ++ of_expr right

abbrev pub of_exprs : Exprs → List Use
of_exprs tree.Nil = []
of_exprs (tree.Cons e es) = of_expr e ++ of_exprs es

abbrev pub of_value : Option Expr → List Use
of_value None = []
of_value (Some e) = of_expr e

abbrev pub of_place : Role → Place → List Use
of_place role place = record { name = place.name; role = role; indexed = is_some place.index } ∷ of_value place.index

abbrev pub of_target : Option Place → List Use
of_target None = []
of_target (Some place) = of_place Value place

-- the uses of a statement itself, without those of the statements inside it
abbrev pub uses_of : Stmt → List Use
uses_of (Declare line name value) = of_value value
uses_of (Assign line target value) = of_place Value target ++ of_expr value
uses_of (Call line target function args) = of_target target ++ plain (Called (is_some target)) function ∷ of_exprs args
uses_of (If line test then_arm else_arm) = of_expr test
uses_of (While line test body) = of_expr test
uses_of (For line first_part test step body) = of_expr test
uses_of (Return line value) = of_value value
uses_of (Read line target) = of_place Value target
uses_of (Print line format args) = of_exprs args
uses_of (Create line slot function arg) = of_place OfThread slot ++ plain Start function ∷ of_expr arg
uses_of (Join line slot) = of_place OfThread slot
uses_of (InitMutex line place) = of_place OfMutex place
uses_of (InitCond line place) = of_place OfCondition place
uses_of (Lock line place) = of_place OfMutex place
uses_of (TryLock line place taken busy) = of_place OfMutex place
uses_of (Unlock line place) = of_place OfMutex place
uses_of (Wait line cond mutex takes) = of_place OfCondition cond ++ of_place OfMutex mutex
uses_of (Signal line cond) = of_place OfCondition cond
uses_of (Broadcast line cond) = of_place OfCondition cond
uses_of (Take line monitor) = []
uses_of (Give line monitor) = []

-- ---- which uses fit

-- an index stands where there is a length, and nowhere else
abbrev pub is_indexed_so : Option ℕ → Bool → Bool
is_indexed_so None indexed = not indexed
is_indexed_so (Some len) indexed = indexed

abbrev pub is_start : Kind → Bool
is_start kind.Thread = true
is_start kind.Main = false
is_start kind.Int = false
is_start kind.Void = false

-- a function that may be called; one that gives nothing has no result
abbrev pub is_callable : Kind → (result : Bool) → Bool
is_callable kind.Int result = true
is_callable kind.Void result = not result
is_callable kind.Main result = false
is_callable kind.Thread result = false

-- a use that what the name stands for is made for
abbrev pub fits : Thing → Role → (indexed : Bool) → Bool
fits Scalar Value indexed = not indexed
fits Local Value indexed = not indexed
fits Array Value indexed = indexed
fits Argument Cast indexed = not indexed
fits (Mutex len) OfMutex indexed = is_indexed_so len indexed
fits (Condition len) OfCondition indexed = is_indexed_so len indexed
fits (Thread len) OfThread indexed = is_indexed_so len indexed
fits (Function place f) Start indexed = is_start f.kind
fits (Function place f) (Called result) indexed = is_callable f.kind result
fits thing role indexed = false
