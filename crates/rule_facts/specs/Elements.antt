-- What the rules say of the members of arrays that a statement reads or sets.
use Rattle.std.specs.Prelude.{ℕ, List, ◌≡◌, ⊤, Contains, Some, None}
use Rattle.std.specs.declared.option.Option.{Option}
use Rattle.c_tree.specs.Expressions.{Expr, Exprs, Place, Number, Name, Element, Arg, Not, Minus, Binary}
use Rattle.c_tree.specs.Expressions as tree
use Rattle.c_tree.specs.Bare as bare

-- an array of this name
pub record NamesArray (arrays : List bare.Array) (name : List ℕ) : Type 0 where
  pub array : bare.Array
  pub listed : Contains arrays array
  pub named : array.name ≡ name

-- each member that an expression reads is of an array, also in an index
abbrev pub ElementsOf : List bare.Array → Expr → Type 0
ElementsOf arrays (Number k) = ⊤
ElementsOf arrays (Name name) = ⊤
ElementsOf arrays (Element name index) = NamesArray arrays name × ElementsOf arrays index
ElementsOf arrays (Arg name) = ⊤
ElementsOf arrays (Not operand) = ElementsOf arrays operand
ElementsOf arrays (Minus operand) = ElementsOf arrays operand
ElementsOf arrays (Binary op left right) = ElementsOf arrays left × ElementsOf arrays right

abbrev pub ElementsOfAll : List bare.Array → Exprs → Type 0
ElementsOfAll arrays tree.Nil = ⊤
ElementsOfAll arrays (tree.Cons e es) = ElementsOf arrays e × ElementsOfAll arrays es

abbrev pub ElementsOfValue : List bare.Array → Option Expr → Type 0
ElementsOfValue arrays None = ⊤
ElementsOfValue arrays (Some e) = ElementsOf arrays e

-- a name with an index is that of an array
abbrev pub MemberOf : List bare.Array → List ℕ → Option Expr → Type 0
MemberOf arrays name None = ⊤
MemberOf arrays name (Some index) = NamesArray arrays name × ElementsOf arrays index

abbrev pub TargetOf : List bare.Array → Option Place → Type 0
TargetOf arrays None = ⊤
TargetOf arrays (Some target) = MemberOf arrays target.name target.index

-- so of what a statement evaluates and sets itself
abbrev pub ElementsFit : List bare.Array → bare.Stmt → Type 0
ElementsFit arrays (bare.Declare name value) = ElementsOfValue arrays value
ElementsFit arrays (bare.Assign target value) = MemberOf arrays target.name target.index × ElementsOf arrays value
ElementsFit arrays (bare.Call target name args) = TargetOf arrays target × ElementsOfAll arrays args
ElementsFit arrays (bare.If test a b) = ElementsOf arrays test
ElementsFit arrays (bare.While test body) = ElementsOf arrays test
ElementsFit arrays (bare.For first_part test step body) = ElementsOf arrays test
ElementsFit arrays (bare.Return value) = ElementsOfValue arrays value
ElementsFit arrays (bare.Read target) = MemberOf arrays target.name target.index
ElementsFit arrays (bare.Print format args) = ElementsOfAll arrays args
ElementsFit arrays (bare.Create slot name arg) = ElementsOfValue arrays slot.index × ElementsOf arrays arg
ElementsFit arrays (bare.Join slot) = ElementsOfValue arrays slot.index
ElementsFit arrays (bare.InitMutex place) = ElementsOfValue arrays place.index
ElementsFit arrays (bare.InitCond place) = ElementsOfValue arrays place.index
ElementsFit arrays (bare.Lock place) = ElementsOfValue arrays place.index
ElementsFit arrays (bare.TryLock place taken busy) = ElementsOfValue arrays place.index
ElementsFit arrays (bare.Unlock place) = ElementsOfValue arrays place.index
ElementsFit arrays (bare.Wait cond mutex takes) = ElementsOfValue arrays cond.index × ElementsOfValue arrays mutex.index
ElementsFit arrays (bare.Signal cond) = ElementsOfValue arrays cond.index
ElementsFit arrays (bare.Broadcast cond) = ElementsOfValue arrays cond.index
ElementsFit arrays (bare.Take monitor) = ⊤
ElementsFit arrays (bare.Give monitor) = ⊤
