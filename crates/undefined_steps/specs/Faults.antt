-- Why an expression has no value, in a frame with these locals, and why a place has no cell or object.
use Rattle.std.specs.Prelude.{◌≡◌, ◌⊎◌, ℕ, ℤ, neg_ℤ, bytes_eq, find, List, Some, None}
use Rattle.std.specs.declared.option.Option.{Option}
use Rattle.std.specs.FinMap as finite
use Rattle.c_tree.specs.declared.expr.Op.{Op}
use Rattle.c_tree.specs.Expressions.{Expr, Exprs, Number, Name, Element, Arg, Not, Minus, Binary}
use Rattle.c_tree.specs.Expressions as tree
use Rattle.c_tree.specs.Values.{fitting, applied}
use Rattle.c_tree.specs.Bare.{Array, Object, Program}
use Rattle.c_tree.specs.Numbering.{scalar_cell, index_within}
use Rattle.c_meaning.specs.State.{Locals, State}
use Rattle.c_meaning.specs.Places.{evaluated}
use Rattle.c_meaning.specs.Numbers.{decided}

-- an index isn't one of a member of the array of this name
pub record OutsideArray (p : Program) (name : List ℕ) (z : ℤ) : Type 0 where
  pub array : Array
  pub named : find (λ a. bytes_eq a.name name) p.arrays ≡ Some array
  pub outside : index_within array.len z ≡ None

-- or of the array of objects of this name
pub record OutsideObjects (objects : List Object) (name : List ℕ) (z : ℤ) : Type 0 where
  pub object : Object
  pub named : find (λ o. bytes_eq o.name name) objects ≡ Some object
  pub len : ℕ
  pub is_array : object.len ≡ Some len
  pub outside : index_within len z ≡ None

pub data Fault (p : Program) (s : State) (l : Locals) : Expr → Type 0 where
  -- a local has no value: a name that isn't an int's is a local's
  unset : (name : List ℕ) → scalar_cell p name ≡ None → finite.get l name ≡ None → Fault p s l (Name name)
  unset_argument : (name : List ℕ) → scalar_cell p name ≡ None → finite.get l name ≡ None → Fault p s l (Arg name)
  -- an index is out of range
  outside : (name : List ℕ) (index : Expr) (z : ℤ) → evaluated p s l index ≡ Some z → OutsideArray p name z → Fault p s l (Element name index)
  -- a result doesn't fit 32 bits, or what is divided by is 0
  too_large : (operand : Expr) (z : ℤ) → evaluated p s l operand ≡ Some z → fitting (neg_ℤ z) ≡ None → Fault p s l (Minus operand)
  no_result : (o : Op) (a b : Expr) (x y : ℤ) → evaluated p s l a ≡ Some x → evaluated p s l b ≡ Some y → applied o x y ≡ None → Fault p s l (Binary o a b)
  -- a part that is evaluated has no value; the right side of `||` and `&&` is evaluated where the left one doesn't decide
  in_index : (name : List ℕ) (index : Expr) → Fault p s l index → Fault p s l (Element name index)
  in_not : (operand : Expr) → Fault p s l operand → Fault p s l (Not operand)
  in_minus : (operand : Expr) → Fault p s l operand → Fault p s l (Minus operand)
  in_left : (o : Op) (a b : Expr) → Fault p s l a → Fault p s l (Binary o a b)
  in_right : (o : Op) (a b : Expr) (x : ℤ) → evaluated p s l a ≡ Some x → decided o x ≡ None → Fault p s l b → Fault p s l (Binary o a b)

-- of an expression that may be missing
abbrev pub FaultIfAny : Program → State → Locals → Option Expr → Type 0
FaultIfAny p s l None = ⊥
FaultIfAny p s l (Some e) = Fault p s l e

-- of one of some expressions
abbrev pub FaultAmong : Program → State → Locals → Exprs → Type 0
FaultAmong p s l tree.Nil = ⊥
FaultAmong p s l (tree.Cons e es) = Fault p s l e ⊎ FaultAmong p s l es

-- an index has a value that is none of a member of the array
abbrev pub BeyondArray : Program → State → Locals → List ℕ → Option Expr → Type 0
BeyondArray p s l name None = ⊥
BeyondArray p s l name (Some index) = (z : ℤ) × (evaluated p s l index ≡ Some z) × OutsideArray p name z

abbrev pub BeyondObjects : List Object → Program → State → Locals → List ℕ → Option Expr → Type 0
BeyondObjects objects p s l name None = ⊥
BeyondObjects objects p s l name (Some index) = (z : ℤ) × (evaluated p s l index ≡ Some z) × OutsideObjects objects name z
