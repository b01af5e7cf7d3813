-- What expressions of type `int` give, by section 6.5 of C: 32 bits, division toward zero, and no value where C leaves the result undefined.
use Rattle.std.specs.Prelude.{ℕ, ℤ, pos, negsuc, ◌+ℤ◌, ◌-ℤ◌, ◌*ℤ◌, neg_ℤ, int_lt, int_le, int_div, int_rem, Bool, not, ◌&&◌, ◌||◌, if◌then◌else◌, List, Some, None, option_map, option_and_then}
use Rattle.std.specs.declared.option.Option.{Option}
use Rattle.std.specs.Ordering.{int_eq}
use Rattle.c_tree.specs.declared.expr.Op.{Op}
use Rattle.c_tree.specs.declared.expr.Op.TheVariants as op
use Rattle.c_tree.specs.Expressions.{Expr, Number, Name, Element, Arg, Not, Minus, Binary}

-- what the names of an expression stand for, where they stand for something
pub record Values : Type 0 where
  pub scalar : List ℕ → Option ℤ
  pub element : List ℕ → ℤ → Option ℤ

-- no name stands for anything: the values of constants
abbrev pub no_values : Values
no_values = record { scalar = λ name. None; element = λ name index. None }

-- a result that 32 bits hold
abbrev pub fitting : ℤ → Option ℤ
fitting z = if int_le (negsuc 2147483647) z && int_le z (pos 2147483647) then Some z else None

-- a test gives 1 or 0
abbrev pub truth : Bool → ℤ
truth b = if b then pos 1 else pos 0

abbrev pub is_true : ℤ → Bool
is_true z = not (int_eq z (pos 0))

-- a quotient, and what depends on it, where the divisor isn't 0 and the quotient fits
abbrev pub divided : ℤ → ℤ → ℤ → Option ℤ
divided a b result = if int_eq b (pos 0) then None else option_map (λ quotient. result) (fitting (int_div a b))

-- an operator whose operands are both evaluated
abbrev pub applied : Op → ℤ → ℤ → Option ℤ
applied op.Or a b = Some (truth (is_true a || is_true b))
applied op.And a b = Some (truth (is_true a && is_true b))
applied op.Eq a b = Some (truth (int_eq a b))
applied op.Ne a b = Some (truth (not (int_eq a b)))
applied op.Lt a b = Some (truth (int_lt a b))
applied op.Le a b = Some (truth (int_le a b))
applied op.Gt a b = Some (truth (int_lt b a))
applied op.Ge a b = Some (truth (int_le b a))
applied op.Add a b = fitting (a +ℤ b)
applied op.Sub a b = fitting (a -ℤ b)
applied op.Mul a b = fitting (a *ℤ b)
applied op.Div a b = divided a b (int_div a b)
applied op.Rem a b = divided a b (int_rem a b)

-- `||` and `&&` don't evaluate their right side where the left one decides
abbrev pub either : Option ℤ → Option ℤ → Option ℤ
either None right = None
either (Some a) right = if is_true a then Some (pos 1) else option_map (λ b. truth (is_true b)) right

abbrev pub both : Option ℤ → Option ℤ → Option ℤ
both None right = None
both (Some a) right = if is_true a then option_map (λ b. truth (is_true b)) right else Some (pos 0)

abbrev pub strict : Op → Option ℤ → Option ℤ → Option ℤ
strict o left right = option_and_then (λ a. option_and_then (applied o a) right) left

abbrev pub combined : Op → Option ℤ → Option ℤ → Option ℤ
combined op.Or left right = either left right
combined op.And left right = both left right
combined o left right = strict o left right

-- the value of an expression, and none where it is undefined
abbrev pub value : Values → Expr → Option ℤ
value v (Number k) = Some (pos k)
value v (Name name) = v.scalar name
value v (Element name index) = option_and_then (v.element name) (value v index)
value v (Arg name) = v.scalar name
value v (Not operand) = option_map (λ a. truth (not (is_true a))) (value v operand)
value v (Minus operand) = option_and_then (λ a. fitting (neg_ℤ a)) (value v operand)
value v (Binary o left right) = combined o (value v left) (value v right)

-- the value of an expression of numbers
abbrev pub constant : Expr → Option ℤ
constant e = value no_values e
