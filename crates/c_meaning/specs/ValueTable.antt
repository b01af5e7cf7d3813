-- What some expressions of numbers give.
use Rattle.std.specs.Prelude.{ℕ, ℤ, pos, neg_ℤ, List, [], ◌∷◌, Some, None}
use Rattle.std.specs.declared.option.Option.{Option}
use Rattle.c_tree.specs.declared.expr.Op.{Op}
use Rattle.c_tree.specs.declared.expr.Op.TheVariants.{Or, And, Eq, Ne, Lt, Le, Gt, Ge, Add, Sub, Mul, Div, Rem}
use Rattle.c_tree.specs.Expressions.{Expr, Number, Not, Minus, Binary}

-- an operator between a number and another
abbrev pub between : ℕ → Op → ℕ → Expr
between a o b = Binary o (Number a) (Number b)

-- the same with a negative number on the left
abbrev pub negative : ℕ → Op → ℕ → Expr
negative a o b = Binary o (Minus (Number a)) (Number b)

abbrev pub most : ℕ
most = 2147483647

-- the least number of 32 bits
abbrev pub least : Expr
least = negative most Sub 1

abbrev pub undefined : Expr
undefined = between 1 Div 0

-- sums, differences and products that don't fit are undefined
abbrev pub sums : List (Expr × Option ℤ)
sums =
    (between 2 Add 3, Some (pos 5)) ∷ (between most Add 1, None) ∷ (between 2 Sub 3, Some (neg_ℤ (pos 1))) ∷ (least, Some (neg_ℤ (pos 2147483648)))
    ∷ (Binary Sub least (Number 1), None) ∷ (between 46341 Mul 46341, None) ∷ (between 46340 Mul 46340, Some (pos 2147395600)) ∷ (Minus least, None) ∷ []

-- division is toward zero; it is undefined by 0, and where the quotient doesn't fit
abbrev pub quotients : List (Expr × Option ℤ)
quotients =
    (between 7 Div 2, Some (pos 3)) ∷ (negative 7 Div 2, Some (neg_ℤ (pos 3))) ∷ (negative 7 Rem 2, Some (neg_ℤ (pos 1)))
    ∷ (Binary Rem (Number 7) (Minus (Number 2)), Some (pos 1)) ∷ (undefined, None) ∷ (between 1 Rem 0, None)
    ∷ (Binary Div least (Minus (Number 1)), None) ∷ (Binary Rem least (Minus (Number 1)), None) ∷ []

-- tests give 0 or 1; where the left side decides, the right one isn't evaluated
abbrev pub tests : List (Expr × Option ℤ)
tests =
    (between 2 Lt 3, Some (pos 1)) ∷ (between 3 Lt 3, Some (pos 0)) ∷ (between 3 Le 3, Some (pos 1)) ∷ (negative 3 Gt 2, Some (pos 0)) ∷ (between 3 Ge 4, Some (pos 0))
    ∷ (between 3 Eq 3, Some (pos 1)) ∷ (between 3 Ne 3, Some (pos 0)) ∷ (Not (Number 5), Some (pos 0)) ∷ (Not (Number 0), Some (pos 1)) ∷ (Not undefined, None)
    ∷ (Binary And (Number 0) undefined, Some (pos 0)) ∷ (Binary And (Number 5) undefined, None) ∷ (between 5 And 6, Some (pos 1)) ∷ (Binary And undefined (Number 0), None)
    ∷ (Binary Or (Number 5) undefined, Some (pos 1)) ∷ (Binary Or (Number 0) undefined, None) ∷ (between 0 Or 6, Some (pos 1)) ∷ (between 0 Or 0, Some (pos 0)) ∷ []
