-- The canonical layout of expressions and places.
use Rattle.std.specs.Prelude.{ℕ, Bool, true, false, nat_le, nat_lt, List, [], ◌∷◌, ◌++◌, codes, Option, Some, None}
use Rattle.c_lexer.specs.declared.token.Sign.{Sign}
use Rattle.c_lexer.specs.declared.token.Sign.TheVariants as s
use Rattle.c_layout.specs.Layout.{Item, word, number, sign, space}
use Rattle.c_tree.specs.declared.expr.Op.{Op}
use Rattle.c_tree.specs.declared.expr.Op.TheVariants as op
use Rattle.c_tree.specs.Expressions.{Expr, Exprs, Number, Name, Element, Arg, Not, Minus, Binary, Place}
use Rattle.c_tree.specs.Expressions as tree

-- How tightly each operator binds (ISO/IEC 9899:1999, sections 6.5.5 to 6.5.14).
abbrev pub binding : Op → ℕ
binding op.Or = 0
binding op.And = 1
binding op.Eq = 2
binding op.Ne = 2
binding op.Lt = 3
binding op.Le = 3
binding op.Gt = 3
binding op.Ge = 3
binding op.Add = 4
binding op.Sub = 4
binding op.Mul = 5
binding op.Div = 5
binding op.Rem = 5

-- How tightly an expression is held together: all but binary ones bind tighter than each operator.
abbrev pub strength : Expr → ℕ
strength (Binary o left right) = binding o
strength e = 6

-- Whether an expression is of this form.
abbrev pub is_binary : Expr → Bool
is_binary (Binary o left right) = true
is_binary e = false

abbrev pub is_minus : Expr → Bool
is_minus (Minus operand) = true
is_minus e = false

-- The sign of each operator.
abbrev pub sign_of : Op → Sign
sign_of op.Or = s.Or
sign_of op.And = s.And
sign_of op.Eq = s.Equal
sign_of op.Ne = s.NotEqual
sign_of op.Lt = s.Less
sign_of op.Le = s.LessEqual
sign_of op.Gt = s.Greater
sign_of op.Ge = s.GreaterEqual
sign_of op.Add = s.Plus
sign_of op.Sub = s.Minus
sign_of op.Mul = s.Star
sign_of op.Div = s.Slash
sign_of op.Rem = s.Percent

-- In parentheses where they are needed.
abbrev pub wrapped : Bool → List Item → List Item
wrapped false items = items
wrapped true items = sign s.LeftParenthesis ∷ (items ++ sign s.RightParenthesis ∷ [])

-- In brackets.
abbrev pub in_brackets : List Item → List Item
in_brackets items = sign s.LeftBracket ∷ (items ++ sign s.RightBracket ∷ [])

-- Behind a space where one is needed.
abbrev pub spaced : Bool → List Item → List Item
spaced false items = items
spaced true items = space ∷ items

-- `(int)(long)`
abbrev pub parameter_cast : List Item
parameter_cast = sign s.LeftParenthesis ∷ word (codes "int") ∷ sign s.RightParenthesis ∷ sign s.LeftParenthesis ∷ word (codes "long") ∷ sign s.RightParenthesis ∷ []

-- ` + `, for each operator.
abbrev pub operator : Op → List Item
operator o = space ∷ sign (sign_of o) ∷ space ∷ []

-- An expression. Parentheses stand only where an operand of a binary operator binds looser than it, or equally on its right,
-- and round a binary operand of a unary sign; a space stands round binary operators, and between the signs of `- -x`.
abbrev pub expression : Expr → List Item
expression (Number n) = number n ∷ []
expression (Name x) = word x ∷ []
expression (Element x index) = word x ∷ in_brackets (expression index)
expression (Arg x) = parameter_cast ++ word x ∷ []
expression (Not a) = sign s.Not ∷ wrapped (is_binary a) (expression a)
expression (Minus a) = sign s.Minus ∷ spaced (is_minus a) (wrapped (is_binary a) (expression a))
expression (Binary o a b) =
    wrapped (nat_lt (strength a) (binding o)) (expression a) ++ (operator o ++ wrapped (nat_le (strength b) (binding o)) (expression b))

-- A name, and the index of a member in brackets, if there is one.
abbrev pub index : Option Expr → List Item
index None = []
index (Some e) = in_brackets (expression e)

abbrev pub place : Place → List Item
place p = word p.name ∷ index p.index

-- ---- lists

-- Each of these behind a comma and a space.
abbrev pub followed : List (List Item) → List Item
followed [] = []
followed (x ∷ xs) = sign s.Comma ∷ space ∷ (x ++ followed xs)

-- With a comma and a space between each two.
abbrev pub separated : List (List Item) → List Item
separated [] = []
separated (x ∷ xs) = x ++ followed xs

-- A number by itself.
abbrev pub numeral : ℕ → List Item
numeral n = number n ∷ []

-- The layouts of expressions, one for each.
abbrev pub expressions : Exprs → List (List Item)
expressions tree.Nil = []
expressions (tree.Cons e es) = expression e ∷ expressions es
