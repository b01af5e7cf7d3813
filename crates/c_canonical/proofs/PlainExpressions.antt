-- No token of the canonical layout of an expression is a definition, nor of a place or a list.
use Rattle.std.proofs.Common.{Bool, true, false, List, [], ◌∷◌, ◌++◌, map, Option, Some, None, refl}
use Rattle.std.specs.Prelude.{nat_le, nat_lt}
use Rattle.c_lexer.specs.declared.token.Sign.{Sign}
use Rattle.c_lexer.specs.declared.token.Sign.TheVariants as s
use Rattle.c_layout.specs.Layout.{Item as Part, sign}
use Rattle.c_tree.specs.Expressions.{Expr, Exprs, Number, Name, Element, Arg, Not, Minus, Binary, Place}
use Rattle.c_tree.specs.Expressions as tree
use Rattle.c_canonical.specs.Expressions.{binding, strength, is_binary, is_minus, wrapped, spaced, operator, expression, index, place, followed, separated, expressions}
use Rattle.c_canonical.proofs.Shown.{Plain, plain_append}

-- ---- expressions

pub before_sign : (x : Sign) (items : List Part) → Plain items → Plain (items ++ sign x ∷ [])
before_sign x items p = plain_append items (sign x ∷ []) p (refl, tt)

pub wrapped_plain : (b : Bool) (items : List Part) → Plain items → Plain (wrapped b items)
wrapped_plain false items p = p
wrapped_plain true items p = (refl, before_sign s.RightParenthesis items p)

spaced_plain : (b : Bool) (items : List Part) → Plain items → Plain (spaced b items)
spaced_plain false items p = p
spaced_plain true items p = p

pub expression_plain : (e : Expr) → Plain (expression e)
expression_plain (Number n) = (refl, tt)
expression_plain (Name x) = (refl, tt)
expression_plain (Element x index) = (refl, (refl, before_sign s.RightBracket (expression index) (expression_plain index)))
expression_plain (Arg x) = (refl, (refl, (refl, (refl, (refl, (refl, (refl, tt)))))))
expression_plain (Not a) = (refl, wrapped_plain (is_binary a) (expression a) (expression_plain a))
expression_plain (Minus a) = (refl, spaced_plain (is_minus a) (wrapped (is_binary a) (expression a)) (wrapped_plain (is_binary a) (expression a) (expression_plain a)))
expression_plain (Binary o a b) =
    plain_append (wrapped (nat_lt (strength a) (binding o)) (expression a)) (operator o ++ wrapped (nat_le (strength b) (binding o)) (expression b))
    (wrapped_plain (nat_lt (strength a) (binding o)) (expression a) (expression_plain a))
    (refl, wrapped_plain (nat_le (strength b) (binding o)) (expression b) (expression_plain b))

index_plain : (i : Option Expr) → Plain (index i)
index_plain None = tt
index_plain (Some e) = (refl, before_sign s.RightBracket (expression e) (expression_plain e))

pub place_plain : (p : Place) → Plain (place p)
place_plain p = (refl, index_plain p.index)

-- ---- lists

-- Each of these layouts is plain.
abbrev pub EachPlain : List (List Part) → Type 0
EachPlain [] = Unit {0}
EachPlain (x ∷ xs) = Plain x × EachPlain xs

pub mapped_plain : {X : Type 0} (item : X → List Part) → ((x : X) → Plain (item x)) → (xs : List X) → EachPlain (map item xs)
mapped_plain item h [] = tt
mapped_plain item h (x ∷ xs) = (h x, mapped_plain item h xs)

pub expressions_plain : (es : Exprs) → EachPlain (expressions es)
expressions_plain tree.Nil = tt
expressions_plain (tree.Cons e es) = (expression_plain e, expressions_plain es)

pub followed_plain : (xs : List (List Part)) → EachPlain xs → Plain (followed xs)
followed_plain [] h = tt
followed_plain (x ∷ xs) h = (refl, plain_append x (followed xs) h.0 (followed_plain xs h.1))

pub separated_plain : (xs : List (List Part)) → EachPlain xs → Plain (separated xs)
separated_plain [] h = tt
separated_plain (x ∷ xs) h = plain_append x (followed xs) h.0 (followed_plain xs h.1)
