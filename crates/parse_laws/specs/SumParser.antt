-- The parser of lists of sums, as functions on lists of tokens.
use Rattle.std.specs.Prelude.{ℕ, zero, suc, Bool, true, false, List, [], ◌∷◌}
use Rattle.std.specs.Option.{is_some}
use Rattle.parse_laws.specs.declared.token.Token.{Token}
use Rattle.parse_laws.specs.declared.token.Token.TheVariants as t
use Rattle.parse_laws.specs.declared.tree.Operator.{Operator}
use Rattle.parse_laws.specs.declared.tree.Sum.{Sum}
use Rattle.parse_laws.specs.declared.tree.Sum.TheVariants as sum
use Rattle.parse_laws.specs.declared.tree.Tall.{Tall}
use Rattle.parse_laws.specs.Parser.{Parser, ◌>>=◌, pure, refuse, Move, Stop, Deep, Go, commit, must, when, a_level_down, many, separated}
use Rattle.parse_laws.specs.Operators.{Operators, chain}
use Rattle.parse_laws.specs.Sums.{tall, operator, joined, negative, wrapped, alone, followed}

abbrev pub is_rparen : Token → Bool
is_rparen t.RParen = true
is_rparen _ = false

abbrev pub is_comma : Token → Bool
is_comma t.Comma = true
is_comma _ = false

-- the tokens with which a sum begins
abbrev pub begins_sum : Token → Bool
begins_sum (t.Number n) = true
begins_sum t.LParen = true
begins_sum t.Minus = true
begins_sum _ = false

-- a sum and the parenthesis that closes it
abbrev pub close : Tall Sum → Parser Token (Tall Sum)
close a = must is_rparen (pure (wrapped a))

abbrev pub closed : Parser Token (Tall Sum) → Parser Token (Tall Sum)
closed inside = inside >>= close

abbrev pub nothing_by : Token → Move Token (Tall Sum)
nothing_by t.RParen = Go (pure (tall sum.Nothing 0))
nothing_by _ = Stop

-- behind an opening parenthesis: the closing one, or a sum a level down
unfoldable pub opened : ℕ → Parser Token (Tall Sum) → Parser Token (Tall Sum)
opened r inside = commit nothing_by (a_level_down begins_sum (λ _. closed inside) r)

abbrev pub negated : Parser Token (Tall Sum) → Parser Token (Tall Sum)
negated below = below >>= λ a. pure (negative a)

-- what a token begins in the room r; `lower` reads sums a level down
abbrev pub operand_by : ℕ → (ℕ → Parser Token (Tall Sum)) → Token → Move Token (Tall Sum)
operand_by r lower (t.Number n) = Go (pure (tall (sum.Number n) 0))
operand_by r lower t.LParen = Go (opened r (lower 2))
operand_by zero lower t.Minus = Deep
operand_by (suc r) lower t.Minus = Go (negated (lower 0))
operand_by r lower _ = Stop

unfoldable pub operand : ℕ → (ℕ → Parser Token (Tall Sum)) → Parser Token (Tall Sum)
operand r lower = commit (operand_by r lower) refuse

abbrev pub sums : Operators Token Operator (Tall Sum)
sums = record { operator = operator; joined = joined; height = λ a. a.height; operand = operand }

-- a list of sums, in the room r
unfoldable pub list : ℕ → Parser Token (Tall (List Sum))
list r = separated is_comma (chain sums r 2) followed alone

-- a sum behind a comma
abbrev pub behind_comma : ℕ → Token → Move Token (Tall Sum)
behind_comma r u = when (is_comma u) (chain sums r 2)

-- what goes on behind the sums of a list
abbrev pub more_sums : ℕ → Tall (List Sum) → Parser Token (Tall (List Sum))
more_sums r = many (behind_comma r) followed

abbrev pub comma_comes : List Token → Bool
comma_comes [] = false
comma_comes (u ∷ rest) = is_comma u

-- an operator of this level comes
abbrev pub comes : ℕ → List Token → Bool
comes k [] = false
comes k (u ∷ rest) = is_some (operator k u)
