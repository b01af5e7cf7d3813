-- Operators of any number of levels of precedence, all to the left, over operands that may hold whole expressions a level down.
use Rattle.std.specs.Prelude.{ℕ, zero, suc, nat_lt, if◌then◌else◌, List, Option, Some, None}
use Rattle.parse_laws.specs.Parser.{Outcome, Parser, ◌>>=◌, pure, refuse, Move, Stop, Deep, Go, loop}

pub record Operators (Token Operator A : Type 0) : Type 0 where
  -- the operator that a token is at a level of precedence, where 0 binds tightest
  pub operator : ℕ → Token → Option Operator
  -- an operator with both its operands
  pub joined : Operator → A → A → A
  -- how many levels stand below a value's own
  pub height : A → ℕ
  -- an operand in a room; it is given what reads an expression of each level of precedence, with a room one less
  pub operand : ℕ → (ℕ → List Token → Outcome Token A) → List Token → Outcome Token A

-- An operator puts the operand before it, of the height h, a level down. Where the room r is too small for that, it is too deep.
abbrev pub operate_by : {Token Operator A : Type 0} → ℕ → ℕ → (Operator → Parser Token A) → Option Operator → Move Token A
operate_by r h next None = Stop
operate_by r h next (Some o) = if nat_lt h r then Go (next o) else Deep

-- one more operator of the level k, and the operand on its right
abbrev pub operate : {Token Operator A : Type 0} → Operators Token Operator A → ℕ → ℕ → Parser Token A → A → Token → Move Token A
operate g r k right a u = operate_by r (g.height a) (λ o. right >>= λ b. pure (g.joined o a b)) (g.operator k u)

-- goes on behind an operand, with operators of the levels below k
unfoldable pub climb : {Token Operator A : Type 0} → Operators Token Operator A → ℕ → (ℕ → Parser Token A) → ℕ → A → Parser Token A
climb g r below zero a = pure a
climb g r below (suc k) a = climb g r below k a >>= loop (operate g r k (below k))

-- an expression with operators of the levels below k, in the room r
unfoldable pub chain : {Token Operator A : Type 0} → Operators Token Operator A → ℕ → ℕ → Parser Token A
chain g zero k = g.operand zero (λ j. refuse) >>= climb g zero (λ j. refuse) k
chain g (suc r) k = g.operand (suc r) (chain g r) >>= climb g (suc r) (chain g r) k

-- the same, a level down
abbrev pub below : {Token Operator A : Type 0} → Operators Token Operator A → ℕ → ℕ → Parser Token A
below g zero k = refuse
below g (suc r) k = chain g r k
