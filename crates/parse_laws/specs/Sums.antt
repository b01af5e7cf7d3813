-- The small language: lists of sums, and their levels.
use Rattle.std.specs.Prelude.{◌≡◌, ◌++◌, ℕ, zero, suc, max, List, [], ◌∷◌, Option, Some, None}
use Rattle.parse_laws.specs.declared.token.Token.{Token}
use Rattle.parse_laws.specs.declared.token.Token.TheVariants as t
use Rattle.parse_laws.specs.declared.tree.Operator.{Operator}
use Rattle.parse_laws.specs.declared.tree.Operator.TheVariants as op
use Rattle.parse_laws.specs.declared.tree.Sum.{Sum}
use Rattle.parse_laws.specs.declared.tree.Sum.TheVariants as sum
use Rattle.parse_laws.specs.declared.tree.Tall.{Tall}

-- a tree, and how many levels stand below its own
abbrev pub tall : {A : Type 0} → A → ℕ → Tall A
tall x h = record { tree = x; height = h }

-- the operator that a token is at a level of precedence, where 0 binds tightest
abbrev pub operator : ℕ → Token → Option Operator
operator zero t.Times = Some op.Times
operator (suc zero) t.Plus = Some op.Plus
operator _ _ = None

-- both operands are a level down
abbrev pub joined : Operator → Tall Sum → Tall Sum → Tall Sum
joined o a b = tall (sum.Binary o a.tree b.tree) (suc (max a.height b.height))

-- so is what stands behind a sign
abbrev pub negative : Tall Sum → Tall Sum
negative a = tall (sum.Negative a.tree) (suc a.height)

-- and the inside of parentheses
abbrev pub wrapped : Tall Sum → Tall Sum
wrapped a = tall a.tree (suc a.height)

-- SpellsSum k ts rest a: the tokens ts are the sum a with operators of the levels below k, and then rest.
pub data SpellsSum : ℕ → List Token → List Token → Tall Sum → Type 0 where
  number : {n : ℕ} {rest : List Token} → SpellsSum zero (t.Number n ∷ rest) rest (tall (sum.Number n) 0)
  nothing : {rest : List Token} → SpellsSum zero (t.LParen ∷ t.RParen ∷ rest) rest (tall sum.Nothing 0)
  parens : {ts rest : List Token} {a : Tall Sum} → SpellsSum 2 ts (t.RParen ∷ rest) a → SpellsSum zero (t.LParen ∷ ts) rest (wrapped a)
  minus : {ts rest : List Token} {a : Tall Sum} → SpellsSum zero ts rest a → SpellsSum zero (t.Minus ∷ ts) rest (negative a)
  tighter : {k : ℕ} {ts rest : List Token} {a : Tall Sum} → SpellsSum k ts rest a → SpellsSum (suc k) ts rest a
  binary : {k : ℕ} {ts mid rest : List Token} {a b : Tall Sum} {o : Operator} {t : Token}
      → SpellsSum (suc k) ts (t ∷ mid) a → operator k t ≡ Some o → SpellsSum k mid rest b → SpellsSum (suc k) ts rest (joined o a b)

abbrev pub alone : Tall Sum → Tall (List Sum)
alone a = tall (a.tree ∷ []) a.height

abbrev pub followed : Tall (List Sum) → Tall Sum → Tall (List Sum)
followed all a = tall (all.tree ++ a.tree ∷ []) (max all.height a.height)

-- sums with commas between them; lists grow at the end, as the loop that reads them does
pub data SpellsList : List Token → List Token → Tall (List Sum) → Type 0 where
  one : {ts rest : List Token} {a : Tall Sum} → SpellsSum 2 ts rest a → SpellsList ts rest (alone a)
  more : {ts mid rest : List Token} {all : Tall (List Sum)} {a : Tall Sum} → SpellsList ts (t.Comma ∷ mid) all → SpellsSum 2 mid rest a → SpellsList ts rest (followed all a)

-- the tokens are a list of sums
abbrev pub Spells : List Token → Tall (List Sum) → Type 0
Spells ts all = SpellsList ts [] all

abbrev pub height : {A : Type 0} → Tall A → ℕ
height a = a.height
