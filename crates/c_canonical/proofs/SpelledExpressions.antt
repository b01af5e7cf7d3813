-- The canonical tokens of a shaped expression spell it.
use Rattle.std.proofs.Common.{◌≡◌, ℕ, zero, suc, ◌+◌, ◌-◌, ◌≤◌, max, Bool, true, false, List, [], ◌∷◌, ◌++◌, Some, refl, sym, subst, arith}
use Rattle.std.specs.Prelude.{nat_lt, nat_le}
use Rattle.std.proofs.lemmas.Bool.{ltb-false, leb-false}
use Rattle.c_lexer.specs.declared.token.Sign.{Sign}
use Rattle.c_lexer.specs.declared.token.Sign.TheVariants as s
use Rattle.c_layout.specs.Layout as layout
use Rattle.c_layout.specs.Layout.{Item as Part}
use Rattle.c_tree.specs.declared.expr.Op.{Op}
use Rattle.c_tree.specs.declared.expr.Op.TheVariants as op
use Rattle.c_tree.specs.Expressions.{Expr, Number, Name, Element, Arg, Not, Minus, Binary}
use Rattle.c_grammar.specs.Items.{Item, sign}
use Rattle.c_grammar.specs.Levels.{Tall, tall}
use Rattle.c_grammar.specs.Expressions as e
use Rattle.c_grammar.specs.Expressions.{looseness, loosest, SpellsUnary, SpellsExpression, SpellsWhole}
use Rattle.c_canonical.specs.Expressions.{binding, strength, is_binary, is_minus, sign_of, wrapped, spaced, operator, expression}
use Rattle.c_canonical.specs.Shown.{Shows, nothing, shown, unseen}
use Rattle.c_canonical.specs.Shaped.{ShapedExpr}
use Rattle.c_canonical.proofs.Shown.{shows_append}
use Rattle.c_canonical.proofs.Steps.{at_sign, at_end}

-- ---- looseness

-- The looseness that an expression needs.
abbrev pub loose : Expr → ℕ
loose (Binary o a b) = looseness o
loose x = 0

-- Items spell this expression with operators that bind at most so loosely, on some levels.
pub record SpelledAs (k : ℕ) (x : Expr) (ts rest : List Item) : Type 0 where
  pub levels : ℕ
  pub spells : SpellsExpression k ts rest (tall x levels)

-- The same as an operand of a unary sign.
pub record UnaryAs (x : Expr) (ts rest : List Item) : Type 0 where
  pub levels : ℕ
  pub spells : SpellsUnary ts rest (tall x levels)

-- an expression is one with looser operators, too
raised_by : (d j k : ℕ) {ts rest : List Item} {x : Tall Expr} → k ≡ j + d → SpellsExpression j ts rest x → SpellsExpression k ts rest x
raised_by zero j k {ts} {rest} {x} q h = let same : j ≡ k = omega (arith, q) in subst (λ (i : ℕ). SpellsExpression i ts rest x) same h
raised_by (suc d) j zero q h = absurd (omega (arith, q))
raised_by (suc d) j (suc k) q h = e.tighter (raised_by d j k (omega (arith, q)) h)

pub raised : (j k : ℕ) {x : Expr} {ts rest : List Item} → j ≤ k → SpelledAs j x ts rest → SpelledAs k x ts rest
raised j k le h = record { levels = h.levels; spells = raised_by (k - j) j k (omega (arith, le)) h.spells }

-- binding and looseness are opposite orders
both_orders : (o : Op) → binding o + looseness o ≡ 6
both_orders op.Or = refl
both_orders op.And = refl
both_orders op.Eq = refl
both_orders op.Ne = refl
both_orders op.Lt = refl
both_orders op.Le = refl
both_orders op.Gt = refl
both_orders op.Ge = refl
both_orders op.Add = refl
both_orders op.Sub = refl
both_orders op.Mul = refl
both_orders op.Div = refl
both_orders op.Rem = refl

orders : (x : Expr) → strength x + loose x ≡ 6
orders (Binary o a b) = both_orders o
orders _ = refl

operator_is : (o : Op) → e.operator (sign_of o) ≡ Some o
operator_is op.Or = refl
operator_is op.And = refl
operator_is op.Eq = refl
operator_is op.Ne = refl
operator_is op.Lt = refl
operator_is op.Le = refl
operator_is op.Gt = refl
operator_is op.Ge = refl
operator_is op.Add = refl
operator_is op.Sub = refl
operator_is op.Mul = refl
operator_is op.Div = refl
operator_is op.Rem = refl

some_looseness : (o : Op) → looseness o ≡ suc (looseness o - 1)
some_looseness op.Or = refl
some_looseness op.And = refl
some_looseness op.Eq = refl
some_looseness op.Ne = refl
some_looseness op.Lt = refl
some_looseness op.Le = refl
some_looseness op.Gt = refl
some_looseness op.Ge = refl
some_looseness op.Add = refl
some_looseness op.Sub = refl
some_looseness op.Mul = refl
some_looseness op.Div = refl
some_looseness op.Rem = refl

-- ---- before a sign

-- What the tokens of an expression and a sign after it show.
pub record Before (x : Expr) (t : Sign) (parts : List Part) (ts rest : List Item) : Type 0 where
  pub line : ℕ
  pub mid : List Item
  pub spelled : SpelledAs loosest x ts (sign line t ∷ mid)
  pub after : Shows parts mid rest

-- The tokens of this expression spell it.
abbrev pub Spelled : Expr → Type 0
Spelled x = (ts rest : List Item) → Shows (expression x) ts rest → SpelledAs (loose x) x ts rest

-- as an expression with any operators
whole : (x : Expr) (ts rest : List Item) → SpelledAs (loose x) x ts rest → SpelledAs loosest x ts rest
whole x ts rest h = raised (loose x) loosest (omega (arith, orders x)) h

pub before : (x : Expr) (t : Sign) (parts : List Part) (ts rest : List Item) → Spelled x → Shows (expression x ++ layout.sign t ∷ parts) ts rest → Before x t parts ts rest
before x t parts ts rest spells h =
    let p = shows_append (expression x) (layout.sign t ∷ parts) ts rest h in
    at_sign (λ (mid : List Item). SpelledAs loosest x ts mid → Before x t parts ts rest) t parts p.mid rest p.second
    (λ line mid after spelled. record { line = line; mid = mid; spelled = spelled; after = after }) (whole x ts p.mid (spells ts p.mid p.first))

-- The same where nothing follows the sign.
pub record Ends (x : Expr) (t : Sign) (ts rest : List Item) : Type 0 where
  pub line : ℕ
  pub spelled : SpelledAs loosest x ts (sign line t ∷ rest)

pub ends : (x : Expr) (t : Sign) (ts rest : List Item) → Spelled x → Shows (expression x ++ layout.sign t ∷ []) ts rest → Ends x t ts rest
ends x t ts rest spells h =
    let b = before x t [] ts rest spells h in
    at_end (λ (mid : List Item). SpelledAs loosest x ts (sign b.line t ∷ mid) → Ends x t ts rest) b.after (λ spelled. record { line = b.line; spelled = spelled }) b.spelled

-- ---- operands

parenthesized : (x : Expr) (ts rest : List Item) → Spelled x → Shows (wrapped true (expression x)) ts rest → UnaryAs x ts rest
parenthesized x ts rest spells h =
    at_sign (λ (all : List Item). UnaryAs x all rest) s.LeftParenthesis _ ts rest h
    (λ line mid inside. let b = ends x s.RightParenthesis mid rest spells inside in record { levels = suc b.spelled.levels; spells = e.primary (e.parentheses b.spelled.spells) })

unary_of : (x : Expr) (ts rest : List Item) → SpelledAs 0 x ts rest → UnaryAs x ts rest
unary_of x ts rest h = record { levels = h.levels; spells = inside h.spells }
  where
    inside : {y : Tall Expr} → SpellsExpression 0 ts rest y → SpellsUnary ts rest y
    inside (e.unary u) = u

-- in parentheses where it is binary
pub operand : (x : Expr) (ts rest : List Item) → Spelled x → Shows (wrapped (is_binary x) (expression x)) ts rest → UnaryAs x ts rest
operand (Binary o a b) ts rest spells h = parenthesized (Binary o a b) ts rest spells h
operand x ts rest spells h = unary_of x ts rest (spells ts rest h)

-- in parentheses, or not where the looseness allows it
side : (b : Bool) (k : ℕ) (x : Expr) (ts rest : List Item) → (b ≡ false → loose x ≤ k) → Spelled x → Shows (wrapped b (expression x)) ts rest → SpelledAs k x ts rest
side true k x ts rest fits spells h =
    let u = parenthesized x ts rest spells h in
    raised 0 k (omega arith) (record { levels = u.levels; spells = e.unary u.spells })
side false k x ts rest fits spells h = raised (loose x) k (fits refl) (spells ts rest h)

-- ---- all

past_space : (again : Bool) (parts : List Part) (ts rest : List Item) → Shows (spaced again parts) ts rest → Shows parts ts rest
past_space true parts ts rest (unseen h) = h
past_space false parts ts rest h = h

joins : (o : Op) (a b : Expr) (ts mid rest : List Item) → SpelledAs (looseness o) a ts mid → Shows (operator o ++ wrapped (nat_le (strength b) (binding o)) (expression b)) mid rest → Spelled b
    → SpelledAs (looseness o) (Binary o a b) ts rest
joins o a b ts _ rest left (unseen (shown {line = line} {ts = next} (unseen h))) spells =
    let k = looseness o - 1 in
    let e1 : looseness o ≡ suc k = some_looseness o in
    let right = side (nat_le (strength b) (binding o)) k b next rest (λ q. omega (arith, leb-false (strength b) (binding o) q, orders b, both_orders o)) spells h in
    subst (λ (i : ℕ). SpelledAs i (Binary o a b) ts rest) (sym e1) (record {
      levels = suc (max left.levels right.levels);
      spells = e.binary (subst (λ (i : ℕ). SpellsExpression i ts (sign line (sign_of o) ∷ next) (tall a left.levels)) e1 left.spells) (operator_is o) e1 right.spells;
    })

pub expression_spelled : (x : Expr) (ts rest : List Item) → ShapedExpr x → Shows (expression x) ts rest → SpelledAs (loose x) x ts rest
expression_spelled (Number n) _ rest f (shown nothing) = record { levels = 1; spells = e.unary (e.primary e.number) }
expression_spelled (Name n) _ rest f (shown nothing) = record { levels = 1; spells = e.unary (e.primary (e.name f)) }
expression_spelled (Element n i) _ rest f (shown (shown {ts = ts} h)) =
    let b = ends i s.RightBracket ts rest (λ ts rest k. expression_spelled i ts rest f.1 k) h in
    record { levels = suc b.spelled.levels; spells = e.unary (e.primary (e.element f.0 b.spelled.spells)) }
expression_spelled (Arg n) _ rest f (shown (shown (shown (shown (shown (shown (shown nothing))))))) =
    record { levels = 1; spells = e.unary (e.primary (e.int_argument e.long f)) }
expression_spelled (Not a) _ rest f (shown {ts = ts} h) =
    let u = operand a ts rest (λ ts rest k. expression_spelled a ts rest f k) h in record { levels = suc u.levels; spells = e.unary (e.not u.spells) }
expression_spelled (Minus a) _ rest f (shown {ts = ts} h) =
    let u = operand a ts rest (λ ts rest k. expression_spelled a ts rest f k) (past_space (is_minus a) _ ts rest h) in
    record { levels = suc u.levels; spells = e.unary (e.minus u.spells) }
expression_spelled (Binary o a b) ts rest f h =
    let p = shows_append (wrapped (nat_lt (strength a) (binding o)) (expression a)) _ ts rest h in
    let left = side (nat_lt (strength a) (binding o)) (looseness o) a ts p.mid (λ q. omega (arith, ltb-false (strength a) (binding o) q, orders a, both_orders o)) (λ ts rest k. expression_spelled a ts rest f.0 k) p.first in
    joins o a b ts p.mid rest left p.second (λ ts rest k. expression_spelled b ts rest f.1 k)

pub whole_spelled : (x : Expr) (ts rest : List Item) → ShapedExpr x → Shows (expression x) ts rest → SpelledAs loosest x ts rest
whole_spelled x ts rest f h = whole x ts rest (expression_spelled x ts rest f h)
