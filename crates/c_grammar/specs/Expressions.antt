-- Expressions, places and calls (ISO/IEC 9899:1999, sections 6.5.1 to 6.5.14, narrowed).
use Rattle.std.specs.Prelude.{◌≡◌, ℕ, zero, suc, max, List, [], ◌∷◌, Option, Some, None}
use Rattle.c_lexer.specs.declared.token.Sign.{Sign}
use Rattle.c_lexer.specs.declared.token.Sign.TheVariants as s
use Rattle.c_tree.specs.declared.expr.Op.{Op}
use Rattle.c_tree.specs.declared.expr.Op.TheVariants as op
use Rattle.c_tree.specs.Expressions as tree
use Rattle.c_tree.specs.Expressions.{Expr, Exprs, Place, listed}
use Rattle.c_grammar.specs.declared.words.FixedWord.TheVariants as w
use Rattle.c_grammar.specs.Items.{What, Item, at, sign, fixed, name_of, callee}
use Rattle.c_grammar.specs.Levels.{Tall, tall, over, gathered}
use Rattle.c_grammar.specs.Commas.{Commas}

-- In each relation the tokens `before` are what it is about, and then the tokens `after`: `Spells.. before after value`.

-- ---- casts

-- cast = ( long ) | ( intptr_t )
pub data SpellsCast : List Item → List Item → Type 0 where
  long : {l m n : ℕ} {rest : List Item} → SpellsCast (sign l s.LeftParenthesis ∷ fixed m w.Long ∷ sign n s.RightParenthesis ∷ rest) rest
  int_pointer : {l m n : ℕ} {rest : List Item} → SpellsCast (sign l s.LeftParenthesis ∷ fixed m w.IntPointer ∷ sign n s.RightParenthesis ∷ rest) rest

-- ---- operators

-- The operator between two operands that a sign is.
abbrev pub operator : Sign → Option Op
operator s.Or = Some op.Or
operator s.And = Some op.And
operator s.Equal = Some op.Eq
operator s.NotEqual = Some op.Ne
operator s.Less = Some op.Lt
operator s.LessEqual = Some op.Le
operator s.Greater = Some op.Gt
operator s.GreaterEqual = Some op.Ge
operator s.Plus = Some op.Add
operator s.Minus = Some op.Sub
operator s.Star = Some op.Mul
operator s.Slash = Some op.Div
operator s.Percent = Some op.Rem
operator other = None

-- How loosely an operator binds.
abbrev pub looseness : Op → ℕ
looseness op.Or = 6
looseness op.And = 5
looseness op.Eq = 4
looseness op.Ne = 4
looseness op.Lt = 3
looseness op.Le = 3
looseness op.Gt = 3
looseness op.Ge = 3
looseness op.Add = 2
looseness op.Sub = 2
looseness op.Mul = 1
looseness op.Div = 1
looseness op.Rem = 1

-- The looseness of the operator that binds loosest.
abbrev pub loosest : ℕ
loosest = 6

-- An operator between two operands, which stand one level below it.
abbrev pub joined : Op → Tall Expr → Tall Expr → Tall Expr
joined o a b = over (tree.Binary o a.tree b.tree) (max a.levels b.levels)

-- ---- expressions

mutual
  -- primary = K | N | N [ e ] | ( e ) | [( int )] cast N
  pub data SpellsPrimary : List Item → List Item → Tall Expr → Type 0 where
    number : {l value : ℕ} {rest : List Item} → SpellsPrimary (at l (What.Number value) ∷ rest) rest (over (tree.Number value) 0)
    name : {l : ℕ} {a : What} {n : List ℕ} {rest : List Item} → name_of a ≡ Some n → SpellsPrimary (at l a ∷ rest) rest (over (tree.Name n) 0)
    element : {l m k : ℕ} {a : What} {n : List ℕ} {ts rest : List Item} {e : Tall Expr}
        → name_of a ≡ Some n → SpellsExpression loosest ts (sign k s.RightBracket ∷ rest) e
        → SpellsPrimary (at l a ∷ sign m s.LeftBracket ∷ ts) rest (over (tree.Element n e.tree) e.levels)
    -- parentheses leave the tree, and take a level
    parentheses : {l m : ℕ} {ts rest : List Item} {e : Tall Expr}
        → SpellsExpression loosest ts (sign m s.RightParenthesis ∷ rest) e → SpellsPrimary (sign l s.LeftParenthesis ∷ ts) rest (over e.tree e.levels)
    argument : {l : ℕ} {a : What} {n : List ℕ} {ts rest : List Item}
        → SpellsCast ts (at l a ∷ rest) → name_of a ≡ Some n → SpellsPrimary ts rest (over (tree.Arg n) 0)
    int_argument : {l m k j : ℕ} {a : What} {n : List ℕ} {ts rest : List Item}
        → SpellsCast ts (at j a ∷ rest) → name_of a ≡ Some n
        → SpellsPrimary (sign l s.LeftParenthesis ∷ fixed m w.Int ∷ sign k s.RightParenthesis ∷ ts) rest (over (tree.Arg n) 0)

  -- unary = ! unary | - unary | primary
  pub data SpellsUnary : List Item → List Item → Tall Expr → Type 0 where
    not : {l : ℕ} {ts rest : List Item} {e : Tall Expr} → SpellsUnary ts rest e → SpellsUnary (sign l s.Not ∷ ts) rest (over (tree.Not e.tree) e.levels)
    minus : {l : ℕ} {ts rest : List Item} {e : Tall Expr} → SpellsUnary ts rest e → SpellsUnary (sign l s.Minus ∷ ts) rest (over (tree.Minus e.tree) e.levels)
    primary : {ts rest : List Item} {e : Tall Expr} → SpellsPrimary ts rest e → SpellsUnary ts rest e

  -- An expression whose operators bind at most so loosely. Operators of one looseness group to the left.
  pub data SpellsExpression : ℕ → List Item → List Item → Tall Expr → Type 0 where
    unary : {ts rest : List Item} {e : Tall Expr} → SpellsUnary ts rest e → SpellsExpression zero ts rest e
    tighter : {k : ℕ} {ts rest : List Item} {e : Tall Expr} → SpellsExpression k ts rest e → SpellsExpression (suc k) ts rest e
    binary : {k l : ℕ} {ts mid rest : List Item} {a b : Tall Expr} {t : Sign} {o : Op}
        → SpellsExpression (suc k) ts (sign l t ∷ mid) a → operator t ≡ Some o → looseness o ≡ suc k → SpellsExpression k mid rest b
        → SpellsExpression (suc k) ts rest (joined o a b)

-- e: an expression with any operators.
abbrev pub SpellsWhole : List Item → List Item → Tall Expr → Type 0
SpellsWhole ts rest e = SpellsExpression loosest ts rest e

-- e {, e}: expressions with commas between them.
abbrev pub SpellsExpressions : List Item → List Item → List (Tall Expr) → Type 0
SpellsExpressions ts rest all = Commas SpellsWhole ts rest all

-- Expressions as arguments.
abbrev pub arguments : List (Tall Expr) → Exprs
arguments all = listed (gathered all).tree

-- How many levels they take.
abbrev pub levels_of : List (Tall Expr) → ℕ
levels_of all = (gathered all).levels

-- ---- places

-- place = N | N [ e ]: it has no level of its own
pub data SpellsPlace : List Item → List Item → Tall Place → Type 0 where
  scalar : {l : ℕ} {a : What} {n : List ℕ} {rest : List Item}
      → name_of a ≡ Some n → SpellsPlace (at l a ∷ rest) rest (tall (record { name = n; index = None }) 0)
  member : {l m k : ℕ} {a : What} {n : List ℕ} {ts rest : List Item} {e : Tall Expr}
      → name_of a ≡ Some n → SpellsWhole ts (sign k s.RightBracket ∷ rest) e
      → SpellsPlace (at l a ∷ sign m s.LeftBracket ∷ ts) rest (tall (record { name = n; index = Some e.tree }) e.levels)

-- & place
pub data SpellsAddress : List Item → List Item → Tall Place → Type 0 where
  address : {l : ℕ} {ts rest : List Item} {p : Tall Place} → SpellsPlace ts rest p → SpellsAddress (sign l s.Ampersand ∷ ts) rest p

-- The value of a place, as an expression.
abbrev pub indexed : List ℕ → Option Expr → Expr
indexed n None = tree.Name n
indexed n (Some index) = tree.Element n index

abbrev pub value_at : Place → Expr
value_at p = indexed p.name p.index

-- ---- calls

-- A function, and the arguments that it is called with.
pub record Called : Type 0 where
  pub function : List ℕ
  pub args : Exprs

-- call = N ( [e {, e}] ): it has no level of its own
pub data SpellsCall : List Item → List Item → Tall Called → Type 0 where
  no_arguments : {l m n : ℕ} {a : What} {f : List ℕ} {rest : List Item}
      → callee a ≡ Some f
      → SpellsCall (at l a ∷ sign m s.LeftParenthesis ∷ sign n s.RightParenthesis ∷ rest) rest (tall (record { function = f; args = arguments [] }) 0)
  with_arguments : {l m n : ℕ} {a : What} {f : List ℕ} {ts rest : List Item} {all : List (Tall Expr)}
      → callee a ≡ Some f → SpellsExpressions ts (sign n s.RightParenthesis ∷ rest) all
      → SpellsCall (at l a ∷ sign m s.LeftParenthesis ∷ ts) rest (tall (record { function = f; args = arguments all }) (levels_of all))

-- ---- the argument of a new thread

-- No cast stands here.
abbrev pub NoCast : List Item → Type 0
NoCast ts = (rest : List Item) → SpellsCast ts rest → ⊥

-- arg = NULL | ( void * ) [cast] unary. A cast directly after `( void * )` is this one, and begins no `unary`.
pub data SpellsArgument : List Item → List Item → Tall Expr → Type 0 where
  null : {l : ℕ} {rest : List Item} → SpellsArgument (fixed l w.Null ∷ rest) rest (tall (tree.Number 0) 0)
  plain : {l m n k : ℕ} {ts rest : List Item} {e : Tall Expr}
      → NoCast ts → SpellsUnary ts rest e
      → SpellsArgument (sign l s.LeftParenthesis ∷ fixed m w.Void ∷ sign n s.Star ∷ sign k s.RightParenthesis ∷ ts) rest e
  cast : {l m n k : ℕ} {ts mid rest : List Item} {e : Tall Expr}
      → SpellsCast ts mid → SpellsUnary mid rest e
      → SpellsArgument (sign l s.LeftParenthesis ∷ fixed m w.Void ∷ sign n s.Star ∷ sign k s.RightParenthesis ∷ ts) rest e
