-- The parser of expressions, places, calls and the argument of a new thread, as functions on lists of tokens.
--
-- The room of an operand, r below, is how many levels may stand below its own. The room of a statement's expression is how
-- many levels the expression may take. What is read may take one level more than it may, where it ends in `( intptr_t )`:
-- that is also the beginning of a cast, which takes no level. So the token that ends an expression is asked last whether it
-- fits, and is too deep if it doesn't.
use Rattle.std.specs.Prelude.{ℕ, zero, suc, ◌-◌, max, nat_lt, nat_eq, Bool, true, false, ◌||◌, if◌then◌else◌, List, [], ◌∷◌, ◌++◌, Option, Some, None, is_some}
use Rattle.c_lexer.specs.declared.token.Sign.{Sign}
use Rattle.c_lexer.specs.declared.token.Sign.TheVariants as s
use Rattle.c_tree.specs.declared.expr.Op.{Op}
use Rattle.c_tree.specs.Expressions as tree
use Rattle.c_tree.specs.Expressions.{Expr, Exprs, Place, listed}
use Rattle.c_grammar.specs.declared.words.FixedWord.TheVariants as w
use Rattle.c_grammar.specs.Items.{What, Item, at, name_of, callee, spelling}
use Rattle.c_grammar.specs.Levels.{Tall, tall, over}
use Rattle.c_grammar.specs.Expressions.{operator, looseness, loosest, joined, Called}
use Rattle.parse_laws.specs.Parser.{Failed, Parser, ◌>>=◌, pure, refuse, Move, Stop, Deep, Go, commit, when, must, deeper, fault_at, a_level_down, loop}
use Rattle.parse_laws.specs.Operators.{Operators, below}
use Rattle.c_expressions.specs.declared.token.Inner.{Inner}
use Rattle.c_expressions.specs.declared.token.Inner.TheVariants as i
use Rattle.c_expressions.specs.Words.{is_sign, Head, head, inner}

-- How tokens of any type are seen, and which words have no definition where they stand.
pub record Sight (Token : Type 0) : Type 0 where
  pub item : Token → Item
  -- `long` or `intptr_t` hasn't: there are casts
  pub casts : Bool
  -- `void` hasn't
  pub void : Bool
  -- `NULL` hasn't
  pub null : Bool
  -- `PTHREAD_MUTEX_INITIALIZER` hasn't
  pub ready_mutexes : Bool
  -- `PTHREAD_COND_INITIALIZER` hasn't
  pub ready_conditions : Bool
  -- `pthread_t` hasn't
  pub threads : Bool
  -- one of the words that may follow `static` outside functions hasn't
  pub declarations : Bool

abbrev pub what_at : Item → What
what_at (at line what) = what

abbrev pub seen : {Token : Type 0} → Sight Token → Token → What
seen v u = what_at (v.item u)

abbrev pub is : {Token : Type 0} → Sight Token → Sign → Token → Bool
is v sign u = is_sign sign (seen v u)

-- ---- names

abbrev pub go_named : {Token A : Type 0} → (List ℕ → Parser Token A) → Option (List ℕ) → Move Token A
go_named p None = Stop
go_named p (Some n) = Go (p n)

-- a name, and a parser behind it
abbrev pub named : {Token A : Type 0} → Sight Token → (List ℕ → Parser Token A) → Token → Move Token A
named v p u = go_named p (name_of (seen v u))

-- ---- what must fit

abbrev pub fitting : {Token A : Type 0} → Bool → Parser Token A → Move Token A
fitting fits p = if fits then Go p else Deep

-- so many levels fit into the room
abbrev pub fits : ℕ → ℕ → Bool
fits room levels = nat_lt levels (suc room)

abbrev pub close_by : {Token A : Type 0} → Sight Token → Sign → Bool → Parser Token A → Token → Move Token A
close_by v sign fits p u = if is v sign u then fitting fits p else Stop

-- a sign that ends what fits or doesn't
abbrev pub closing : {Token : Type 0} → Sight Token → Sign → Bool → Parser Token Token
closing v sign fits = commit (λ u. close_by v sign fits (pure u) u) refuse

-- and a parser behind it
abbrev pub close : {Token A : Type 0} → Sight Token → Sign → Bool → Parser Token A → Parser Token A
close v sign fits p = closing v sign fits >>= λ _. p

-- ---- what expressions begin with, and how they go on behind a name

abbrev pub begins_head : Head → Bool
begins_head Head.Other = false
begins_head _ = true

abbrev pub begins : {Token : Type 0} → Sight Token → Token → Bool
begins v u = begins_head (head (seen v u))

-- the operator that a token is
abbrev pub operator_of : What → Option Op
operator_of (What.Sign sign) = operator sign
operator_of other = None

-- behind a name an index or an operator goes on
abbrev pub goes_on : {Token : Type 0} → Sight Token → Token → Bool
goes_on v u = is v s.LeftBracket u || is_some (operator_of (seen v u))

-- ---- casts

abbrev pub argument_of : List ℕ → Tall Expr
argument_of n = over (tree.Arg n) 0

-- parentheses leave the tree, and take a level
abbrev pub wrapped : Tall Expr → Tall Expr
wrapped e = over e.tree e.levels

-- the name that is cast
unfoldable pub cast_name : {Token : Type 0} → Sight Token → Parser Token (Tall Expr)
cast_name v = commit (named v (λ n. pure (argument_of n))) refuse

abbrev pub is_cast_inner : Inner → Bool
is_cast_inner i.Long = true
is_cast_inner i.Pointer = true
is_cast_inner _ = false

-- `long` or `intptr_t`
abbrev pub is_cast_word : {Token : Type 0} → Sight Token → Token → Bool
is_cast_word v u = is_cast_inner (inner (seen v u))

-- behind `( int`
unfoldable pub int_cast : {Token : Type 0} → Sight Token → Parser Token (Tall Expr)
int_cast v = must (is v s.RightParenthesis) (must (is v s.LeftParenthesis) (must (is_cast_word v) (must (is v s.RightParenthesis) (cast_name v))))

-- behind `( intptr_t )`: a cast of a name, or else the name `intptr_t` in parentheses
abbrev pub pointer_name : Tall Expr
pointer_name = wrapped (over (tree.Name (spelling w.IntPointer)) 0)

unfoldable pub pointer_cast : {Token : Type 0} → Sight Token → Parser Token (Tall Expr)
pointer_cast v = commit (named v (λ n. pure (argument_of n))) (pure pointer_name)

-- ---- parentheses

-- an expression in a room; `lower` reads expressions a level down
abbrev pub expression_in : {Token : Type 0} → Sight Token → ℕ → (ℕ → Parser Token (Tall Expr)) → Parser Token (Tall Expr)
expression_in v r lower = a_level_down (begins v) (λ _. lower loosest) r

abbrev pub closed : {Token : Type 0} → Sight Token → ℕ → Parser Token (Tall Expr) → Parser Token (Tall Expr)
closed v r inside = inside >>= λ e. close v s.RightParenthesis (fits r e.levels) (pure (wrapped e))

-- behind `( intptr_t`, where no `)` follows: an expression that begins with that name, the token u
abbrev pub pointer_first : {Token : Type 0} → Sight Token → ℕ → (ℕ → Parser Token (Tall Expr)) → Token → Parser Token (Tall Expr)
pointer_first v zero lower u = λ ts. Failed (fault_at (goes_on v) ts) ts
pointer_first v (suc r) lower u = λ ts. closed v (suc r) (lower loosest) (u ∷ ts)

-- behind `( intptr_t`; `cast` reads what follows the cast
unfoldable pub pointer : {Token : Type 0} → Sight Token → ℕ → (ℕ → Parser Token (Tall Expr)) → Parser Token (Tall Expr) → Token → Parser Token (Tall Expr)
pointer v r lower cast u = commit (λ t. when (is v s.RightParenthesis t) cast) (pointer_first v r lower u)

abbrev pub opened_by : {Token : Type 0} → Sight Token → ℕ → (ℕ → Parser Token (Tall Expr)) → Parser Token (Tall Expr) → Parser Token (Tall Expr) → Token → Inner → Move Token (Tall Expr)
opened_by v r lower long_cast pointer_cast u i.Int = when v.casts (int_cast v)
opened_by v r lower long_cast pointer_cast u i.Long = Go (must (is v s.RightParenthesis) long_cast)
opened_by v r lower long_cast pointer_cast u i.Pointer = Go (pointer v r lower pointer_cast u)
opened_by v r lower long_cast pointer_cast u i.Other = Stop

-- behind `(`: a cast, or else an expression in parentheses; the casts are followed by what is given
unfoldable pub opened : {Token : Type 0} → Sight Token → ℕ → (ℕ → Parser Token (Tall Expr)) → Parser Token (Tall Expr) → Parser Token (Tall Expr) → Parser Token (Tall Expr)
opened v r lower long_cast pointer_cast =
    commit (λ u. opened_by v r lower long_cast pointer_cast u (inner (seen v u))) (closed v r (expression_in v r lower))

-- Something may follow `(`: a cast, or an expression a level down.
abbrev pub may_open : {Token : Type 0} → Sight Token → ℕ → Bool
may_open v zero = v.casts
may_open v (suc r) = true

-- ---- operands

-- behind `[`: an index a level down
abbrev pub index_in : {Token : Type 0} → Sight Token → ℕ → (ℕ → Parser Token (Tall Expr)) → Parser Token (Tall Expr)
index_in v r lower = lower loosest >>= λ e. close v s.RightBracket (fits r e.levels) (pure e)

-- and what it makes
abbrev pub indexed : {Token A : Type 0} → Sight Token → ℕ → (ℕ → Parser Token (Tall Expr)) → (Tall Expr → A) → Parser Token A
indexed v r lower make = index_in v r lower >>= λ e. pure (make e)

abbrev pub bracket_by : {Token A : Type 0} → Sight Token → ℕ → Parser Token A → Token → Move Token A
bracket_by v r index u = if is v s.LeftBracket u then deeper (λ _. index) r else Stop

-- behind a name: an index, and what it makes, or nothing
abbrev pub behind_name : {Token A : Type 0} → Sight Token → ℕ → (ℕ → Parser Token (Tall Expr)) → (Tall Expr → A) → A → Parser Token A
behind_name v r lower make alone = commit (bracket_by v r (indexed v r lower make)) (pure alone)

abbrev pub element : List ℕ → Tall Expr → Tall Expr
element n e = over (tree.Element n e.tree) e.levels

unfoldable pub name_operand : {Token : Type 0} → Sight Token → ℕ → (ℕ → Parser Token (Tall Expr)) → List ℕ → Parser Token (Tall Expr)
name_operand v r lower n = behind_name v r lower (element n) (over (tree.Name n) 0)

abbrev pub negation : Tall Expr → Tall Expr
negation e = over (tree.Not e.tree) e.levels

abbrev pub opposite : Tall Expr → Tall Expr
opposite e = over (tree.Minus e.tree) e.levels

-- behind a sign: an operand a level down
abbrev pub signed : {Token : Type 0} → (ℕ → Parser Token (Tall Expr)) → (Tall Expr → Tall Expr) → Parser Token (Tall Expr)
signed lower make = lower 0 >>= λ e. pure (make e)

abbrev pub operand_by : {Token : Type 0} → Sight Token → ℕ → (ℕ → Parser Token (Tall Expr)) → Head → Move Token (Tall Expr)
operand_by v r lower (Head.Value value) = Go (pure (over (tree.Number value) 0))
operand_by v r lower (Head.Word n) = Go (name_operand v r lower n)
operand_by v r lower Head.Open = fitting (may_open v r) (opened v r lower (cast_name v) (pointer_cast v))
operand_by v r lower Head.Not = deeper (λ _. signed lower negation) r
operand_by v r lower Head.Minus = deeper (λ _. signed lower opposite) r
operand_by v r lower Head.Other = Stop

-- an operand with the signs before it
unfoldable pub operand : {Token : Type 0} → Sight Token → ℕ → (ℕ → Parser Token (Tall Expr)) → Parser Token (Tall Expr)
operand v r lower = commit (λ u. operand_by v r lower (head (seen v u))) refuse

-- ---- expressions

-- an operator, if it binds so loosely
abbrev pub if_loose : ℕ → Option Op → Option Op
if_loose k None = None
if_loose k (Some o) = if nat_eq (looseness o) (suc k) then Some o else None

abbrev pub operator_at : {Token : Type 0} → Sight Token → ℕ → Token → Option Op
operator_at v k u = if_loose k (operator_of (seen v u))

abbrev pub expressions_of : {Token : Type 0} → Sight Token → Operators Token Op (Tall Expr)
expressions_of v = record { operator = operator_at v; joined = joined; height = λ e. e.levels - 1; operand = operand v }

-- expressions a level below the room
abbrev pub lower_in : {Token : Type 0} → Sight Token → ℕ → ℕ → Parser Token (Tall Expr)
lower_in v r = below (expressions_of v) r

-- any expression, in the room of a statement
abbrev pub expression : {Token : Type 0} → Sight Token → ℕ → Parser Token (Tall Expr)
expression v r = expression_in v r (lower_in v r)

-- ---- places

abbrev pub scalar : List ℕ → Tall Place
scalar n = tall (record { name = n; index = None }) 0

abbrev pub member : List ℕ → Tall Expr → Tall Place
member n e = tall (record { name = n; index = Some e.tree }) e.levels

-- behind the name of a place
abbrev pub place_behind : {Token : Type 0} → Sight Token → ℕ → List ℕ → Parser Token (Tall Place)
place_behind v r n = behind_name v r (lower_in v r) (member n) (scalar n)

unfoldable pub place : {Token : Type 0} → Sight Token → ℕ → Parser Token (Tall Place)
place v r = commit (named v (place_behind v r)) refuse

-- & place
unfoldable pub address : {Token : Type 0} → Sight Token → ℕ → Parser Token (Tall Place)
address v r = must (is v s.Ampersand) (place v r)

-- ---- lists of expressions, and calls

abbrev pub one_expression : Tall Expr → Tall (List Expr)
one_expression e = tall (e.tree ∷ []) e.levels

abbrev pub with_expression : Tall (List Expr) → Tall Expr → Tall (List Expr)
with_expression all e = tall (all.tree ++ e.tree ∷ []) (max all.levels e.levels)

-- one more expression behind others
abbrev pub added : {Token : Type 0} → Sight Token → ℕ → Tall (List Expr) → Parser Token (Tall (List Expr))
added v r all = expression v r >>= λ e. pure (with_expression all e)

-- a comma behind expressions that fit or don't, and one more
abbrev pub comma_by : {Token : Type 0} → Sight Token → ℕ → Tall (List Expr) → Token → Move Token (Tall (List Expr))
comma_by v r all u = close_by v s.Comma (fits r all.levels) (added v r all) u

abbrev pub more_expressions : {Token : Type 0} → Sight Token → ℕ → Tall (List Expr) → Parser Token (Tall (List Expr))
more_expressions v r all = loop (comma_by v r) all

-- e {, e}
unfoldable pub expressions : {Token : Type 0} → Sight Token → ℕ → Parser Token (Tall (List Expr))
expressions v r = expression v r >>= λ e. more_expressions v r (one_expression e)

abbrev pub as_arguments : Tall (List Expr) → Tall Exprs
as_arguments all = tall (listed all.tree) all.levels

abbrev pub no_arguments : Tall Exprs
no_arguments = tall tree.Nil 0

-- arguments, and the `)` behind them
abbrev pub some_arguments : {Token : Type 0} → Sight Token → ℕ → Parser Token (Tall Exprs)
some_arguments v r = expressions v r >>= λ all. close v s.RightParenthesis (fits r all.levels) (pure (as_arguments all))

-- behind the `(` of a call
unfoldable pub arguments : {Token : Type 0} → Sight Token → ℕ → Parser Token (Tall Exprs)
arguments v r = commit (λ u. when (is v s.RightParenthesis u) (pure no_arguments)) (some_arguments v r)

abbrev pub call_of : List ℕ → Tall Exprs → Tall Called
call_of f args = tall (record { function = f; args = args.tree }) args.levels

-- behind the name of a function
unfoldable pub call_behind : {Token : Type 0} → Sight Token → ℕ → List ℕ → Parser Token (Tall Called)
call_behind v r f = must (is v s.LeftParenthesis) (arguments v r >>= λ args. pure (call_of f args))

unfoldable pub call : {Token : Type 0} → Sight Token → ℕ → Parser Token (Tall Called)
call v r = commit (λ u. go_named (call_behind v r) (callee (seen v u))) refuse

-- ---- the argument of a new thread

-- an operand with the signs before it, in its room
abbrev pub unary : {Token : Type 0} → Sight Token → ℕ → Parser Token (Tall Expr)
unary v r = operand v r (lower_in v r)

abbrev pub cast_by : {Token : Type 0} → Sight Token → ℕ → Token → Move Token (Tall Expr)
cast_by v r u = if is v s.LeftParenthesis u then fitting (may_open v r) (opened v r (lower_in v r) (unary v r) (unary v r)) else Stop

-- behind `( void * )`: an operand, or one behind a cast
unfoldable pub cast_unary : {Token : Type 0} → Sight Token → ℕ → Parser Token (Tall Expr)
cast_unary v r = commit (cast_by v r) (unary v r)

abbrev pub is_void : What → Bool
is_void (What.Fixed w.Void) = true
is_void other = false

-- behind the `(` of an argument
unfoldable pub void_cast : {Token : Type 0} → Sight Token → ℕ → Parser Token (Tall Expr)
void_cast v r = must (λ u. is_void (seen v u)) (must (is v s.Star) (must (is v s.RightParenthesis) (cast_unary v r)))

abbrev pub argument_by : {Token : Type 0} → Sight Token → ℕ → What → Move Token (Tall Expr)
argument_by v r (What.Fixed w.Null) = Go (pure (tall (tree.Number 0) 0))
argument_by v r (What.Sign s.LeftParenthesis) = if v.void then deeper (void_cast v) r else Stop
argument_by v r other = Stop

-- NULL | ( void * ) [cast] unary, in the room of a statement
unfoldable pub argument : {Token : Type 0} → Sight Token → ℕ → Parser Token (Tall Expr)
argument v r = commit (λ u. argument_by v r (seen v u)) refuse

-- ---- what comes next

abbrev pub comes : {Token : Type 0} → Sight Token → Sign → List Token → Bool
comes v sign [] = false
comes v sign (u ∷ rest) = is v sign u

-- an operator that binds so loosely
abbrev pub operator_comes : {Token : Type 0} → Sight Token → ℕ → List Token → Bool
operator_comes v k [] = false
operator_comes v k (u ∷ rest) = is_some (operator_at v k u)
