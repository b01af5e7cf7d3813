-- The parser of statements that hold no others, as functions on lists of tokens.
--
-- The room r is how many levels may stand below the statement's own. So an expression in it may take r levels. What is read
-- may take one more, where it ends in `( intptr_t )`: the token behind the statement is asked last whether it fits.
use Rattle.std.specs.Prelude.{ℕ, zero, suc, max, Bool, true, false, ◌||◌, if◌then◌else◌, List, [], ◌∷◌, ◌++◌, Option, Some, None, is_some}
use Rattle.c_lexer.specs.declared.token.Sign.{Sign}
use Rattle.c_lexer.specs.declared.token.Sign.TheVariants as s
use Rattle.c_tree.specs.declared.expr.Op.{Op}
use Rattle.c_tree.specs.declared.program.Kind.{Kind}
use Rattle.c_tree.specs.declared.program.Kind.TheVariants as kind
use Rattle.c_tree.specs.Expressions as tree
use Rattle.c_tree.specs.Expressions.{Expr, Exprs, Place}
use Rattle.c_tree.specs.Lined as lined
use Rattle.c_tree.specs.Lined.{Stmt}
use Rattle.c_grammar.specs.declared.words.FixedWord.TheVariants as w
use Rattle.c_grammar.specs.Items.{What, Item, at, name_of, callee}
use Rattle.c_grammar.specs.Levels.{Tall, over, alone, followed}
use Rattle.c_grammar.specs.Expressions.{Called, value_at}
use Rattle.c_grammar.specs.Simple.{changed, declared_by}
use Rattle.parse_laws.specs.Parser.{Parser, ◌>>=◌, pure, refuse, Move, Stop, Deep, Go, commit, and_go, when, must, deeper, loop}
use Rattle.c_expressions.specs.Parsers.{Sight, seen, is, go_named, named, fits, close_by, close, goes_on, expression, place_behind, place, address, no_arguments, some_arguments, arguments, call_of, argument, comes}
use Rattle.c_simple.specs.declared.token.Way.{Way}
use Rattle.c_simple.specs.declared.token.Way.TheVariants as way
use Rattle.c_simple.specs.declared.token.Routine.{Routine}
use Rattle.c_simple.specs.declared.token.Routine.TheVariants as routine
use Rattle.c_simple.specs.Words.{way_of, counter, routine_of, is_null, is_no_value, is_one, number_of, text_of, is_number_format}

abbrev pub line_in : Item → ℕ
line_in (at line what) = line

-- the line of a token
abbrev pub line : {Token : Type 0} → Sight Token → Token → ℕ
line v u = line_in (v.item u)

-- what a token may be, and a parser behind it
abbrev pub go_with : {Token A B : Type 0} → (B → Parser Token A) → Option B → Move Token A
go_with p None = Stop
go_with p (Some x) = Go (p x)

-- the sign behind a statement, if the statement fits
abbrev pub ended : {Token : Type 0} → Sight Token → Sign → ℕ → Tall (List Stmt) → Parser Token (Tall (List Stmt))
ended v closer r x = close v closer (fits (suc r) x.levels) (pure x)

-- ---- where a value comes from

-- An expression, or a call.
pub data Source : Type 0 where
  Value : (e : Tall Expr) → Source
  Call : (c : Tall Called) → Source

abbrev pub value : {Token : Type 0} → Sight Token → ℕ → Parser Token Source
value v r = expression v r >>= λ e. pure (Value e)

-- a name alone
abbrev pub name_value : List ℕ → Source
name_value f = Value (over (tree.Name f) 0)

-- what goes on behind a name that is a value
abbrev pub too_deep_on : {Token : Type 0} → Sight Token → Token → Move Token Source
too_deep_on v t = if goes_on v t then Deep else Stop

-- Behind the name f that may be called, the token u, where no `(` follows: a value that begins with that name. On the innermost
-- level none fits, but a call does. So there what goes on with the name is too deep, and the token behind the name alone is
-- asked whether it fits.
abbrev pub value_first : {Token : Type 0} → Sight Token → ℕ → Token → List ℕ → Parser Token Source
value_first v zero u f = commit (too_deep_on v) (pure (name_value f))
value_first v (suc r) u f = λ ts. value v (suc r) (u ∷ ts)

-- behind the name of a function and `(`
abbrev pub call_arguments : {Token : Type 0} → Sight Token → ℕ → List ℕ → Parser Token (Tall Called)
call_arguments v r f = arguments v r >>= λ args. pure (call_of f args)

abbrev pub source_call : {Token : Type 0} → Sight Token → ℕ → List ℕ → Parser Token Source
source_call v r f = call_arguments v r f >>= λ c. pure (Call c)

-- behind a name that may be called, the token u
unfoldable pub behind_callee : {Token : Type 0} → Sight Token → ℕ → Token → List ℕ → Parser Token Source
behind_callee v r u f = commit (λ t. when (is v s.LeftParenthesis t) (source_call v r f)) (value_first v r u f)

abbrev pub source_by : {Token : Type 0} → Sight Token → ℕ → Token → Move Token Source
source_by v r u = go_named (behind_callee v r u) (callee (seen v u))

-- an expression or a call
unfoldable pub value_or_call : {Token : Type 0} → Sight Token → ℕ → Parser Token Source
value_or_call v r = commit (source_by v r) (value v r)

-- ---- assignments

abbrev pub set_to : ℕ → Tall Place → Source → Tall (List Stmt)
set_to at_line p (Value e) = alone (lined.Assign at_line p.tree e.tree) (max p.levels e.levels)
set_to at_line p (Call c) = alone (lined.Call at_line (Some p.tree) c.tree.function c.tree.args) (max p.levels c.levels)

-- an operator between the value of a place and another
abbrev pub operated : Op → Place → Expr → Expr
operated o p e = tree.Binary o (value_at p) e

abbrev pub change_by : ℕ → Op → Tall Place → Tall Expr → Tall (List Stmt)
change_by at_line o p e = alone (changed at_line o p.tree e.tree) (max p.levels e.levels)

abbrev pub counted : ℕ → Op → Tall Place → Tall (List Stmt)
counted at_line o p = alone (changed at_line o p.tree (tree.Number 1)) p.levels

abbrev pub set : {Token : Type 0} → Sight Token → ℕ → ℕ → Tall Place → Parser Token (Tall (List Stmt))
set v r at_line p = value_or_call v r >>= λ x. pure (set_to at_line p x)

abbrev pub set_value : {Token : Type 0} → Sight Token → ℕ → ℕ → Tall Place → Parser Token (Tall (List Stmt))
set_value v r at_line p = expression v r >>= λ e. pure (set_to at_line p (Value e))

abbrev pub change : {Token : Type 0} → Sight Token → ℕ → ℕ → Op → Tall Place → Parser Token (Tall (List Stmt))
change v r at_line o p = expression v r >>= λ e. pure (change_by at_line o p e)

-- the sign behind a place, in a statement that may have a call
abbrev pub assigned_by : {Token : Type 0} → Sight Token → ℕ → ℕ → Tall Place → Way → Move Token (Tall (List Stmt))
assigned_by v r at_line p way.Set = Go (set v r at_line p)
assigned_by v r at_line p (way.Change o) = deeper (λ _. change v r at_line o p) r
assigned_by v r at_line p (way.Count o) = Go (pure (counted at_line o p))
assigned_by v r at_line p way.Other = Stop

abbrev pub assigned : {Token : Type 0} → Sight Token → ℕ → ℕ → Tall Place → Parser Token (Tall (List Stmt))
assigned v r at_line p = commit (λ u. assigned_by v r at_line p (way_of (seen v u))) refuse

-- and in a step, which has none
abbrev pub stepped_by : {Token : Type 0} → Sight Token → ℕ → ℕ → Tall Place → Way → Move Token (Tall (List Stmt))
stepped_by v r at_line p way.Set = deeper (λ _. set_value v r at_line p) r
stepped_by v r at_line p (way.Change o) = deeper (λ _. change v r at_line o p) r
stepped_by v r at_line p (way.Count o) = Go (pure (counted at_line o p))
stepped_by v r at_line p way.Other = Stop

abbrev pub stepped : {Token : Type 0} → Sight Token → ℕ → ℕ → Tall Place → Parser Token (Tall (List Stmt))
stepped v r at_line p = commit (λ u. stepped_by v r at_line p (way_of (seen v u))) refuse

-- behind `++` or `--`
unfoldable pub count_first : {Token : Type 0} → Sight Token → ℕ → ℕ → Op → Parser Token (Tall (List Stmt))
count_first v r at_line o = place v r >>= λ p. pure (counted at_line o p)

-- ---- declarations

abbrev pub bare : ℕ → List ℕ → Tall (List Stmt)
bare at_line n = alone (lined.Declare at_line n None) 0

abbrev pub declared_as : ℕ → List ℕ → Source → Tall (List Stmt)
declared_as at_line n (Value e) = alone (lined.Declare at_line n (Some e.tree)) e.levels
declared_as at_line n (Call c) = over (declared_by at_line n c.tree) c.levels

-- behind it and `=`
abbrev pub declared_by_source : {Token : Type 0} → Sight Token → ℕ → ℕ → List ℕ → Parser Token (Tall (List Stmt))
declared_by_source v r at_line n = value_or_call v r >>= λ x. pure (declared_as at_line n x)

-- behind the name that is declared
unfoldable pub declared : {Token : Type 0} → Sight Token → ℕ → ℕ → List ℕ → Parser Token (Tall (List Stmt))
declared v r at_line n = commit (λ t. when (is v s.Assign t) (declared_by_source v r at_line n)) (pure (bare at_line n))

-- N [= value]
unfoldable pub declarator : {Token : Type 0} → Sight Token → ℕ → Parser Token (Tall (List Stmt))
declarator v r = commit (λ u. named v (declared v r (line v u)) u) refuse

abbrev pub one_more : {Token : Type 0} → Sight Token → ℕ → Tall (List Stmt) → Parser Token (Tall (List Stmt))
one_more v r all = declarator v r >>= λ x. pure (followed all x)

-- a comma behind declarators that fit or don't, and one more
abbrev pub comma_by : {Token : Type 0} → Sight Token → ℕ → Tall (List Stmt) → Token → Move Token (Tall (List Stmt))
comma_by v r all u = close_by v s.Comma (fits (suc r) all.levels) (one_more v r all) u

abbrev pub more_declarators : {Token : Type 0} → Sight Token → ℕ → Tall (List Stmt) → Parser Token (Tall (List Stmt))
more_declarators v r all = loop (comma_by v r) all

-- behind `int`
unfoldable pub declarators : {Token : Type 0} → Sight Token → ℕ → Parser Token (Tall (List Stmt))
declarators v r = declarator v r >>= more_declarators v r

-- ---- results

abbrev pub returned : ℕ → Option Expr → ℕ → Tall (List Stmt)
returned at_line e levels = alone (lined.Return at_line e) levels

abbrev pub value_returned : {Token : Type 0} → Sight Token → ℕ → ℕ → Parser Token (Tall (List Stmt))
value_returned v r at_line = expression v r >>= λ e. pure (returned at_line (Some e.tree) e.levels)

abbrev pub is_no_value_at : {Token : Type 0} → Sight Token → Token → Bool
is_no_value_at v u = is_no_value (seen v u)

abbrev pub nothing_returned : {Token : Type 0} → Sight Token → ℕ → Parser Token (Tall (List Stmt))
nothing_returned v at_line = must (is_no_value_at v) (pure (returned at_line None 0))

-- what follows `return`, by the kind of the function
abbrev pub return_by : {Token : Type 0} → Sight Token → ℕ → ℕ → Kind → Move Token (Tall (List Stmt))
return_by v r at_line kind.Main = deeper (λ _. value_returned v r at_line) r
return_by v r at_line kind.Int = deeper (λ _. value_returned v r at_line) r
return_by v r at_line kind.Void = Go (pure (returned at_line None 0))
return_by v r at_line kind.Thread = Go (nothing_returned v at_line)

-- ---- calls of the library, behind the word and `(`

abbrev pub is_null_at : {Token : Type 0} → Sight Token → Token → Bool
is_null_at v u = is_null (seen v u)

-- , NULL )
unfoldable pub null_closed : {Token A : Type 0} → Sight Token → A → Parser Token A
null_closed v x = must (is v s.Comma) (must (is_null_at v) (must (is v s.RightParenthesis) (pure x)))

-- & place )
unfoldable pub addressed : {Token : Type 0} → Sight Token → ℕ → Parser Token (Tall Place)
addressed v r = address v r >>= λ p. must (is v s.RightParenthesis) (pure p)

-- & place , NULL )
unfoldable pub initialised : {Token : Type 0} → Sight Token → ℕ → Parser Token (Tall Place)
initialised v r = address v r >>= null_closed v

-- place , NULL )
unfoldable pub joined : {Token : Type 0} → Sight Token → ℕ → Parser Token (Tall Place)
joined v r = place v r >>= null_closed v

-- an act on what a place names
abbrev pub acting : {Token : Type 0} → (Place → Stmt) → Parser Token (Tall Place) → Parser Token (Tall (List Stmt))
acting act p = p >>= λ x. pure (alone (act x.tree) x.levels)

-- a condition, a mutex, and the monitors that tokens are taken of
abbrev pub waited : ℕ → Tall Place → Tall Place → List ℕ → Tall (List Stmt)
waited at_line p q takes = alone (lined.Wait at_line p.tree q.tree takes) (max p.levels q.levels)

-- & place , & place )
unfoldable pub wait : {Token : Type 0} → Sight Token → ℕ → ℕ → Parser Token (Tall (List Stmt))
wait v r at_line = address v r >>= λ p. must (is v s.Comma) (addressed v r >>= λ q. pure (waited at_line p q []))

-- one number more, and the comma behind it
abbrev pub take_by : {Token : Type 0} → Sight Token → List ℕ → Token → Move Token (List ℕ)
take_by v all u = go_with (λ k. must (is v s.Comma) (pure (all ++ k ∷ []))) (number_of (seen v u))

-- K ,
unfoldable pub first_take : {Token : Type 0} → Sight Token → Parser Token (List ℕ)
first_take v = commit (take_by v []) refuse

abbrev pub more_takes : {Token : Type 0} → Sight Token → List ℕ → Parser Token (List ℕ)
more_takes v all = loop (take_by v) all

abbrev pub is_one_at : {Token : Type 0} → Sight Token → Token → Bool
is_one_at v u = is_one (seen v u)

-- - 1 )
unfoldable pub takes_end : {Token A : Type 0} → Sight Token → A → Parser Token A
takes_end v x = must (is v s.Minus) (must (is_one_at v) (must (is v s.RightParenthesis) (pure x)))

-- K , {K ,} - 1 )
unfoldable pub takes : {Token : Type 0} → Sight Token → Parser Token (List ℕ)
takes v = (first_take v >>= more_takes v) >>= takes_end v

-- & place , & place , K , {K ,} - 1 )
unfoldable pub controlled_wait : {Token : Type 0} → Sight Token → ℕ → ℕ → Parser Token (Tall (List Stmt))
controlled_wait v r at_line =
    address v r >>= λ p. must (is v s.Comma) (address v r >>= λ q. must (is v s.Comma) (takes v >>= λ all. pure (waited at_line p q all)))

-- K )
unfoldable pub monitor : {Token : Type 0} → Sight Token → Parser Token ℕ
monitor v = commit (λ u. go_with (λ k. must (is v s.RightParenthesis) (pure k)) (number_of (seen v u))) refuse

-- an act on a monitor
abbrev pub numbered : {Token : Type 0} → Sight Token → (ℕ → Stmt) → Parser Token (Tall (List Stmt))
numbered v act = monitor v >>= λ k. pure (alone (act k) 0)

abbrev pub is_number_format_at : {Token : Type 0} → Sight Token → Token → Bool
is_number_format_at v u = is_number_format (seen v u)

-- "%d" , & place )
unfoldable pub scan : {Token : Type 0} → Sight Token → ℕ → ℕ → Parser Token (Tall (List Stmt))
scan v r at_line = must (is_number_format_at v) (must (is v s.Comma) (acting (lined.Read at_line) (addressed v r)))

abbrev pub printed : ℕ → List ℕ → Tall Exprs → Tall (List Stmt)
printed at_line format args = alone (lined.Print at_line format args.tree) args.levels

-- behind the text of `printf` and a comma
abbrev pub print_with : {Token : Type 0} → Sight Token → ℕ → ℕ → List ℕ → Parser Token (Tall (List Stmt))
print_with v r at_line format = some_arguments v r >>= λ args. pure (printed at_line format args)

-- behind the text
abbrev pub print_by : {Token : Type 0} → Sight Token → ℕ → ℕ → List ℕ → What → Move Token (Tall (List Stmt))
print_by v r at_line format (What.Sign s.RightParenthesis) = Go (pure (printed at_line format no_arguments))
print_by v r at_line format (What.Sign s.Comma) = deeper (λ _. print_with v r at_line format) r
print_by v r at_line format other = Stop

unfoldable pub print_behind : {Token : Type 0} → Sight Token → ℕ → ℕ → List ℕ → Parser Token (Tall (List Stmt))
print_behind v r at_line format = commit (λ u. print_by v r at_line format (seen v u)) refuse

-- S {, e} )
unfoldable pub print : {Token : Type 0} → Sight Token → ℕ → ℕ → Parser Token (Tall (List Stmt))
print v r at_line = commit (λ u. go_with (print_behind v r at_line) (text_of (seen v u))) refuse

abbrev pub created : ℕ → Tall Place → List ℕ → Tall Expr → Tall (List Stmt)
created at_line p f e = alone (lined.Create at_line p.tree f e.tree) (max p.levels e.levels)

-- arg )
unfoldable pub create_argument : {Token : Type 0} → Sight Token → ℕ → ℕ → Tall Place → List ℕ → Parser Token (Tall (List Stmt))
create_argument v r at_line p f = argument v r >>= λ e. close v s.RightParenthesis (fits r e.levels) (pure (created at_line p f e))

abbrev pub behind_function : {Token : Type 0} → Sight Token → ℕ → ℕ → Tall Place → List ℕ → Parser Token (Tall (List Stmt))
behind_function v r at_line p f = must (is v s.Comma) (create_argument v r at_line p f)

-- N , arg )
unfoldable pub create_function : {Token : Type 0} → Sight Token → ℕ → ℕ → Tall Place → Parser Token (Tall (List Stmt))
create_function v r at_line p = commit (named v (behind_function v r at_line p)) refuse

-- & place , NULL , N , arg )
unfoldable pub create : {Token : Type 0} → Sight Token → ℕ → ℕ → Parser Token (Tall (List Stmt))
create v r at_line = address v r >>= λ p. must (is v s.Comma) (must (is_null_at v) (must (is v s.Comma) (create_function v r at_line p)))

abbrev pub library : {Token : Type 0} → Sight Token → ℕ → ℕ → Routine → Parser Token (Tall (List Stmt))
library v r at_line routine.Print = print v r at_line
library v r at_line routine.Scan = scan v r at_line
library v r at_line routine.Create = create v r at_line
library v r at_line routine.Join = acting (lined.Join at_line) (joined v r)
library v r at_line routine.InitMutex = acting (lined.InitMutex at_line) (initialised v r)
library v r at_line routine.InitCondition = acting (lined.InitCond at_line) (initialised v r)
library v r at_line routine.Lock = acting (lined.Lock at_line) (addressed v r)
library v r at_line routine.Unlock = acting (lined.Unlock at_line) (addressed v r)
library v r at_line routine.Wait = wait v r at_line
library v r at_line routine.Signal = acting (lined.Signal at_line) (addressed v r)
library v r at_line routine.Broadcast = acting (lined.Broadcast at_line) (addressed v r)
library v r at_line routine.Take = numbered v (lined.Take at_line)
library v r at_line routine.Give = numbered v (lined.Give at_line)
library v r at_line routine.ControlledWait = controlled_wait v r at_line

-- ---- simple statements

abbrev pub call_statement : ℕ → Tall Called → Tall (List Stmt)
call_statement at_line c = alone (lined.Call at_line None c.tree.function c.tree.args) c.levels

abbrev pub call_behind_name : {Token : Type 0} → Sight Token → ℕ → ℕ → List ℕ → Parser Token (Tall (List Stmt))
call_behind_name v r at_line f = call_arguments v r f >>= λ c. pure (call_statement at_line c)

-- behind a name and `(`: the call of a function of the program, or of the library
abbrev pub call_by : {Token : Type 0} → Sight Token → ℕ → ℕ → Option (List ℕ) → Option Routine → Move Token (Tall (List Stmt))
call_by v r at_line (Some f) library_call = Go (call_behind_name v r at_line f)
call_by v r at_line None library_call = go_with (library v r at_line) library_call

-- behind a name, the token u
abbrev pub called_by : {Token : Type 0} → Sight Token → ℕ → Token → Move Token (Tall (List Stmt))
called_by v r u = call_by v r (line v u) (callee (seen v u)) (routine_of v.null (seen v u))

abbrev pub parenthesis_by : {Token : Type 0} → Sight Token → ℕ → Token → Token → Move Token (Tall (List Stmt))
parenthesis_by v r u t = if is v s.LeftParenthesis t then called_by v r u else Stop

abbrev pub change_behind_name : {Token : Type 0} → Sight Token → ℕ → ℕ → List ℕ → Parser Token (Tall (List Stmt))
change_behind_name v r at_line n = place_behind v r n >>= assigned v r at_line

-- behind the name n, the token u
unfoldable pub simple_named : {Token : Type 0} → Sight Token → ℕ → Token → List ℕ → Parser Token (Tall (List Stmt))
simple_named v r u n = commit (parenthesis_by v r u) (change_behind_name v r (line v u) n)

unfoldable pub step_named : {Token : Type 0} → Sight Token → ℕ → Token → List ℕ → Parser Token (Tall (List Stmt))
step_named v r u n = place_behind v r n >>= stepped v r (line v u)

-- the token u, where it is `++` or `--`
abbrev pub counted_by : {Token : Type 0} → Sight Token → ℕ → Token → Move Token (Tall (List Stmt))
counted_by v r u = go_with (count_first v r (line v u)) (counter (seen v u))

-- what begins with the token u, by the name that it is, or else by its sign
abbrev pub begun_by : {Token : Type 0} → (List ℕ → Parser Token (Tall (List Stmt))) → Move Token (Tall (List Stmt)) → Option (List ℕ) → Move Token (Tall (List Stmt))
begun_by p other (Some n) = Go (p n)
begun_by p other None = other

-- a step that begins with the token u, without what follows it
abbrev pub step_begun : {Token : Type 0} → Sight Token → ℕ → Token → Move Token (Tall (List Stmt))
step_begun v r u = begun_by (step_named v r u) (counted_by v r u) (name_of (seen v u))

-- a simple statement that begins with the token u, which is no keyword
abbrev pub other_begun : {Token : Type 0} → Sight Token → ℕ → Token → Move Token (Tall (List Stmt))
other_begun v r u = begun_by (simple_named v r u) (counted_by v r u) (name_of (seen v u))

-- a simple statement that begins with the token u, without its `;`
abbrev pub simple_begun : {Token : Type 0} → Sight Token → Kind → ℕ → Token → What → Move Token (Tall (List Stmt))
simple_begun v kind r u (What.Fixed w.Int) = Go (declarators v r)
simple_begun v kind r u (What.Fixed w.Return) = return_by v r (line v u) kind
simple_begun v kind r u other = other_begun v r u

-- a step that begins with the token u, and the sign behind it
abbrev pub step_by : {Token : Type 0} → Sight Token → Sign → ℕ → Token → Move Token (Tall (List Stmt))
step_by v closer r u = and_go (step_begun v r u) (ended v closer r)

-- a simple statement that begins with the token u, and its `;`
abbrev pub simple_by : {Token : Type 0} → Sight Token → Kind → ℕ → Token → Move Token (Tall (List Stmt))
simple_by v kind r u = and_go (simple_begun v kind r u (seen v u)) (ended v s.Semicolon r)

-- the whole of them, where one must come
abbrev pub simple_open : {Token : Type 0} → Sight Token → Kind → ℕ → Parser Token (Tall (List Stmt))
simple_open v kind r = commit (λ u. simple_begun v kind r u (seen v u)) refuse

abbrev pub step_open : {Token : Type 0} → Sight Token → ℕ → Parser Token (Tall (List Stmt))
step_open v r = commit (step_begun v r) refuse

abbrev pub simple : {Token : Type 0} → Sight Token → Kind → ℕ → Parser Token (Tall (List Stmt))
simple v kind r = commit (simple_by v kind r) refuse

abbrev pub step : {Token : Type 0} → Sight Token → Sign → ℕ → Parser Token (Tall (List Stmt))
step v closer r = commit (step_by v closer r) refuse

-- what they begin with, in any room
abbrev pub begins_step : {Token : Type 0} → Sight Token → Token → Bool
begins_step v u = is_some (name_of (seen v u)) || is_some (counter (seen v u))

abbrev pub begins_simple_at : What → Bool
begins_simple_at (What.Fixed w.Int) = true
begins_simple_at (What.Fixed w.Return) = true
begins_simple_at other = is_some (name_of other) || is_some (counter other)

abbrev pub begins_simple : {Token : Type 0} → Sight Token → Token → Bool
begins_simple v u = begins_simple_at (seen v u)

-- a number comes
abbrev pub number_comes : {Token : Type 0} → Sight Token → List Token → Bool
number_comes v [] = false
number_comes v (u ∷ rest) = is_some (number_of (seen v u))

-- a comma comes
abbrev pub comma_comes : {Token : Type 0} → Sight Token → List Token → Bool
comma_comes v ts = comes v s.Comma ts
