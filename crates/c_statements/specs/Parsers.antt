-- The parser of statements, their arms and lists, and of the bodies of functions, as functions on lists of tokens.
--
-- The room of a statement is how many levels it may take, its own among them. What `if` and `while` test takes a level
-- itself, so they need two. The parts of a `for` may all be missing, and its first part and its step begin on the level
-- of the `for` itself. An arm in braces takes no level of its own, and neither does a `;` alone.
use Rattle.std.specs.Prelude.{ℕ, zero, suc, ◌-◌, Bool, true, false, ◌||◌, ◌&&◌, if◌then◌else◌, List, [], ◌∷◌, ◌++◌, Option, Some, None}
use Rattle.c_lexer.specs.declared.token.Sign.TheVariants as s
use Rattle.c_tree.specs.declared.program.Kind.{Kind}
use Rattle.c_tree.specs.declared.program.Kind.TheVariants as kinds
use Rattle.c_tree.specs.declared.program.Slot.{Slot}
use Rattle.c_tree.specs.Expressions as tree
use Rattle.c_tree.specs.Expressions.{Expr, Place}
use Rattle.c_tree.specs.Lined as lined
use Rattle.c_tree.specs.Lined.{Stmt}
use Rattle.c_grammar.specs.Levels.{Tall, tall, over, nothing, alone, followed}
use Rattle.c_grammar.specs.Statements.{Choice, Value, Taken, Busy, chosen, repeated, counted, Body, body_then, body_with}
use Rattle.parse_laws.specs.declared.fault.Fault.{Fault}
use Rattle.parse_laws.specs.declared.fault.Fault.TheVariants.{Syntax, TooDeep}
use Rattle.parse_laws.specs.Parser.{Parser, ◌>>=◌, pure, refuse, Move, Stop, Deep, Go, commit, and_go, when, must, deeper, loop, many}
use Rattle.c_expressions.specs.Parsers.{Sight, seen, is, named, fits, close, expression, address}
use Rattle.c_simple.specs.Words.{number_of}
use Rattle.c_simple.specs.Parsers.{line, simple_by, step_by, begins_simple}
use Rattle.c_statements.specs.declared.word.Opening.{Opening}
use Rattle.c_statements.specs.declared.word.Opening.TheVariants as o
use Rattle.c_statements.specs.declared.word.Question.{Question}
use Rattle.c_statements.specs.declared.word.Question.TheVariants as q
use Rattle.c_statements.specs.declared.word.Comparison.{Comparison}
use Rattle.c_statements.specs.declared.word.Comparison.TheVariants as c
use Rattle.c_statements.specs.declared.word.Start.{Start}
use Rattle.c_statements.specs.declared.word.Start.TheVariants as f
use Rattle.c_statements.specs.declared.word.Thread.{Thread}
use Rattle.c_statements.specs.declared.word.Thread.TheVariants as t
use Rattle.c_statements.specs.Words.{statement_opening, asks, behind_try, is_try, is_zero, first_start, thread_opening, is_else, is_static, is_thread_type, begins}

-- ---- what `while` tests

-- an expression and the `)` behind it, on r levels
abbrev pub tested : {Token : Type 0} → Sight Token → ℕ → Parser Token (Tall Expr)
tested v r = expression v r >>= λ e. close v s.RightParenthesis (fits r e.levels) (pure e)

-- the parentheses behind `while`
unfoldable pub condition : {Token : Type 0} → Sight Token → ℕ → Parser Token (Tall Expr)
condition v r = must (is v s.LeftParenthesis) (tested v r)

-- ---- what `if` tests

abbrev pub as_value : Tall Expr → Tall Choice
as_value e = tall (Value e.tree) e.levels

-- a trylock has a level, as an expression has there, and `!` takes one more
abbrev pub as_busy : Tall Place → Tall Choice
as_busy p = over (Busy p.tree) p.levels

abbrev pub as_taken : Tall Place → Tall Choice
as_taken p = over (Taken p.tree) p.levels

abbrev pub as_negated : Tall Place → Tall Choice
as_negated p = over (Taken p.tree) (suc p.levels)

-- an expression and the `)` behind it, on r levels
abbrev pub valued : {Token : Type 0} → Sight Token → ℕ → Parser Token (Tall Choice)
valued v r = expression v r >>= λ e. close v s.RightParenthesis (fits r e.levels) (pure (as_value e))

-- & place )
unfoldable pub tried : {Token : Type 0} → Sight Token → ℕ → Parser Token (Tall Place)
tried v r = address v r >>= λ p. must (is v s.RightParenthesis) (pure p)

-- 0 )
abbrev pub zero_behind : {Token : Type 0} → Sight Token → Tall Choice → Parser Token (Tall Choice)
zero_behind v x = must (λ u. is_zero (seen v u)) (must (is v s.RightParenthesis) (pure x))

abbrev pub compared_by : {Token : Type 0} → Sight Token → Tall Place → Comparison → Move Token (Tall Choice)
compared_by v p c.End = Go (pure (as_busy p))
compared_by v p c.Equal = Go (zero_behind v (as_taken p))
compared_by v p c.NotEqual = Go (zero_behind v (as_busy p))
compared_by v p c.Other = Stop

-- behind a trylock: what it is compared with, or nothing, and `)`
unfoldable pub compared : {Token : Type 0} → Sight Token → Tall Place → Parser Token (Tall Choice)
compared v p = commit (λ u. compared_by v p (behind_try (seen v u))) refuse

-- behind a trylock that `!` stands before
abbrev pub uncompared : {Token : Type 0} → Sight Token → Tall Place → Parser Token (Tall Choice)
uncompared v p = must (is v s.RightParenthesis) (pure (as_negated p))

-- behind the name of the trylock and `(`
abbrev pub called : {Token : Type 0} → Sight Token → ℕ → Parser Token (Tall Choice)
called v r = tried v r >>= compared v

-- the same, where `!` stands before it
abbrev pub called_behind_not : {Token : Type 0} → Sight Token → ℕ → Parser Token (Tall Choice)
called_behind_not v r = tried v r >>= uncompared v

-- behind the name of the trylock: its call, or else an expression that begins with that name, the token u
unfoldable pub plain : {Token : Type 0} → Sight Token → ℕ → Token → Parser Token (Tall Choice)
plain v r u = commit (λ t. when (is v s.LeftParenthesis t) (called v (r - 1))) (λ ts. valued v r (u ∷ ts))

-- the same behind `!`, the token u; t is the name
unfoldable pub negated : {Token : Type 0} → Sight Token → ℕ → Token → Token → Parser Token (Tall Choice)
negated v r u t = commit (λ x. when (is v s.LeftParenthesis x) (called_behind_not v (r - 2))) (λ ts. valued v r (u ∷ t ∷ ts))

-- behind `!`, the token u: the name of the trylock, or else an expression that `!` begins
unfoldable pub behind_not : {Token : Type 0} → Sight Token → ℕ → Token → Parser Token (Tall Choice)
behind_not v r u = commit (λ t. when (is_try (seen v t)) (negated v r u t)) (λ ts. valued v r (u ∷ ts))

-- a token that opens two levels
abbrev pub two_deeper : {Token A : Type 0} → Parser Token A → ℕ → Move Token A
two_deeper p zero = Deep
two_deeper p (suc r) = deeper (λ _. p) r

abbrev pub asked_by : {Token : Type 0} → Sight Token → ℕ → Token → Question → Move Token (Tall Choice)
asked_by v r u q.TryLock = deeper (λ _. plain v r u) r
asked_by v r u q.Not = two_deeper (behind_not v r u) r
asked_by v r u q.Expression = Stop

-- a trylock or an expression, and the `)` behind it, on r levels
unfoldable pub asked : {Token : Type 0} → Sight Token → ℕ → Parser Token (Tall Choice)
asked v r = commit (λ u. asked_by v r u (asks (seen v u))) (valued v r)

-- the parentheses behind `if`
unfoldable pub trial : {Token : Type 0} → Sight Token → ℕ → Parser Token (Tall Choice)
trial v r = must (is v s.LeftParenthesis) (asked v r)

-- ---- the parts of a `for`, where r levels may stand below its own

abbrev pub initial_value : {Token : Type 0} → Sight Token → ℕ → ℕ → List ℕ → Parser Token (Tall (List Stmt))
initial_value v r at_line n = expression v r >>= λ e. close v s.Semicolon (fits r e.levels) (pure (alone (lined.Declare at_line n (Some e.tree)) e.levels))

-- behind `int`: N = e ;
unfoldable pub declared : {Token : Type 0} → Sight Token → ℕ → Parser Token (Tall (List Stmt))
declared v r = commit (λ u. named v (λ n. must (is v s.Assign) (initial_value v r (line v u) n)) u) refuse

abbrev pub first_by : {Token : Type 0} → Sight Token → ℕ → Token → Start → Move Token (Tall (List Stmt))
first_by v r u f.Nothing = Go (pure nothing)
first_by v r u f.Int = deeper (λ _. declared v r) r
first_by v r u f.Step = step_by v s.Semicolon r u

-- the first part, or nothing, and `;`
unfoldable pub first : {Token : Type 0} → Sight Token → ℕ → Parser Token (Tall (List Stmt))
first v r = commit (λ u. first_by v r u (first_start (seen v u))) refuse

abbrev pub given_test : {Token : Type 0} → Sight Token → ℕ → Parser Token (Tall Expr)
given_test v r = expression v r >>= λ e. close v s.Semicolon (fits r e.levels) (pure e)

-- what is tested, or nothing, and `;`
unfoldable pub middle : {Token : Type 0} → Sight Token → ℕ → Parser Token (Tall Expr)
middle v r = commit (λ u. when (is v s.Semicolon u) (pure (tall (tree.Number 1) 0))) (given_test v r)

abbrev pub last_by : {Token : Type 0} → Sight Token → ℕ → Token → Move Token (Tall (List Stmt))
last_by v r u = if is v s.RightParenthesis u then Go (pure nothing) else step_by v s.RightParenthesis r u

-- the step, or nothing, and `)`
unfoldable pub last : {Token : Type 0} → Sight Token → ℕ → Parser Token (Tall (List Stmt))
last v r = commit (last_by v r) refuse

-- ---- arms; `lower` reads statements a level down

-- {stmt} }
unfoldable pub block : {Token : Type 0} → Sight Token → (Token → Move Token (Tall (List Stmt))) → Parser Token (Tall (List Stmt))
block v lower = many lower followed nothing >>= λ all. must (is v s.RightBrace) (pure all)

abbrev pub arm_by : {Token : Type 0} → Sight Token → (Token → Move Token (Tall (List Stmt))) → Token → Move Token (Tall (List Stmt))
arm_by v lower u = if is v s.LeftBrace u then Go (block v lower) else lower u

unfoldable pub arm : {Token : Type 0} → Sight Token → (Token → Move Token (Tall (List Stmt))) → Parser Token (Tall (List Stmt))
arm v lower = commit (arm_by v lower) refuse

-- ---- statements that hold others, on the line of their first word

-- behind `else`
abbrev pub second_arm : {Token : Type 0} → Sight Token → (Token → Move Token (Tall (List Stmt))) → ℕ → Tall Choice → Tall (List Stmt) → Parser Token (Tall (List Stmt))
second_arm v lower at_line e one = arm v lower >>= λ two. pure (chosen at_line e one two)

abbrev pub else_by : {Token : Type 0} → Sight Token → (Token → Move Token (Tall (List Stmt))) → ℕ → Tall Choice → Tall (List Stmt) → Token → Move Token (Tall (List Stmt))
else_by v lower at_line e one u = when (is_else (seen v u)) (second_arm v lower at_line e one)

-- behind the first arm of an `if`
abbrev pub else_arm : {Token : Type 0} → Sight Token → (Token → Move Token (Tall (List Stmt))) → ℕ → Tall Choice → Tall (List Stmt) → Parser Token (Tall (List Stmt))
else_arm v lower at_line e one = commit (else_by v lower at_line e one) (pure (chosen at_line e one nothing))

-- behind `if`
unfoldable pub choice : {Token : Type 0} → Sight Token → ℕ → (Token → Move Token (Tall (List Stmt))) → ℕ → Parser Token (Tall (List Stmt))
choice v r lower at_line = trial v r >>= λ e. arm v lower >>= λ one. else_arm v lower at_line e one

-- behind `while`
unfoldable pub repetition : {Token : Type 0} → Sight Token → ℕ → (Token → Move Token (Tall (List Stmt))) → ℕ → Parser Token (Tall (List Stmt))
repetition v r lower at_line = condition v r >>= λ e. arm v lower >>= λ body. pure (repeated at_line e body)

-- the arm of a `for`
abbrev pub counted_arm : {Token : Type 0} → Sight Token → (Token → Move Token (Tall (List Stmt))) → ℕ → Tall (List Stmt) → Tall Expr → Tall (List Stmt) → Parser Token (Tall (List Stmt))
counted_arm v lower at_line one e two = arm v lower >>= λ body. pure (counted at_line one e two body)

-- behind `for` and `(`
abbrev pub counted_parts : {Token : Type 0} → Sight Token → ℕ → (Token → Move Token (Tall (List Stmt))) → ℕ → Parser Token (Tall (List Stmt))
counted_parts v r lower at_line = first v r >>= λ one. middle v r >>= λ e. last v r >>= λ two. counted_arm v lower at_line one e two

-- behind `for`
unfoldable pub counting : {Token : Type 0} → Sight Token → ℕ → (Token → Move Token (Tall (List Stmt))) → ℕ → Parser Token (Tall (List Stmt))
counting v r lower at_line = must (is v s.LeftParenthesis) (counted_parts v r lower at_line)

-- ---- statements

-- a token that opens a level on which an expression stands, which needs one more
abbrev pub twice_deeper : {Token A : Type 0} → (ℕ → Parser Token A) → ℕ → Move Token A
twice_deeper p zero = Deep
twice_deeper p (suc r) = deeper (λ m. p (suc m)) r

-- why a token begins no statement where there is no room for one
abbrev pub fault_of : {Token : Type 0} → Sight Token → Token → Fault
fault_of v u = if begins_simple v u then TooDeep else Syntax

-- a simple statement, if there is room for one
abbrev pub simple_in : {Token : Type 0} → Sight Token → Kind → ℕ → Token → Move Token (Tall (List Stmt))
simple_in v kind zero u = if begins_simple v u then Deep else Stop
simple_in v kind (suc r) u = simple_by v kind r u

-- what a token begins in a room
abbrev pub statement_in : {Token : Type 0} → Sight Token → Kind → ℕ → (Token → Move Token (Tall (List Stmt))) → Token → Opening → Move Token (Tall (List Stmt))
statement_in v kind room lower u o.Empty = Go (pure nothing)
statement_in v kind room lower u o.If = twice_deeper (λ r. choice v r lower (line v u)) room
statement_in v kind room lower u o.While = twice_deeper (λ r. repetition v r lower (line v u)) room
statement_in v kind room lower u o.For = deeper (λ r. counting v r lower (line v u)) room
statement_in v kind room lower u o.Simple = simple_in v kind room u

-- a statement that begins with a token, in a room
unfoldable pub statement_by : {Token : Type 0} → Sight Token → Kind → ℕ → Token → Move Token (Tall (List Stmt))
statement_by v kind zero u = statement_in v kind zero (λ _. Stop) u (statement_opening (seen v u))
statement_by v kind (suc r) u = statement_in v kind (suc r) (statement_by v kind r) u (statement_opening (seen v u))

-- statements a level below the room
abbrev pub lower_in : {Token : Type 0} → Sight Token → Kind → ℕ → Token → Move Token (Tall (List Stmt))
lower_in v kind zero u = Stop
lower_in v kind (suc r) u = statement_by v kind r u

-- ---- threads

abbrev pub slot_of : ℕ → List ℕ → Option ℕ → Slot
slot_of at_line n len = record { name = n; len = len; line = at_line }

abbrev pub length_by : {Token : Type 0} → Sight Token → ℕ → List ℕ → Option ℕ → Move Token Slot
length_by v at_line n None = Stop
length_by v at_line n (Some len) = Go (must (is v s.RightBracket) (pure (slot_of at_line n (Some len))))

-- behind a name and `[`
unfoldable pub slot_length : {Token : Type 0} → Sight Token → ℕ → List ℕ → Parser Token Slot
slot_length v at_line n = commit (λ u. length_by v at_line n (number_of (seen v u))) refuse

-- behind a name: its length, or nothing
unfoldable pub slot_behind : {Token : Type 0} → Sight Token → ℕ → List ℕ → Parser Token Slot
slot_behind v at_line n = commit (λ u. when (is v s.LeftBracket u) (slot_length v at_line n)) (pure (slot_of at_line n None))

abbrev pub slot_by : {Token : Type 0} → Sight Token → Token → Move Token Slot
slot_by v u = named v (slot_behind v (line v u)) u

abbrev pub one_more_slot : List Slot → Slot → List Slot
one_more_slot all x = all ++ x ∷ []

-- behind `,`
unfoldable pub slot : {Token : Type 0} → Sight Token → Parser Token Slot
slot v = commit (slot_by v) refuse

abbrev pub comma_by : {Token : Type 0} → Sight Token → Token → Move Token Slot
comma_by v u = when (is v s.Comma u) (slot v)

-- behind slots: more of them, and `;`
unfoldable pub more_slots : {Token : Type 0} → Sight Token → List Slot → Parser Token (List Slot)
more_slots v all = many (comma_by v) one_more_slot all >>= λ all. must (is v s.Semicolon) (pure all)

-- behind the name of the first slot
abbrev pub named_slots : {Token : Type 0} → Sight Token → ℕ → List ℕ → Parser Token (List Slot)
named_slots v at_line n = slot_behind v at_line n >>= λ x. more_slots v (x ∷ [])

abbrev pub slots_by : {Token : Type 0} → Sight Token → Token → Move Token (List Slot)
slots_by v u = named v (named_slots v (line v u)) u

-- behind `pthread_t`: slot {, slot} ;
unfoldable pub slot_list : {Token : Type 0} → Sight Token → Parser Token (List Slot)
slot_list v = commit (slots_by v) refuse

-- ---- the body of a function, in a room of at least one level

abbrev pub empty_body : Tall Body
empty_body = tall (record { stmts = []; slots = [] }) 0

-- one more statement
abbrev pub stated : {Token : Type 0} → Sight Token → Kind → ℕ → Tall Body → Parser Token (Tall Body)
stated v kind room b = commit (statement_by v kind room) refuse >>= λ x. pure (body_then b x)

abbrev pub stated_by : {Token : Type 0} → Sight Token → Kind → ℕ → Tall Body → Token → Move Token (Tall Body)
stated_by v kind room b u = and_go (statement_by v kind room u) (λ x. pure (body_then b x))

-- a statement that begins with the name `pthread_t`, which was read already
abbrev pub named_thread : {Token : Type 0} → Sight Token → Kind → ℕ → Tall Body → Token → Parser Token (Tall Body)
named_thread v kind room b u = λ ts. stated v kind room b (u ∷ ts)

-- slots, behind the name of the first
abbrev pub with_slots : {Token : Type 0} → Sight Token → Tall Body → ℕ → List ℕ → Parser Token (Tall Body)
with_slots v b at_line n = named_slots v at_line n >>= λ all. pure (body_with b all)

abbrev pub with_slots_by : {Token : Type 0} → Sight Token → Tall Body → Token → Move Token (Tall Body)
with_slots_by v b u = named v (with_slots v b (line v u)) u

-- behind `static`
unfoldable pub static_threads : {Token : Type 0} → Sight Token → Tall Body → Parser Token (Tall Body)
static_threads v b = must (λ u. is_thread_type (seen v u)) (commit (with_slots_by v b) refuse)

-- behind `pthread_t`: slots, or a statement that begins with that name
unfoldable pub threads : {Token : Type 0} → Sight Token → Kind → ℕ → Tall Body → Token → Parser Token (Tall Body)
threads v kind room b u = commit (with_slots_by v b) (named_thread v kind room b u)

-- what a token begins in main
abbrev pub main_by : {Token : Type 0} → Sight Token → Kind → ℕ → Tall Body → Token → Thread → Move Token (Tall Body)
main_by v kind room b u t.Static = when v.threads (static_threads v b)
main_by v kind room b u t.Type = Go (threads v kind room b u)
main_by v kind room b u t.Other = stated_by v kind room b u

abbrev pub main_turn : {Token : Type 0} → Sight Token → Kind → ℕ → Tall Body → Parser Token (Tall Body)
main_turn v kind room b = commit (λ u. main_by v kind room b u (thread_opening (seen v u))) refuse

abbrev pub is_main : Kind → Bool
is_main kinds.Main = true
is_main other = false

-- what a token begins in the body of a function of this kind, behind what was read
abbrev pub body_by : {Token : Type 0} → Sight Token → Kind → ℕ → Tall Body → Token → Move Token (Tall Body)
body_by v kind room b u = if is_main kind then main_by v kind room b u (thread_opening (seen v u)) else stated_by v kind room b u

-- {stmt}, in main with declarations of threads among them
abbrev pub body : {Token : Type 0} → Sight Token → Kind → ℕ → Parser Token (Tall Body)
body v kind room = loop (body_by v kind room) empty_body

-- ---- what comes next

abbrev pub else_comes : {Token : Type 0} → Sight Token → List Token → Bool
else_comes v [] = false
else_comes v (u ∷ rest) = is_else (seen v u)

-- a statement, or what is too deep for one
abbrev pub statement_comes : {Token : Type 0} → Sight Token → List Token → Bool
statement_comes v [] = false
statement_comes v (u ∷ rest) = begins (seen v u)

-- a statement, or in main a declaration of threads
abbrev pub body_goes_on : {Token : Type 0} → Sight Token → Kind → Token → Bool
body_goes_on v kind u = begins (seen v u) || (is_main kind && (v.threads && is_static (seen v u)))

abbrev pub body_comes : {Token : Type 0} → Sight Token → Kind → List Token → Bool
body_comes v kind [] = false
body_comes v kind (u ∷ rest) = body_goes_on v kind u
