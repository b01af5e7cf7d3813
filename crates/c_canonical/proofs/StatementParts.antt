-- The layouts of statements are parted.
use Rattle.std.proofs.Common.{◌≡◌, ℕ, Bool, true, false, List, [], ◌∷◌, ◌++◌, codes, map, refl, arith, Option, Some, None}
use Rattle.std.specs.Prelude.{if◌then◌else◌, ◌≤◌, All}
use Rattle.std.specs.List.{list_all}
use Rattle.c_lexer.specs.declared.token.Sign.TheVariants as s
use Rattle.c_lexer.specs.Classes.{is_word, is_blank}
use Rattle.c_lexer.specs.Words.{largest}
use Rattle.c_layout.specs.Layout.{Item, text, word, number, sign, gap, space, newline, IsName}
use Rattle.c_tree.specs.declared.program.Kind.{Kind}
use Rattle.c_tree.specs.declared.program.Kind.TheVariants as k
use Rattle.c_tree.specs.Expressions.{Expr, Place}
use Rattle.c_tree.specs.Bare.{Stmt, Stmts, Nil, Cons, Declare, Assign, Call, If, While, For, Return, Read, Print, Create, Join, InitMutex, InitCond, Lock, TryLock, Unlock, Wait, Signal, Broadcast, Take, Give}
use Rattle.c_canonical.specs.Expressions.{expression, expressions, place, is_binary, wrapped, followed, separated, numeral}
use Rattle.c_canonical.specs.Statements.{called, address, with_null, assigned, initial, argument_cast, returned, creation, taking, waited, simple, part, deeper, is_chain, tried, block, headed, line, statement, statements, otherwise}
use Rattle.c_canonical.specs.Writable.{IsWritable, IsWritableIfAny, IsWritablePlace, IsWritableTarget, IsWritableStmt, AreWritableStmts}
use Rattle.c_canonical.proofs.Parts.{Joins, joins_append, nothing, word_then, number_then, quoted_then, sign_then, free_then, gap_then, Quiet, quiet_stops, ampersand_before}
use Rattle.c_canonical.proofs.ExpressionParts.{wrapped_joins, expression_joins, place_joins, place_stops, followed_joins, separated_joins}
use Rattle.c_canonical.proofs.ListParts.{numeral_joins, minus_joins}
use Rattle.c_canonical.proofs.ListParts as lists

-- ---- parts

closed : (rest : List ℕ) → Joins (sign s.RightParenthesis ∷ []) rest
closed rest = free_then s.RightParenthesis (λ c. refl) [] rest (nothing rest)

called_joins : (function : List ℕ) (items : List Item) (rest : List ℕ) → IsName function → Joins items (41 ∷ rest) → Joins (called function items) rest
unfolding is_word
called_joins function items rest n h =
    word_then function _ rest n refl (free_then s.LeftParenthesis (λ c. refl) _ rest (joins_append items (sign s.RightParenthesis ∷ []) rest h (closed rest)))

address_joins : (p : Place) (rest : List ℕ) → IsWritablePlace p → Quiet rest → Joins (address p) rest
address_joins p rest f q = sign_then s.Ampersand (place p) rest (place_stops s.Ampersand p rest ampersand_before f) (place_joins p rest f q)

null_joins : (rest : List ℕ) → Quiet rest → Joins with_null rest
unfolding is_word
null_joins rest q = free_then s.Comma (λ c. refl) _ rest (gap_then (codes " ") _ rest refl (word_then (codes "NULL") [] rest refl (quiet_stops rest q) (nothing rest)))

-- ` = ` and what follows it
equals_join : (items : List Item) (rest : List ℕ) → Joins items rest → Joins (space ∷ sign s.Assign ∷ space ∷ items) rest
equals_join items rest h = gap_then (codes " ") _ rest refl (sign_then s.Assign (space ∷ items) rest refl (gap_then (codes " ") items rest refl h))

initial_quiet : (value : Option Expr) (rest : List ℕ) → Quiet rest → Quiet (text (initial value) ++ rest)
initial_quiet None rest q = q
initial_quiet (Some e) rest q = refl

initial_joins : (value : Option Expr) (rest : List ℕ) → IsWritableIfAny value → Quiet rest → Joins (initial value) rest
initial_joins None rest f q = nothing rest
initial_joins (Some e) rest f q = equals_join (expression e) rest (expression_joins e rest f q)

assigned_joins : (target : Option Place) (items : List Item) (rest : List ℕ) → IsWritableTarget target → Joins items rest → Joins (assigned target ++ items) rest
assigned_joins None items rest f h = h
assigned_joins (Some p) items rest f h =
    joins_append (place p ++ space ∷ sign s.Assign ∷ space ∷ []) items rest
    (joins_append (place p) (space ∷ sign s.Assign ∷ space ∷ []) (text items ++ rest) (place_joins p _ f refl) (equals_join [] (text items ++ rest) (nothing (text items ++ rest)))) h

returned_joins : (kind : Kind) (value : Option Expr) (rest : List ℕ) → IsWritableIfAny value → Quiet rest → Joins (returned kind value) rest
unfolding is_word
returned_joins kind (Some e) rest f q = word_then (codes "return") _ rest refl refl (gap_then (codes " ") _ rest refl (expression_joins e rest f q))
returned_joins k.Thread None rest f q =
    word_then (codes "return") _ rest refl refl (gap_then (codes " ") _ rest refl (word_then (codes "NULL") [] rest refl (quiet_stops rest q) (nothing rest)))
returned_joins k.Main None rest f q = word_then (codes "return") [] rest refl (quiet_stops rest q) (nothing rest)
returned_joins k.Int None rest f q = word_then (codes "return") [] rest refl (quiet_stops rest q) (nothing rest)
returned_joins k.Void None rest f q = word_then (codes "return") [] rest refl (quiet_stops rest q) (nothing rest)

cast_joins : (items : List Item) (rest : List ℕ) → Joins items rest → Joins (argument_cast ++ items) rest
unfolding is_word
cast_joins items rest h =
    free_then s.LeftParenthesis (λ c. refl) _ rest (word_then (codes "void") _ rest refl refl (gap_then (codes " ") _ rest refl
    (sign_then s.Star _ rest refl (free_then s.RightParenthesis (λ c. refl) _ rest
    (free_then s.LeftParenthesis (λ c. refl) _ rest (word_then (codes "long") _ rest refl refl (free_then s.RightParenthesis (λ c. refl) items rest h)))))))

creation_joins : (slot : Place) (function : List ℕ) (arg : Expr) (rest : List ℕ) → IsWritablePlace slot → IsName function → IsWritable arg → Quiet rest → Joins (creation slot function arg) rest
unfolding is_word
creation_joins slot function arg rest p n f q =
    let value = wrapped (is_binary arg) (expression arg) in
    let last = sign s.Comma ∷ space ∷ (argument_cast ++ value) in
    joins_append (address slot) (with_null ++ sign s.Comma ∷ space ∷ word function ∷ last) rest (address_joins slot _ p refl)
    (joins_append with_null (sign s.Comma ∷ space ∷ word function ∷ last) rest (null_joins _ refl)
    (free_then s.Comma (λ c. refl) _ rest (gap_then (codes " ") _ rest refl (word_then function last rest n refl
    (free_then s.Comma (λ c. refl) _ rest (gap_then (codes " ") _ rest refl
    (cast_joins value rest (wrapped_joins (is_binary arg) (expression arg) rest q (λ r k. expression_joins arg r f k)))))))))

-- ---- statements of one line

object_joins : (function : List ℕ) (p : Place) (rest : List ℕ) → IsName function → IsWritablePlace p → Joins (called function (address p)) rest
object_joins function p rest n f = called_joins function (address p) rest n (address_joins p (41 ∷ rest) f refl)

init_joins : (function : List ℕ) (p : Place) (rest : List ℕ) → IsName function → IsWritablePlace p → Joins (called function (address p ++ with_null)) rest
init_joins function p rest n f =
    called_joins function (address p ++ with_null) rest n (joins_append (address p) with_null (41 ∷ rest) (address_joins p _ f refl) (null_joins (41 ∷ rest) refl))

-- `, K` for each monitor, and `, -1`
taking_joins : (monitors : List ℕ) (rest : List ℕ) → All (λ k. k ≤ largest) monitors → Quiet rest → Joins (taking monitors) rest
taking_joins monitors rest f q =
    joins_append (followed (map numeral monitors)) (sign s.Comma ∷ space ∷ sign s.Minus ∷ number 1 ∷ []) rest (lists.followed_joins (λ k. k ≤ largest) numeral numeral_joins monitors _ f refl)
    (free_then s.Comma (λ c. refl) _ rest (gap_then (codes " ") _ rest refl (minus_joins 1 rest (omega arith) q)))

waited_joins : (cond mutex : Place) (takes : List ℕ) (rest : List ℕ) → IsWritablePlace cond → IsWritablePlace mutex → All (λ k. k ≤ largest) takes → Joins (waited cond mutex takes) rest
unfolding is_word
waited_joins cond mutex [] rest f g h =
    called_joins (codes "pthread_cond_wait") (address cond ++ sign s.Comma ∷ space ∷ address mutex) rest refl
    (joins_append (address cond) (sign s.Comma ∷ space ∷ address mutex) (41 ∷ rest) (address_joins cond _ f refl)
    (free_then s.Comma (λ c. refl) _ (41 ∷ rest) (gap_then (codes " ") _ (41 ∷ rest) refl (address_joins mutex (41 ∷ rest) g refl))))
waited_joins cond mutex (k ∷ ks) rest f g h =
    called_joins (codes "gd_cond_wait") (address cond ++ sign s.Comma ∷ space ∷ (address mutex ++ taking (k ∷ ks))) rest refl
    (joins_append (address cond) (sign s.Comma ∷ space ∷ (address mutex ++ taking (k ∷ ks))) (41 ∷ rest) (address_joins cond _ f refl)
    (free_then s.Comma (λ c. refl) _ (41 ∷ rest) (gap_then (codes " ") _ (41 ∷ rest) refl
    (joins_append (address mutex) (taking (k ∷ ks)) (41 ∷ rest) (address_joins mutex _ g refl) (taking_joins (k ∷ ks) (41 ∷ rest) h refl)))))

pub simple_joins : (kind : Kind) (given : Stmt) (rest : List ℕ) → IsWritableStmt given → Quiet rest → Joins (simple kind given) rest
unfolding is_word
simple_joins kind (Declare name value) rest f q =
    word_then (codes "int") _ rest refl refl (gap_then (codes " ") _ rest refl
    (word_then name (initial value) rest f.0 (quiet_stops _ (initial_quiet value rest q)) (initial_joins value rest f.1 q)))
simple_joins kind (Assign target value) rest f q =
    joins_append (place target) (initial (Some value)) rest (place_joins target _ f.0 refl) (initial_joins (Some value) rest f.1 q)
simple_joins kind (Call target function args) rest f q =
    assigned_joins target (called function (separated (expressions args))) rest f.0 (called_joins function (separated (expressions args)) rest f.1 (separated_joins args (41 ∷ rest) f.2 refl))
simple_joins kind (If test then_arm else_arm) rest f q = nothing rest
simple_joins kind (While test body) rest f q = nothing rest
simple_joins kind (For first_part test step body) rest f q = nothing rest
simple_joins kind (Return value) rest f q = returned_joins kind value rest f q
simple_joins kind (Read target) rest f q =
    called_joins (codes "scanf") _ rest refl (quoted_then (codes "%d") _ (41 ∷ rest) (record { ends = refl; short = omega arith })
    (free_then s.Comma (λ c. refl) _ (41 ∷ rest) (gap_then (codes " ") _ (41 ∷ rest) refl (address_joins target (41 ∷ rest) f refl))))
simple_joins kind (Print format args) rest f q =
    called_joins (codes "printf") _ rest refl (quoted_then format (followed (expressions args)) (41 ∷ rest) f.0 (followed_joins args (41 ∷ rest) f.1 refl))
simple_joins kind (Create slot function arg) rest f q =
    called_joins (codes "pthread_create") (creation slot function arg) rest refl (creation_joins slot function arg (41 ∷ rest) f.0 f.1 f.2 refl)
simple_joins kind (Join slot) rest f q =
    called_joins (codes "pthread_join") (place slot ++ with_null) rest refl (joins_append (place slot) with_null (41 ∷ rest) (place_joins slot _ f refl) (null_joins (41 ∷ rest) refl))
simple_joins kind (InitMutex p) rest f q = init_joins (codes "pthread_mutex_init") p rest refl f
simple_joins kind (InitCond p) rest f q = init_joins (codes "pthread_cond_init") p rest refl f
simple_joins kind (Lock p) rest f q = object_joins (codes "pthread_mutex_lock") p rest refl f
simple_joins kind (TryLock p taken busy) rest f q = nothing rest
simple_joins kind (Unlock p) rest f q = object_joins (codes "pthread_mutex_unlock") p rest refl f
simple_joins kind (Wait cond mutex takes) rest f q = waited_joins cond mutex takes rest f.0 f.1 f.2
simple_joins kind (Signal cond) rest f q = object_joins (codes "pthread_cond_signal") cond rest refl f
simple_joins kind (Broadcast cond) rest f q = object_joins (codes "pthread_cond_broadcast") cond rest refl f
simple_joins kind (Take monitor) rest f q = called_joins (codes "gd_take") (number monitor ∷ []) rest refl (number_then monitor [] (41 ∷ rest) f refl (nothing (41 ∷ rest)))
simple_joins kind (Give monitor) rest f q = called_joins (codes "gd_give") (number monitor ∷ []) rest refl (number_then monitor [] (41 ∷ rest) f refl (nothing (41 ∷ rest)))

-- ---- statements of several lines

part_joins : (kind : Kind) (parts : Stmts) (rest : List ℕ) → AreWritableStmts parts → Quiet rest → Joins (part kind parts) rest
part_joins kind Nil rest f q = nothing rest
part_joins kind (Cons given more) rest f q = simple_joins kind given rest f.0 q

semicolon : (rest : List ℕ) → Joins (sign s.Semicolon ∷ []) rest
semicolon rest = free_then s.Semicolon (λ c. refl) [] rest (nothing rest)

head_joins : (keyword : List ℕ) (items : List Item) (rest : List ℕ) → IsName keyword → Joins items (41 ∷ 32 ∷ rest) → Joins (headed keyword items) rest
unfolding is_word
head_joins keyword items rest n h =
    word_then keyword _ rest n refl (gap_then (codes " ") _ rest refl (free_then s.LeftParenthesis (λ c. refl) _ rest
    (joins_append items (sign s.RightParenthesis ∷ space ∷ []) rest h (free_then s.RightParenthesis (λ c. refl) (space ∷ []) rest (gap_then (codes " ") [] rest refl (nothing rest))))))

parts_join : (kind : Kind) (first_part : Stmts) (test : Expr) (step : Stmts) (rest : List ℕ) → AreWritableStmts first_part → IsWritable test → AreWritableStmts step → Quiet rest
    → Joins (part kind first_part ++ sign s.Semicolon ∷ space ∷ (expression test ++ sign s.Semicolon ∷ space ∷ part kind step)) rest
parts_join kind first_part test step rest p f g q =
    let last = sign s.Semicolon ∷ space ∷ part kind step in
    joins_append (part kind first_part) (sign s.Semicolon ∷ space ∷ (expression test ++ last)) rest (part_joins kind first_part _ p refl)
    (free_then s.Semicolon (λ c. refl) _ rest (gap_then (codes " ") _ rest refl (joins_append (expression test) last rest (expression_joins test _ f refl)
    (free_then s.Semicolon (λ c. refl) _ rest (gap_then (codes " ") _ rest refl (part_joins kind step rest g q))))))

block_joins : (margin : List ℕ) (inside : List Item) (rest : List ℕ) → list_all is_blank margin ≡ true → ((r : List ℕ) → Joins inside r) → Joins (block margin inside) rest
block_joins margin inside rest b h =
    free_then s.LeftBrace (λ c. refl) _ rest (gap_then (codes "\n") _ rest refl
    (joins_append inside (gap margin ∷ sign s.RightBrace ∷ []) rest (h _) (gap_then margin _ rest b (free_then s.RightBrace (λ c. refl) [] rest (nothing rest)))))

chosen_joins : (x : Bool) (a b : List Item) (rest : List ℕ) → Joins a rest → Joins b rest → Joins (if x then a else b) rest
chosen_joins true a b rest h g = h
chosen_joins false a b rest h g = g

line_joins : (margin : List ℕ) (items more : List Item) (rest : List ℕ) → list_all is_blank margin ≡ true → ((r : List ℕ) → Joins items (10 ∷ r)) → Joins more rest → Joins (line margin items more) rest
line_joins margin items more rest b h g = gap_then margin _ rest b (joins_append items (newline ∷ more) rest (h _) (gap_then (codes "\n") more rest refl g))

simple_line : (kind : Kind) (given : Stmt) (rest : List ℕ) → IsWritableStmt given → Joins (simple kind given ++ sign s.Semicolon ∷ []) rest
simple_line kind given rest f = joins_append (simple kind given) (sign s.Semicolon ∷ []) rest (simple_joins kind given (59 ∷ rest) f refl) (semicolon rest)

-- `pthread_mutex_trylock(&a) == 0`
tried_joins : (p : Place) (rest : List ℕ) → IsWritablePlace p → Quiet rest → Joins (tried p) rest
unfolding is_word
tried_joins p rest f q =
    joins_append (called (codes "pthread_mutex_trylock") (address p)) (space ∷ sign s.Equal ∷ space ∷ number 0 ∷ []) rest (object_joins (codes "pthread_mutex_trylock") p _ refl f)
    (gap_then (codes " ") _ rest refl (free_then s.Equal (λ c. refl) _ rest (gap_then (codes " ") _ rest refl (numeral_joins 0 rest (omega arith) q))))

mutual
  unfolding is_word

  statement_joins : (kind : Kind) (margin : List ℕ) (given : Stmt) (rest : List ℕ) → list_all is_blank margin ≡ true → IsWritableStmt given → Joins (statement kind margin given) rest
  statement_joins kind margin (If test then_arm else_arm) rest b f =
      joins_append (headed (codes "if") (expression test)) (block margin (statements kind (deeper margin) then_arm) ++ otherwise kind margin else_arm) rest
      (head_joins (codes "if") (expression test) _ refl (expression_joins test _ f.0 refl))
      (joins_append (block margin (statements kind (deeper margin) then_arm)) (otherwise kind margin else_arm) rest
      (block_joins margin (statements kind (deeper margin) then_arm) _ b (λ r. statements_join kind (deeper margin) then_arm r b f.1)) (otherwise_joins kind margin else_arm rest b f.2))
  statement_joins kind margin (TryLock p taken busy) rest b f =
      joins_append (headed (codes "if") (tried p)) (block margin (statements kind (deeper margin) taken) ++ otherwise kind margin busy) rest
      (head_joins (codes "if") (tried p) _ refl (tried_joins p _ f.0 refl))
      (joins_append (block margin (statements kind (deeper margin) taken)) (otherwise kind margin busy) rest
      (block_joins margin (statements kind (deeper margin) taken) _ b (λ r. statements_join kind (deeper margin) taken r b f.1)) (otherwise_joins kind margin busy rest b f.2))
  statement_joins kind margin (While test body) rest b f =
      joins_append (headed (codes "while") (expression test)) (block margin (statements kind (deeper margin) body)) rest
      (head_joins (codes "while") (expression test) _ refl (expression_joins test _ f.0 refl))
      (block_joins margin (statements kind (deeper margin) body) rest b (λ r. statements_join kind (deeper margin) body r b f.1))
  statement_joins kind margin (For first_part test step body) rest b f =
      joins_append (headed (codes "for") (part kind first_part ++ sign s.Semicolon ∷ space ∷ (expression test ++ sign s.Semicolon ∷ space ∷ part kind step))) (block margin (statements kind (deeper margin) body)) rest
      (head_joins (codes "for") _ _ refl (parts_join kind first_part test step _ f.0 f.1 f.2 refl))
      (block_joins margin (statements kind (deeper margin) body) rest b (λ r. statements_join kind (deeper margin) body r b f.3))
  statement_joins kind margin (Declare name value) rest b f = simple_line kind (Declare name value) rest f
  statement_joins kind margin (Assign target value) rest b f = simple_line kind (Assign target value) rest f
  statement_joins kind margin (Call target function args) rest b f = simple_line kind (Call target function args) rest f
  statement_joins kind margin (Return value) rest b f = simple_line kind (Return value) rest f
  statement_joins kind margin (Read target) rest b f = simple_line kind (Read target) rest f
  statement_joins kind margin (Print format args) rest b f = simple_line kind (Print format args) rest f
  statement_joins kind margin (Create slot function arg) rest b f = simple_line kind (Create slot function arg) rest f
  statement_joins kind margin (Join slot) rest b f = simple_line kind (Join slot) rest f
  statement_joins kind margin (InitMutex p) rest b f = simple_line kind (InitMutex p) rest f
  statement_joins kind margin (InitCond p) rest b f = simple_line kind (InitCond p) rest f
  statement_joins kind margin (Lock p) rest b f = simple_line kind (Lock p) rest f
  statement_joins kind margin (Unlock p) rest b f = simple_line kind (Unlock p) rest f
  statement_joins kind margin (Wait cond mutex takes) rest b f = simple_line kind (Wait cond mutex takes) rest f
  statement_joins kind margin (Signal cond) rest b f = simple_line kind (Signal cond) rest f
  statement_joins kind margin (Broadcast cond) rest b f = simple_line kind (Broadcast cond) rest f
  statement_joins kind margin (Take monitor) rest b f = simple_line kind (Take monitor) rest f
  statement_joins kind margin (Give monitor) rest b f = simple_line kind (Give monitor) rest f

  otherwise_joins : (kind : Kind) (margin : List ℕ) (ss : Stmts) (rest : List ℕ) → list_all is_blank margin ≡ true → AreWritableStmts ss → Joins (otherwise kind margin ss) rest
  otherwise_joins kind margin Nil rest b f = nothing rest
  otherwise_joins kind margin (Cons given more) rest b f =
      gap_then (codes " ") _ rest refl (word_then (codes "else") _ rest refl refl (gap_then (codes " ") _ rest refl
      (chosen_joins (is_chain (Cons given more)) (statement kind margin given)
      (block margin (line (deeper margin) (statement kind (deeper margin) given) (statements kind (deeper margin) more))) rest
      (statement_joins kind margin given rest b f.0)
      (block_joins margin (line (deeper margin) (statement kind (deeper margin) given) (statements kind (deeper margin) more)) rest b
      (λ r. line_joins (deeper margin) (statement kind (deeper margin) given) (statements kind (deeper margin) more) r b
      (λ q. statement_joins kind (deeper margin) given (10 ∷ q) b f.0) (statements_join kind (deeper margin) more r b f.1))))))

  pub statements_join : (kind : Kind) (margin : List ℕ) (ss : Stmts) (rest : List ℕ) → list_all is_blank margin ≡ true → AreWritableStmts ss → Joins (statements kind margin ss) rest
  statements_join kind margin Nil rest b f = nothing rest
  statements_join kind margin (Cons given more) rest b f =
      line_joins margin (statement kind margin given) (statements kind margin more) rest b
      (λ q. statement_joins kind margin given (10 ∷ q) b f.0) (statements_join kind margin more rest b f.1)
