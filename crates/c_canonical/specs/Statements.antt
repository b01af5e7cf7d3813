-- The canonical layout of statements.
use Rattle.std.specs.Prelude.{ℕ, Bool, true, false, ◌&&◌, if◌then◌else◌, List, [], ◌∷◌, ◌++◌, codes, map, Option, Some, None}
use Rattle.c_lexer.specs.declared.token.Sign.TheVariants as s
use Rattle.c_layout.specs.Layout.{Item, word, number, quoted, sign, gap, space, newline}
use Rattle.c_tree.specs.declared.program.Kind.{Kind}
use Rattle.c_tree.specs.declared.program.Kind.TheVariants as k
use Rattle.c_tree.specs.Expressions.{Expr, Place}
use Rattle.c_tree.specs.Bare.{Stmt, Stmts, Nil, Cons, Declare, Assign, Call, If, While, For, Return, Read, Print, Create, Join, InitMutex, InitCond, Lock, TryLock, Unlock, Wait, Signal, Broadcast, Take, Give}
use Rattle.c_canonical.specs.Expressions.{expression, expressions, place, is_binary, wrapped, followed, separated, numeral}

-- `NAME(ITEMS)`
abbrev pub called : List ℕ → List Item → List Item
called function items = word function ∷ sign s.LeftParenthesis ∷ (items ++ sign s.RightParenthesis ∷ [])

-- `&PLACE`
abbrev pub address : Place → List Item
address p = sign s.Ampersand ∷ place p

-- `, NULL`
abbrev pub with_null : List Item
with_null = sign s.Comma ∷ space ∷ word (codes "NULL") ∷ []

-- `TARGET = `, if there is a target
abbrev pub assigned : Option Place → List Item
assigned None = []
assigned (Some target) = place target ++ space ∷ sign s.Assign ∷ space ∷ []

-- ` = VALUE`, if there is a value
abbrev pub initial : Option Expr → List Item
initial None = []
initial (Some e) = space ∷ sign s.Assign ∷ space ∷ expression e

-- `(void *)(long)`
abbrev pub argument_cast : List Item
argument_cast =
    sign s.LeftParenthesis ∷ word (codes "void") ∷ space ∷ sign s.Star ∷ sign s.RightParenthesis
    ∷ sign s.LeftParenthesis ∷ word (codes "long") ∷ sign s.RightParenthesis ∷ []

-- `return` with a value, or without one in a function of this kind
abbrev pub returned : Kind → Option Expr → List Item
returned kind (Some e) = word (codes "return") ∷ space ∷ expression e
returned k.Thread None = word (codes "return") ∷ space ∷ word (codes "NULL") ∷ []
returned kind None = word (codes "return") ∷ []

-- The arguments of `pthread_create`.
abbrev pub creation : Place → List ℕ → Expr → List Item
creation slot function arg =
    address slot ++ (with_null ++ sign s.Comma ∷ space ∷ word function ∷ sign s.Comma ∷ space ∷ (argument_cast ++ wrapped (is_binary arg) (expression arg)))

-- `, K` for each of these monitors, and `, -1`
abbrev pub taking : List ℕ → List Item
taking monitors = followed (map numeral monitors) ++ sign s.Comma ∷ space ∷ sign s.Minus ∷ number 1 ∷ []

-- A wait that takes tokens of these monitors, or of none.
abbrev pub waited : Place → Place → List ℕ → List Item
waited cond mutex [] = called (codes "pthread_cond_wait") (address cond ++ sign s.Comma ∷ space ∷ address mutex)
waited cond mutex (k ∷ ks) = called (codes "gd_cond_wait") (address cond ++ sign s.Comma ∷ space ∷ (address mutex ++ taking (k ∷ ks)))

-- A statement of one line, without its `;`, in a function of this kind. There is none for an `if`, a `while` or a `for`.
abbrev pub simple : Kind → Stmt → List Item
simple kind (Declare name value) = word (codes "int") ∷ space ∷ word name ∷ initial value
simple kind (Assign target value) = place target ++ initial (Some value)
simple kind (Call target function args) = assigned target ++ called function (separated (expressions args))
simple kind (If test then_arm else_arm) = []
simple kind (While test body) = []
simple kind (For first_part test step body) = []
simple kind (Return value) = returned kind value
simple kind (Read target) = called (codes "scanf") (quoted (codes "%d") ∷ sign s.Comma ∷ space ∷ address target)
simple kind (Print format args) = called (codes "printf") (quoted format ∷ followed (expressions args))
simple kind (Create slot function arg) = called (codes "pthread_create") (creation slot function arg)
simple kind (Join slot) = called (codes "pthread_join") (place slot ++ with_null)
simple kind (InitMutex p) = called (codes "pthread_mutex_init") (address p ++ with_null)
simple kind (InitCond p) = called (codes "pthread_cond_init") (address p ++ with_null)
simple kind (Lock p) = called (codes "pthread_mutex_lock") (address p)
simple kind (TryLock p taken busy) = []
simple kind (Unlock p) = called (codes "pthread_mutex_unlock") (address p)
simple kind (Wait cond mutex takes) = waited cond mutex takes
simple kind (Signal cond) = called (codes "pthread_cond_signal") (address cond)
simple kind (Broadcast cond) = called (codes "pthread_cond_broadcast") (address cond)
simple kind (Take monitor) = called (codes "gd_take") (number monitor ∷ [])
simple kind (Give monitor) = called (codes "gd_give") (number monitor ∷ [])

-- The first part or the step of a `for`: its statement without `;`, or nothing.
abbrev pub part : Kind → Stmts → List Item
part kind Nil = []
part kind (Cons statement rest) = simple kind statement

-- The blanks that lines of an arm or a body begin with, inside a statement whose lines begin with these: four spaces more.
abbrev pub deeper : List ℕ → List ℕ
deeper margin = codes "    " ++ margin

-- Whether it is written as an `if`.
abbrev pub is_if : Stmt → Bool
is_if (If test then_arm else_arm) = true
is_if (TryLock p taken busy) = true
is_if statement = false

abbrev pub is_empty : Stmts → Bool
is_empty Nil = true
is_empty (Cons statement rest) = false

-- Braces round these lines, where the closing one begins a line.
abbrev pub block : List ℕ → List Item → List Item
block margin inside = sign s.LeftBrace ∷ newline ∷ (inside ++ gap margin ∷ sign s.RightBrace ∷ [])

-- `WORD (ITEMS) ` before a block
abbrev pub headed : List ℕ → List Item → List Item
headed keyword items = word keyword ∷ space ∷ sign s.LeftParenthesis ∷ (items ++ sign s.RightParenthesis ∷ space ∷ [])

-- What an `if` over a trylock tests: whether the mutex was taken.
abbrev pub tried : Place → List Item
tried p = called (codes "pthread_mutex_trylock") (address p) ++ space ∷ sign s.Equal ∷ space ∷ number 0 ∷ []

-- Exactly one `if`, which follows an `else` without braces.
abbrev pub is_chain : Stmts → Bool
is_chain Nil = false
is_chain (Cons first rest) = is_if first && is_empty rest

-- These items behind a margin, and the lines that follow.
abbrev pub line : List ℕ → List Item → List Item → List Item
line margin items more = gap margin ∷ (items ++ newline ∷ more)

abbrev mutual
  -- A statement whose lines begin with this margin, from its first token to its last.
  pub statement : Kind → List ℕ → Stmt → List Item
  statement kind margin (If test then_arm else_arm) =
      headed (codes "if") (expression test) ++ (block margin (statements kind (deeper margin) then_arm) ++ otherwise kind margin else_arm)
  statement kind margin (TryLock p taken busy) =
      headed (codes "if") (tried p) ++ (block margin (statements kind (deeper margin) taken) ++ otherwise kind margin busy)
  statement kind margin (While test body) = headed (codes "while") (expression test) ++ block margin (statements kind (deeper margin) body)
  statement kind margin (For first_part test step body) =
      headed (codes "for") (part kind first_part ++ sign s.Semicolon ∷ space ∷ (expression test ++ sign s.Semicolon ∷ space ∷ part kind step))
      ++ block margin (statements kind (deeper margin) body)
  statement kind margin other = simple kind other ++ sign s.Semicolon ∷ []

  -- The arm of an `else`: none where it is empty, and without braces where it is exactly one `if`.
  pub otherwise : Kind → List ℕ → Stmts → List Item
  otherwise kind margin Nil = []
  otherwise kind margin (Cons first rest) =
      space ∷ word (codes "else") ∷ space
      ∷ (if is_chain (Cons first rest) then statement kind margin first
      else block margin (line (deeper margin) (statement kind (deeper margin) first) (statements kind (deeper margin) rest)))

  -- Statements with this margin, each on lines of its own.
  pub statements : Kind → List ℕ → Stmts → List Item
  statements kind margin Nil = []
  statements kind margin (Cons first rest) = line margin (statement kind margin first) (statements kind margin rest)
