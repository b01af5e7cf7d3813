-- No token of the canonical layout of a statement is a definition.
use Rattle.std.proofs.Common.{ℕ, Bool, true, false, if◌then◌else◌, List, [], ◌∷◌, ◌++◌, codes, map, Option, Some, None, refl}
use Rattle.c_lexer.specs.declared.token.Sign.TheVariants as s
use Rattle.c_layout.specs.Layout.{Item as Part, word, number, quoted, sign, gap, space, newline}
use Rattle.c_tree.specs.declared.program.Kind.{Kind}
use Rattle.c_tree.specs.declared.program.Kind.TheVariants as k
use Rattle.c_tree.specs.Expressions.{Expr, Place}
use Rattle.c_tree.specs.Bare.{Stmt, Stmts, Nil, Cons, Declare, Assign, Call, If, While, For, Return, Read, Print, Create, Join, InitMutex, InitCond, Lock, TryLock, Unlock, Wait, Signal, Broadcast, Take, Give}
use Rattle.c_canonical.specs.Expressions.{is_binary, wrapped, expression, expressions, place, followed, separated, numeral}
use Rattle.c_canonical.specs.Statements.{called, address, with_null, assigned, initial, argument_cast, returned, creation, taking, waited, simple, part, deeper, is_chain, tried, block, headed, line, statement, otherwise, statements}
use Rattle.c_canonical.proofs.Shown.{Plain, plain_append}
use Rattle.c_canonical.proofs.PlainExpressions.{before_sign, wrapped_plain, expression_plain, place_plain, mapped_plain, expressions_plain, followed_plain, separated_plain}

-- ---- statements of one line

called_plain : (function : List ℕ) (items : List Part) → Plain items → Plain (called function items)
called_plain function items p = (refl, (refl, before_sign s.RightParenthesis items p))

address_plain : (p : Place) → Plain (address p)
address_plain p = (refl, place_plain p)

null_plain : Plain with_null
null_plain = (refl, (refl, tt))

assigned_plain : (target : Option Place) → Plain (assigned target)
assigned_plain None = tt
assigned_plain (Some p) = plain_append (place p) (space ∷ sign s.Assign ∷ space ∷ []) (place_plain p) (refl, tt)

initial_plain : (value : Option Expr) → Plain (initial value)
initial_plain None = tt
initial_plain (Some e) = (refl, expression_plain e)

returned_plain : (kind : Kind) (value : Option Expr) → Plain (returned kind value)
returned_plain kind (Some e) = (refl, expression_plain e)
returned_plain k.Main None = (refl, tt)
returned_plain k.Int None = (refl, tt)
returned_plain k.Void None = (refl, tt)
returned_plain k.Thread None = (refl, (refl, tt))

creation_plain : (slot : Place) (function : List ℕ) (arg : Expr) → Plain (creation slot function arg)
creation_plain slot function arg =
    let items = wrapped (is_binary arg) (expression arg) in
    plain_append (address slot) (with_null ++ sign s.Comma ∷ space ∷ word function ∷ sign s.Comma ∷ space ∷ (argument_cast ++ items)) (address_plain slot)
    (refl, (refl, (refl, (refl, (refl, (refl, (refl, (refl, (refl, (refl, (refl, (refl, wrapped_plain (is_binary arg) (expression arg) (expression_plain arg)))))))))))))

with_null_plain : (items : List Part) → Plain items → Plain (items ++ with_null)
with_null_plain items p = plain_append items with_null p null_plain

taking_plain : (monitors : List ℕ) → Plain (taking monitors)
taking_plain monitors =
    plain_append (followed (map numeral monitors)) (sign s.Comma ∷ space ∷ sign s.Minus ∷ number 1 ∷ [])
    (followed_plain (map numeral monitors) (mapped_plain numeral (λ k. (refl, tt)) monitors)) (refl, (refl, (refl, tt)))

waited_plain : (cond mutex : Place) (takes : List ℕ) → Plain (waited cond mutex takes)
waited_plain cond mutex [] =
    called_plain (codes "pthread_cond_wait") (address cond ++ sign s.Comma ∷ space ∷ address mutex)
    (plain_append (address cond) (sign s.Comma ∷ space ∷ address mutex) (address_plain cond) (refl, address_plain mutex))
waited_plain cond mutex (k ∷ ks) =
    let behind = address mutex ++ taking (k ∷ ks) in
    called_plain (codes "gd_cond_wait") (address cond ++ sign s.Comma ∷ space ∷ behind)
    (plain_append (address cond) (sign s.Comma ∷ space ∷ behind) (address_plain cond) (refl, plain_append (address mutex) (taking (k ∷ ks)) (address_plain mutex) (taking_plain (k ∷ ks))))

call_plain : (target : Option Place) (function : List ℕ) (items : List Part) → Plain items → Plain (assigned target ++ called function items)
call_plain target function items p = plain_append (assigned target) (called function items) (assigned_plain target) (called_plain function items p)

simple_plain : (kind : Kind) (x : Stmt) → Plain (simple kind x)
simple_plain kind (Declare name value) = (refl, (refl, initial_plain value))
simple_plain kind (Assign target value) = plain_append (place target) (initial (Some value)) (place_plain target) (refl, expression_plain value)
simple_plain kind (Call target function args) = call_plain target function (separated (expressions args)) (separated_plain (expressions args) (expressions_plain args))
simple_plain kind (If test then_arm else_arm) = tt
simple_plain kind (While test body) = tt
simple_plain kind (For first_part test step body) = tt
simple_plain kind (Return value) = returned_plain kind value
simple_plain kind (Read target) = called_plain (codes "scanf") (quoted (codes "%d") ∷ sign s.Comma ∷ space ∷ address target) (refl, (refl, address_plain target))
simple_plain kind (Print format args) = called_plain (codes "printf") (quoted format ∷ followed (expressions args)) (refl, followed_plain (expressions args) (expressions_plain args))
simple_plain kind (Create slot function arg) = called_plain (codes "pthread_create") (creation slot function arg) (creation_plain slot function arg)
simple_plain kind (Join slot) = called_plain (codes "pthread_join") (place slot ++ with_null) (with_null_plain (place slot) (place_plain slot))
simple_plain kind (InitMutex p) = called_plain (codes "pthread_mutex_init") (address p ++ with_null) (with_null_plain (address p) (address_plain p))
simple_plain kind (InitCond p) = called_plain (codes "pthread_cond_init") (address p ++ with_null) (with_null_plain (address p) (address_plain p))
simple_plain kind (Lock p) = called_plain (codes "pthread_mutex_lock") (address p) (address_plain p)
simple_plain kind (TryLock p taken busy) = tt
simple_plain kind (Unlock p) = called_plain (codes "pthread_mutex_unlock") (address p) (address_plain p)
simple_plain kind (Wait cond mutex takes) = waited_plain cond mutex takes
simple_plain kind (Signal cond) = called_plain (codes "pthread_cond_signal") (address cond) (address_plain cond)
simple_plain kind (Broadcast cond) = called_plain (codes "pthread_cond_broadcast") (address cond) (address_plain cond)
simple_plain kind (Take monitor) = called_plain (codes "gd_take") (number monitor ∷ []) (refl, tt)
simple_plain kind (Give monitor) = called_plain (codes "gd_give") (number monitor ∷ []) (refl, tt)

part_plain : (kind : Kind) (ss : Stmts) → Plain (part kind ss)
part_plain kind Nil = tt
part_plain kind (Cons first rest) = simple_plain kind first

-- ---- blocks

block_plain : (margin : List ℕ) (items : List Part) → Plain items → Plain (block margin items)
block_plain margin items p = (refl, plain_append items (gap margin ∷ sign s.RightBrace ∷ []) p (refl, tt))

headed_plain : (keyword : List ℕ) (items : List Part) → Plain items → Plain (headed keyword items)
headed_plain keyword items p = (refl, (refl, plain_append items (sign s.RightParenthesis ∷ space ∷ []) p (refl, tt)))

line_plain : (margin : List ℕ) (items more : List Part) → Plain items → Plain more → Plain (line margin items more)
line_plain margin items more p q = plain_append items (newline ∷ more) p q

counted_plain : (kind : Kind) (first : Stmts) (test : Expr) (last : Stmts)
    → Plain (part kind first ++ sign s.Semicolon ∷ space ∷ (expression test ++ sign s.Semicolon ∷ space ∷ part kind last))
counted_plain kind first test last =
    let behind = sign s.Semicolon ∷ space ∷ part kind last in
    plain_append (part kind first) (sign s.Semicolon ∷ space ∷ (expression test ++ behind)) (part_plain kind first)
    (refl, plain_append (expression test) behind (expression_plain test) (refl, part_plain kind last))

-- the arm of an `else`, which begins with this statement, in its two forms
chosen_plain : (b : Bool) (chain inside : List Part) → Plain chain → Plain inside → Plain (space ∷ word (codes "else") ∷ space ∷ (if b then chain else inside))
chosen_plain true chain inside p q = (refl, p)
chosen_plain false chain inside p q = (refl, q)

tried_plain : (p : Place) → Plain (tried p)
tried_plain p =
    plain_append (called (codes "pthread_mutex_trylock") (address p)) (space ∷ sign s.Equal ∷ space ∷ number 0 ∷ [])
    (called_plain (codes "pthread_mutex_trylock") (address p) (address_plain p)) (refl, (refl, tt))

mutual
  statement_plain : (kind : Kind) (margin : List ℕ) (x : Stmt) → Plain (statement kind margin x)
  statement_plain kind margin (If test then_arm else_arm) =
      let arm = statements kind (deeper margin) then_arm in
      plain_append (headed (codes "if") (expression test)) (block margin arm ++ otherwise kind margin else_arm) (headed_plain (codes "if") (expression test) (expression_plain test))
      (plain_append (block margin arm) (otherwise kind margin else_arm) (block_plain margin arm (statements_plain kind (deeper margin) then_arm)) (otherwise_plain kind margin else_arm))
  statement_plain kind margin (TryLock p taken busy) =
      let arm = statements kind (deeper margin) taken in
      plain_append (headed (codes "if") (tried p)) (block margin arm ++ otherwise kind margin busy) (headed_plain (codes "if") (tried p) (tried_plain p))
      (plain_append (block margin arm) (otherwise kind margin busy) (block_plain margin arm (statements_plain kind (deeper margin) taken)) (otherwise_plain kind margin busy))
  statement_plain kind margin (While test body) =
      let arm = statements kind (deeper margin) body in
      plain_append (headed (codes "while") (expression test)) (block margin arm) (headed_plain (codes "while") (expression test) (expression_plain test))
      (block_plain margin arm (statements_plain kind (deeper margin) body))
  statement_plain kind margin (For first_part test step body) =
      let arm = statements kind (deeper margin) body in
      let head = part kind first_part ++ sign s.Semicolon ∷ space ∷ (expression test ++ sign s.Semicolon ∷ space ∷ part kind step) in
      plain_append (headed (codes "for") head) (block margin arm) (headed_plain (codes "for") head (counted_plain kind first_part test step))
      (block_plain margin arm (statements_plain kind (deeper margin) body))
  statement_plain kind margin other = before_sign s.Semicolon (simple kind other) (simple_plain kind other)

  otherwise_plain : (kind : Kind) (margin : List ℕ) (ss : Stmts) → Plain (otherwise kind margin ss)
  otherwise_plain kind margin Nil = tt
  otherwise_plain kind margin (Cons first rest) =
      let deep = deeper margin in
      let inside = line deep (statement kind deep first) (statements kind deep rest) in
      chosen_plain (is_chain (Cons first rest)) (statement kind margin first) (block margin inside) (statement_plain kind margin first)
      (block_plain margin inside (line_plain deep (statement kind deep first) (statements kind deep rest) (statement_plain kind deep first) (statements_plain kind deep rest)))

  pub statements_plain : (kind : Kind) (margin : List ℕ) (ss : Stmts) → Plain (statements kind margin ss)
  statements_plain kind margin Nil = tt
  statements_plain kind margin (Cons first rest) =
      line_plain margin (statement kind margin first) (statements kind margin rest) (statement_plain kind margin first) (statements_plain kind margin rest)
