-- Statements that differ by the names of functions, by takes and gives of monitors and by lines.
use Rattle.std.specs.Prelude.{nat_lt, false, ◌≡◌, ℕ, ◌<◌, Bool, true, IsTrue, List, [], ◌∷◌}
use Rattle.std.specs.declared.option.Option.{Option}
use Rattle.c_tree.specs.Expressions.{Expr, Exprs, Place}
use Rattle.c_tree.specs.Lined.{Take, Give, Stmt, Stmts, Nil, Cons, Call, If, While, For, Create, TryLock, Wait, bare_stmt}

-- a statement without parts that names no function and takes nothing in a wait
abbrev pub is_simple : Stmt → Bool
is_simple (Call line target function args) = false
is_simple (Create line slot function arg) = false
is_simple (If line test a b) = false
is_simple (While line test body) = false
is_simple (For line first_part test step body) = false
is_simple (TryLock line place taken busy) = false
is_simple (Wait line cond mutex takes) = false
is_simple s = true

-- How a program is edited: what a function's name was, and below which number the monitors are whose takes and gives are put in.
pub record Way : Type 0 where
  pub name : List ℕ → List ℕ
  pub limit : ℕ

-- a call of a monitor: a take or a give
abbrev pub is_monitor_call : Stmt → Bool
is_monitor_call (Take line monitor) = true
is_monitor_call (Give line monitor) = true
is_monitor_call s = false

-- one that may be put in
abbrev pub puts : Way → Stmt → Bool
puts r (Take line monitor) = nat_lt monitor r.limit
puts r (Give line monitor) = nat_lt monitor r.limit
puts r s = false

-- takes of a wait, with others put among them
pub data PutTakes (limit : ℕ) : List ℕ → List ℕ → Type 0 where
  none : PutTakes limit [] []
  put : (k : ℕ) (xs ys : List ℕ) → k < limit → PutTakes limit xs ys → PutTakes limit (k ∷ xs) ys
  keep : (k : ℕ) (xs ys : List ℕ) → PutTakes limit xs ys → PutTakes limit (k ∷ xs) (k ∷ ys)

mutual
  -- the statement is the other one, lines apart, with functions named through r
  pub data EditOf (r : Way) : Stmt → Stmt → Type 0 where
    same : (s t : Stmt) → IsTrue (is_simple s) → IsTrue (is_simple t) → bare_stmt s ≡ bare_stmt t → EditOf r s t
    call : (l m : ℕ) (target : Option Place) (name : List ℕ) (args : Exprs) → EditOf r (Call l target name args) (Call m target (r.name name) args)
    create : (l m : ℕ) (slot : Place) (name : List ℕ) (arg : Expr) → EditOf r (Create l slot name arg) (Create m slot (r.name name) arg)
    wait : (l m : ℕ) (cond mutex : Place) (takes others : List ℕ) → PutTakes r.limit takes others → EditOf r (Wait l cond mutex takes) (Wait m cond mutex others)
    attempt : (l m : ℕ) (place : Place) (a b c d : Stmts) → Edits r a c → Edits r b d → EditOf r (TryLock l place a b) (TryLock m place c d)
    branch : (l m : ℕ) (test : Expr) (a b c d : Stmts) → Edits r a c → Edits r b d → EditOf r (If l test a b) (If m test c d)
    loop : (l m : ℕ) (test : Expr) (a c : Stmts) → Edits r a c → EditOf r (While l test a) (While m test c)
    counted : (l m : ℕ) (test : Expr) (first_part step body first_other step_other other : Stmts) → Edits r first_part first_other → Edits r step step_other → Edits r body other
        → EditOf r (For l first_part test step body) (For m first_other test step_other other)

  -- a list with takes and gives of monitors among its statements
  pub data Edits (r : Way) : Stmts → Stmts → Type 0 where
    none : Edits r Nil Nil
    put : (s : Stmt) (ss ts : Stmts) → IsTrue (puts r s) → Edits r ss ts → Edits r (Cons s ss) ts
    keep : (s t : Stmt) (ss ts : Stmts) → EditOf r s t → Edits r ss ts → Edits r (Cons s ss) (Cons t ts)
