-- Which expressions are constant in a context, and what each is.
use Rattle.std.specs.Prelude.{◌≡◌, ℕ, ℤ, Bool, true, false, ◌&&◌, if◌then◌else◌, List, [], ◌∷◌, ◌++◌, bytes_eq, is_some, Some, None}
use Rattle.std.specs.declared.option.Option.{Option}
use Rattle.std.specs.List.{list_any}
use Rattle.c_tree.specs.Expressions.{Expr, Number, Name, Element, Arg, Not, Minus, Binary, Place}
use Rattle.c_tree.specs.Values.{Values, value}
use Rattle.c_tree.specs.Lined.{Stmt, Stmts, Nil, Cons, Declare, Assign, Call, If, While, For, Read, TryLock}

-- ---- constants

-- the locals that are constant at a place in the text, each with its value
abbrev pub Constants : Type 0
Constants = List ℕ → Option ℤ

abbrev pub none_known : Constants
none_known name = None

-- a name is one of these
abbrev pub among : List (List ℕ) → List ℕ → Bool
among names name = list_any (bytes_eq name) names

abbrev pub with_value : Constants → List ℕ → Option ℤ → Constants
with_value known name z = λ other. if bytes_eq other name then z else known other

-- these names aren't known any more
abbrev pub without : List (List ℕ) → Constants → Constants
without names known = λ other. if among names other then None else known other

-- less is known
abbrev pub Weaker : Constants → Constants → Type 0
Weaker less known = (name : List ℕ) (z : ℤ) → less name ≡ Some z → known name ≡ Some z

-- ---- expressions

abbrev pub constant_values : Constants → Values
constant_values known = record { scalar = known; element = λ name index. None }

-- an expression of numbers and constant locals alone
abbrev pub is_built : Constants → Expr → Bool
is_built known (Number k) = true
is_built known (Name name) = is_some (known name)
is_built known (Element name index) = false
is_built known (Arg name) = is_some (known name)
is_built known (Not operand) = is_built known operand
is_built known (Minus operand) = is_built known operand
is_built known (Binary op left right) = is_built known left && is_built known right

-- the value of a constant expression: it is built so, and has a value
abbrev pub constant_in : Constants → Expr → Option ℤ
constant_in known e = if is_built known e then value (constant_values known) e else None

-- ---- names of statements

abbrev pub target_names : Option Place → List (List ℕ)
target_names None = []
target_names (Some place) = place.name ∷ []

abbrev mutual
  -- the names that a statement assigns, reads into or takes a result into, at any depth
  pub written : Stmt → List (List ℕ)
  written (Assign line target value) = target.name ∷ []
  written (Call line target function args) = target_names target
  written (Read line target) = target.name ∷ []
  written (If line test a b) = written_all a ++ written_all b
  written (While line test body) = written_all body
  written (For line first_part test step body) = written_all first_part ++ written_all step ++ written_all body
  written (TryLock line place taken busy) = written_all taken ++ written_all busy
  written s = []

  pub written_all : Stmts → List (List ℕ)
  written_all Nil = []
  written_all (Cons s rest) = written s ++ written_all rest

abbrev mutual
  -- the names that a statement declares, at any depth
  pub declared : Stmt → List (List ℕ)
  declared (Declare line name value) = name ∷ []
  declared (If line test a b) = declared_all a ++ declared_all b
  declared (While line test body) = declared_all body
  declared (For line first_part test step body) = declared_all first_part ++ declared_all step ++ declared_all body
  declared (TryLock line place taken busy) = declared_all taken ++ declared_all busy
  declared s = []

  pub declared_all : Stmts → List (List ℕ)
  declared_all Nil = []
  declared_all (Cons s rest) = declared s ++ declared_all rest

-- ---- what is known where

-- what a declaration makes known, in a function that writes into these names
abbrev pub known_declared : List (List ℕ) → Constants → List ℕ → Option Expr → Option ℤ
known_declared writes known name None = None
known_declared writes known name (Some e) = if among writes name then None else constant_in known e

-- what is known behind a statement: what is declared inside it isn't
abbrev pub known_after : List (List ℕ) → Constants → Stmt → Constants
known_after writes known (Declare line name e) = with_value known name (known_declared writes known name e)
known_after writes known s = without (declared s) known

-- what is known behind a list
abbrev pub known_end : List (List ℕ) → Constants → Stmts → Constants
known_end writes known Nil = known
known_end writes known (Cons s rest) = known_end writes (known_after writes known s) rest

-- what is known at a loop's test, at each turn
abbrev pub known_in : Constants → Stmts → Constants
known_in known body = without (declared_all body) known

-- a list of statements, and others behind it
abbrev pub before : Stmts → Stmts → Stmts
before Nil rest = rest
before (Cons s more) rest = Cons s (before more rest)

-- what is known at the test of a `for`, whose body is followed by its step
abbrev pub known_turn : List (List ℕ) → Constants → Stmts → Stmts → Stmts → Constants
known_turn writes known first_part step body = known_in (known_end writes known first_part) (before body step)
