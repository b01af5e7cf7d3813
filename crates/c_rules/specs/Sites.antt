-- Where statements stand: in which function, behind which others, and with which locals in scope.
use Rattle.std.specs.Prelude.{ℕ, Bool, true, false, List, [], ◌∷◌, ◌++◌, map, filter, flat_map, bytes_eq}
use Rattle.std.specs.List.{enumerate_from}
use Rattle.c_tree.specs.Numbering.{main_name}
use Rattle.c_tree.specs.Lined.{Stmt, Stmts, Nil, Cons, Declare, If, While, For, TryLock, Function, Program, line_of}

-- the local that a statement declares for those behind it in its list
abbrev pub declared : Stmt → List (List ℕ)
declared (Declare line name value) = name ∷ []
declared s = []

-- the locals that a list declares
abbrev pub locals_of : Stmts → List (List ℕ)
locals_of Nil = []
locals_of (Cons s rest) = locals_of rest ++ declared s

-- A statement, and the locals and parameters in scope before it.
pub record Standing : Type 0 where
  pub stmt : Stmt
  pub scope : List (List ℕ)

abbrev mutual
  -- the statements that stand inside one: in its arms, in its body, and in the parts of a `for`, whose local is in scope in the others
  pub inside : List (List ℕ) → Stmt → List Standing
  inside scope (If line test then_arm else_arm) = listed scope then_arm ++ listed scope else_arm
  inside scope (While line test body) = listed scope body
  inside scope (For line first_part test step body) =
      listed scope first_part ++ listed (locals_of first_part ++ scope) step ++ listed (locals_of first_part ++ scope) body
  inside scope (TryLock line place taken busy) = listed scope taken ++ listed scope busy
  inside scope s = []

  -- the statements of a list, each behind those inside it
  pub listed : List (List ℕ) → Stmts → List Standing
  listed scope Nil = []
  listed scope (Cons s rest) = inside scope s ++ record { stmt = s; scope = scope } ∷ listed (declared s ++ scope) rest

-- A statement of a program.
pub record Site : Type 0 where
  pub stmt : Stmt
  -- the locals and parameters in scope before it
  pub scope : List (List ℕ)
  -- the function that holds it, and its place among the functions, counted from 0
  pub function : Function
  pub place : ℕ
  -- it is a statement of the function's own list
  pub own : Bool
  -- the statement of the function's own list that it is or that holds it, and those before that one, the nearest first
  pub holder : Stmt
  pub before : List Stmt

abbrev pub own_site : ℕ × Function → List Stmt → List (List ℕ) → Stmt → Site
own_site f before scope s = record { stmt = s; scope = scope; function = f.1; place = f.0; own = true; holder = s; before = before }

abbrev pub inner_site : ℕ × Function → List Stmt → Stmt → Standing → Site
inner_site f before holder s =
    record { stmt = s.stmt; scope = s.scope; function = f.1; place = f.0; own = false; holder = holder; before = before }

-- the statements of what is left of a function's own list, behind these others
abbrev pub sites_from : ℕ × Function → List Stmt → List (List ℕ) → Stmts → List Site
sites_from f before scope Nil = []
sites_from f before scope (Cons s rest) =
    map (inner_site f before s) (inside scope s) ++ own_site f before scope s ∷ sites_from f (s ∷ before) (declared s ++ scope) rest

-- the statements of a function, in whose body its parameters are in scope
abbrev pub sites_in : ℕ × Function → List Site
sites_in f = sites_from f [] f.1.params f.1.body

-- the statements of a program
abbrev pub sites : Program → List Site
sites p = flat_map sites_in (enumerate_from 0 p.functions)

-- the lines of the statements that pass a test
abbrev pub lines_where : (Site → Bool) → Program → List ℕ
lines_where test p = map (λ site. line_of site.stmt) (filter test (sites p))

abbrev pub is_main : Function → Bool
is_main f = bytes_eq f.name main_name
