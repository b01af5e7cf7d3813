-- Small programs with one thread, on which calls, loops and locals are computed.
use Rattle.std.specs.Prelude.{ℕ, pos, List, [], ◌∷◌, ◌++◌, codes, Some, None}
use Rattle.c_tree.specs.declared.program.Kind.TheVariants as kind
use Rattle.c_tree.specs.declared.expr.Op.TheVariants.{Lt, Add, Sub, Div}
use Rattle.c_tree.specs.Expressions as tree
use Rattle.c_tree.specs.Expressions.{Expr, Exprs, Number, Name, Binary}
use Rattle.c_tree.specs.Bare.{Stmt, Assign, Declare, Call, For, Read, Print, Return, Function, Program}
use Rattle.c_meaning.specs.Samples.{scalar, statements}

abbrev pub x : Expr
x = Name (codes "x")

abbrev pub arguments : List Expr → Exprs
arguments [] = tree.Nil
arguments (e ∷ es) = tree.Cons e (arguments es)

abbrev pub function : List ℕ → List (List ℕ) → List Stmt → Function
function name params acts = record { name = name; kind = kind.Int; params = params; body = statements acts }

-- a main with these statements, behind functions, and an int x
abbrev pub alone : List Function → List Stmt → Program
alone functions acts = record {
  ints = record { name = codes "x"; value = pos 0 } ∷ [];
  arrays = [];
  mutexes = [];
  conds = [];
  threads = [];
  monitors = [];
  functions = functions ++ record { name = codes "main"; kind = kind.Main; params = []; body = statements acts } ∷ [];
  cap_len = 0;
}

-- reads a number, and prints what 12 divided by it gives
abbrev pub dividing : Program
dividing = alone [] (Read (scalar (codes "x")) ∷ Print (codes "%d\\n") (arguments (Binary Div (Number 12) x ∷ [])) ∷ Return (Some (Number 0)) ∷ [])

-- `x = less(7, 2);`, where less gives the first without the second
abbrev pub calling : Program
calling = alone
    (function (codes "less") (codes "a" ∷ codes "b" ∷ []) (Return (Some (Binary Sub (Name (codes "a")) (Name (codes "b")))) ∷ []) ∷ [])
    (Call (Some (scalar (codes "x"))) (codes "less") (arguments (Number 7 ∷ Number 2 ∷ [])) ∷ Return (Some (Number 0)) ∷ [])

-- `x = none();`, where none ends without a value
abbrev pub ending_without : Program
ending_without = alone (function (codes "none") [] [] ∷ []) (Call (Some (scalar (codes "x"))) (codes "none") tree.Nil ∷ [])

-- `for (int k = 0; k < 2; k = k + 1) { x = x + 5; }`
abbrev pub looping : Program
looping = alone [] (
    For (statements (Declare (codes "k") (Some (Number 0)) ∷ [])) (Binary Lt (Name (codes "k")) (Number 2))
    (statements (Assign (scalar (codes "k")) (Binary Add (Name (codes "k")) (Number 1)) ∷ []))
    (statements (Assign (scalar (codes "x")) (Binary Add x (Number 5)) ∷ [])) ∷ [])

-- `int k; x = k;`
abbrev pub reading_nothing : Program
reading_nothing = alone [] (Declare (codes "k") None ∷ Assign (scalar (codes "x")) (Name (codes "k")) ∷ [])
