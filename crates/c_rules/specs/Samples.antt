-- A small program, whose parts the samples change, and all that is broken in a program.
use Rattle.std.specs.Prelude.{◌≡◌, ℕ, ℤ, pos, ◌+◌, true, false, List, [], ◌∷◌, ◌++◌, map, flat_map, codes, Some, None}
use Rattle.std.specs.declared.option.Option.{Option}
use Rattle.c_tree.specs.declared.program.Kind.{Kind}
use Rattle.c_tree.specs.declared.program.Kind.TheVariants as kind
use Rattle.c_tree.specs.declared.program.Mode.{Mode}
use Rattle.c_tree.specs.declared.program.Mode.TheVariants as mode
use Rattle.c_tree.specs.declared.program.Cell.{Cell}
use Rattle.c_tree.specs.declared.program.Array.{Array}
use Rattle.c_tree.specs.declared.program.Object.{Object}
use Rattle.c_tree.specs.declared.program.Slot.{Slot}
use Rattle.c_tree.specs.declared.expr.Op.TheVariants.{Add}
use Rattle.c_tree.specs.Expressions.{Expr, Exprs, Number, Name, Binary, Place}
use Rattle.c_tree.specs.Expressions as tree
use Rattle.c_tree.specs.Lined.{Stmt, Stmts, Nil, Cons, Assign, Create, Join, InitMutex, Return, Function, Program}
use Rattle.c_rules.specs.declared.rule.Rule.{Rule}
use Rattle.c_rules.specs.declared.rule.Rule.TheVariants as rule
use Rattle.c_rules.specs.Formed.{broken_lines}

-- ---- all that is broken

-- a rule that is broken, and a line at which it is
pub record Break : Type 0 where
  pub rule : Rule
  pub line : ℕ

abbrev pub at : Rule → ℕ → Break
at r line = record { rule = r; line = line }

abbrev pub all_rules : List Rule
all_rules =
    rule.Reserved ∷ rule.LongName ∷ rule.Twice ∷ rule.Unknown ∷ rule.WrongKind ∷ rule.WrongCount ∷ rule.Recursion ∷ rule.NoMain
    ∷ rule.CreateNotFixed ∷ rule.JoinNotFixed ∷ rule.ArgNotConstant ∷ rule.InitLate ∷ rule.IndexRange ∷ []

-- rule by rule, the lines at which they are broken
abbrev pub all_breaks : Program → Mode → List Break
all_breaks p mode = flat_map (λ r. map (at r) (broken_lines r p mode)) all_rules

-- a program breaks this and nothing else, in both modes
abbrev pub Only : Program → List Break → Type 0
Only p breaks = (all_breaks p mode.Source ≡ breaks) × (all_breaks p mode.Any ≡ breaks)

-- ---- parts of programs

abbrev pub cell : List ℕ → ℕ → Cell
cell name line = record { name = name; value = pos 0; line = line }

abbrev pub array : List ℕ → ℕ → List ℤ → ℕ → Array
array name len values line = record { name = name; len = len; values = values; line = line }

-- objects with this many initialisers
abbrev pub ready : List ℕ → Option ℕ → ℕ → ℕ → Object
ready name len given line = record { name = name; len = len; ready = true; given = given; line = line }

abbrev pub unready : List ℕ → Option ℕ → ℕ → Object
unready name len line = record { name = name; len = len; ready = false; given = 0; line = line }

abbrev pub slot : List ℕ → Option ℕ → ℕ → Slot
slot name len line = record { name = name; len = len; line = line }

abbrev pub single : List ℕ → Place
single name = record { name = name; index = None }

abbrev pub member : List ℕ → Expr → Place
member name index = record { name = name; index = Some index }

abbrev pub statements : List Stmt → Stmts
statements [] = Nil
statements (s ∷ ss) = Cons s (statements ss)

abbrev pub expressions : List Expr → Exprs
expressions [] = tree.Nil
expressions (e ∷ es) = tree.Cons e (expressions es)

abbrev pub function : List ℕ → Kind → List (List ℕ) → List Stmt → ℕ → Function
function name k params body line =
    record { name = name; kind = k; params = params; body = statements body; line = line; end_line = line + 9 }

abbrev pub value : List ℕ → Expr
value name = Name name

-- `x = value;`
abbrev pub set_x : ℕ → Expr → Stmt
set_x line e = Assign line (single (codes "x")) e

-- ---- the program

-- `int add(int n) { return n + x; }`
abbrev pub add : Function
add = function (codes "add") kind.Int (codes "n" ∷ []) (Return 10 (Some (Binary Add (value (codes "n")) (value (codes "x")))) ∷ []) 10

-- `void clear(void) { x = 0; }`
abbrev pub clear : Function
clear = function (codes "clear") kind.Void [] (set_x 20 (Number 0) ∷ []) 20

-- a thread's function at line 30 with these statements
abbrev pub run_of : List Stmt → Function
run_of acts = function (codes "run") kind.Thread (codes "arg" ∷ []) (acts ++ Return 39 None ∷ []) 30

-- main at line 40: it initialises `m[0]` at 41, creates `t[0]` at 42, does these, and joins at 58
abbrev pub main_of : List Stmt → Function
main_of acts = function (codes "main") kind.Main []
    (InitMutex 41 (member (codes "m") (Number 0)) ∷ Create 42 (member (codes "t") (Number 0)) (codes "run") (Number 0) ∷ []
    ++ acts ++ Join 58 (member (codes "t") (Number 0)) ∷ Return 59 (Some (Number 0)) ∷ []) 40

abbrev pub program_of : List Stmt → List Stmt → Program
program_of in_run in_main = record {
  ints = cell (codes "x") 2 ∷ [];
  arrays = array (codes "q") 2 (pos 1 ∷ []) 3 ∷ [];
  mutexes = ready (codes "a") None 1 4 ∷ unready (codes "m") (Some 2) 5 ∷ [];
  conds = unready (codes "c") None 6 ∷ [];
  threads = slot (codes "t") (Some 2) 7 ∷ slot (codes "u") None 7 ∷ [];
  monitors = [];
  functions = add ∷ clear ∷ run_of in_run ∷ main_of in_main ∷ [];
  cap_len = 0;
  cap_line = 0;
  end_line = 61;
}

abbrev pub base : Program
base = program_of [] []

abbrev pub with_run : List Stmt → Program
with_run acts = program_of acts []

abbrev pub with_main : List Stmt → Program
with_main acts = program_of [] acts

-- more functions above main
abbrev pub with_functions : List Function → Program
with_functions fs = record base { functions = fs ++ run_of [] ∷ main_of [] ∷ [] }

-- monitors with these capacities, declared at line 1
abbrev pub with_monitors : Program → ℕ → List ℕ → Program
with_monitors p len capacities = record p { monitors = capacities; cap_len = len; cap_line = 1 }
