-- Small programs, whose contexts and outlines are computed.
use Rattle.std.specs.Prelude.{ℕ, zero, suc, pos, true, List, [], ◌∷◌, codes, Some, None}
use Rattle.c_tree.specs.declared.program.Kind.TheVariants as kind
use Rattle.c_tree.specs.Expressions as tree
use Rattle.c_tree.specs.Expressions.{Expr, Number, Name, Binary, Place}
use Rattle.c_tree.specs.Lined.{Stmt, Stmts, Nil, Cons, Declare, Assign, Call, If, For, Return, Lock, TryLock, Unlock, Program}
use Rattle.outlines.specs.Outline as outline
use Rattle.outlines.specs.Outline.{Part, Parts, Thread}
use Rattle.contexts.specs.Walk.{Walked, Found}

-- ---- parts of programs

abbrev pub statements : List Stmt → Stmts
statements [] = Nil
statements (s ∷ ss) = Cons s (statements ss)

abbrev pub parts : List Part → Parts
parts [] = outline.Nil
parts (x ∷ xs) = outline.Cons x (parts xs)

abbrev pub single : List ℕ → Place
single name = record { name = name; index = None }

-- a member of the array of mutexes m
abbrev pub member : Expr → Place
member index = record { name = codes "m"; index = Some index }

-- the int x
abbrev pub x : Expr
x = Name (codes "x")

abbrev pub i : Expr
i = Name (codes "i")

abbrev pub lock : ℕ → Expr → Stmt
lock line index = Lock line (member index)

abbrev pub unlock : ℕ → Expr → Stmt
unlock line index = Unlock line (member index)

-- a call of `add` with one argument
abbrev pub call : ℕ → Expr → Stmt
call line arg = Call line None (codes "add") (tree.Cons arg tree.Nil)

-- a void function `add` of a parameter i, and main; two mutexes m[2], and an int x
abbrev pub program : List Stmt → List Stmt → Program
program add main = record {
  ints = record { name = codes "x"; value = pos 0; line = 1 } ∷ [];
  arrays = [];
  mutexes = record { name = codes "m"; len = Some 2; ready = true; given = 2; line = 2 } ∷ [];
  conds = [];
  threads = [];
  monitors = [];
  functions =
      record { name = codes "add"; kind = kind.Void; params = codes "i" ∷ []; line = 3; end_line = 7; body = statements add }
      ∷ record { name = codes "main"; kind = kind.Main; params = []; line = 8; end_line = 20; body = statements main } ∷ [];
  cap_len = 0;
  cap_line = 0;
  end_line = 21;
}

-- main alone has locks
abbrev pub with_main : List Stmt → Program
with_main main = program (Return 4 None ∷ []) main

-- ---- what is found

-- main's outline, and how many contexts there are
abbrev pub outline_of_main : Walked (List Thread) → Parts
outline_of_main (Found (t ∷ ts) n) = t.body
outline_of_main w = outline.Nil

abbrev pub places_of : Walked (List Thread) → List ℕ
places_of (Found ts n) = n
places_of w = []

-- ---- samples

-- `add` locks m[i] and unlocks it
abbrev pub adding : List Stmt → Program
adding main = program (lock 4 i ∷ Assign 5 (single (codes "x")) (Number 1) ∷ unlock 6 i ∷ []) main

-- `add` is called with 0 and with 1, and behind a return with 0
abbrev pub entered_thrice : Program
entered_thrice = adding (call 9 (Number 0) ∷ call 10 (Number 1) ∷ Return 11 (Some (Number 0)) ∷ call 12 (Number 0) ∷ [])

-- the outline of `add` as a context, at a mutex
abbrev pub added : ℕ → ℕ → ℕ → Part
added line context r = outline.Inner line context (parts (outline.Acquire 4 r ∷ outline.Step 5 ∷ outline.Release 6 r ∷ outline.Leave 7 ∷ []))

-- `add` is called as often as this
abbrev pub calls : ℕ → List Stmt
calls zero = []
calls (suc k) = call 9 (Number 0) ∷ calls k

abbrev pub declare : ℕ → Expr → Stmt
declare line value = Declare line (codes "k") (Some value)

abbrev pub k : Expr
k = Name (codes "k")

-- a local of one name in both arms, with two values
abbrev pub two_arms : Program
two_arms = with_main (If 9 x (statements (declare 10 (Number 0) ∷ lock 11 k ∷ unlock 12 k ∷ [])) (statements (declare 13 (Number 1) ∷ lock 14 k ∷ unlock 15 k ∷ [])) ∷ [])

-- `for (int k = 0; x; step)` with a lock and an unlock of m[k]
abbrev pub counting : List Stmt → Program
counting step = with_main (For 9 (statements (declare 9 (Number 0) ∷ [])) x (statements step) (statements (lock 10 k ∷ unlock 11 k ∷ [])) ∷ [])

-- `if (pthread_mutex_trylock(&m[index]) == 0)` with an unlock in the arm where it is taken
abbrev pub trying : Expr → Program
trying index = with_main (TryLock 9 (member index) (statements (unlock 10 (Number 1) ∷ [])) (statements (Assign 11 (single (codes "x")) (Number 1) ∷ [])) ∷ [])
