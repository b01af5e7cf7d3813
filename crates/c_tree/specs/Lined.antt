-- The tree with its lines, and how the declared tree is seen as it.
use Rattle.std.specs.Prelude.{ℕ, List, [], ◌∷◌, map}
use Rattle.std.specs.declared.option.Option.{Option}
use Rattle.c_tree.specs.declared.program.Kind.{Kind}
use Rattle.c_tree.specs.declared.program.Cell.{Cell}
use Rattle.c_tree.specs.declared.program.Array.{Array}
use Rattle.c_tree.specs.declared.program.Object.{Object}
use Rattle.c_tree.specs.declared.program.Slot.{Slot}
use Rattle.c_tree.specs.declared.program.Function as declared_function
use Rattle.c_tree.specs.declared.program.Program as declared_program
use Rattle.c_tree.specs.declared.stmt.Stmt as declared
use Rattle.c_tree.specs.declared.stmt.Stmt.{fold-Stmt}
use Rattle.c_tree.specs.declared.stmt.Act.TheOpen.{Act-F, Stmt-F}
use Rattle.c_tree.specs.declared.stmt.Act.TheOpen as open_of
use Rattle.c_tree.specs.Expressions.{Expr, Exprs, Place, expr_of, exprs_of, value_of, place_of, target_of}
use Rattle.c_tree.specs.Bare as bare

mutual
  pub data Stmt : Type 0 where
    Declare : (line : ℕ) (name : List ℕ) (value : Option Expr) → Stmt
    Assign : (line : ℕ) (target : Place) (value : Expr) → Stmt
    Call : (line : ℕ) (target : Option Place) (function : List ℕ) (args : Exprs) → Stmt
    If : (line : ℕ) (test : Expr) (then_arm : Stmts) (else_arm : Stmts) → Stmt
    While : (line : ℕ) (test : Expr) (body : Stmts) → Stmt
    For : (line : ℕ) (first_part : Stmts) (test : Expr) (step : Stmts) (body : Stmts) → Stmt
    Return : (line : ℕ) (value : Option Expr) → Stmt
    Read : (line : ℕ) (target : Place) → Stmt
    Print : (line : ℕ) (format : List ℕ) (args : Exprs) → Stmt
    Create : (line : ℕ) (slot : Place) (function : List ℕ) (arg : Expr) → Stmt
    Join : (line : ℕ) (slot : Place) → Stmt
    InitMutex : (line : ℕ) (place : Place) → Stmt
    InitCond : (line : ℕ) (place : Place) → Stmt
    Lock : (line : ℕ) (place : Place) → Stmt
    TryLock : (line : ℕ) (place : Place) (taken busy : Stmts) → Stmt
    Unlock : (line : ℕ) (place : Place) → Stmt
    Wait : (line : ℕ) (cond : Place) (mutex : Place) (takes : List ℕ) → Stmt
    Signal : (line : ℕ) (cond : Place) → Stmt
    Broadcast : (line : ℕ) (cond : Place) → Stmt
    Take : (line : ℕ) (monitor : ℕ) → Stmt
    Give : (line : ℕ) (monitor : ℕ) → Stmt

  pub data Stmts : Type 0 where
    Nil : Stmts
    Cons : (first : Stmt) (rest : Stmts) → Stmts

pub record Function : Type 0 where
  pub name : List ℕ
  pub kind : Kind
  pub params : List (List ℕ)
  pub body : Stmts
  pub line : ℕ
  pub end_line : ℕ

pub record Program : Type 0 where
  pub ints : List Cell
  pub arrays : List Array
  pub mutexes : List Object
  pub conds : List Object
  pub threads : List Slot
  pub monitors : List ℕ
  pub functions : List Function
  pub cap_len : ℕ
  pub cap_line : ℕ
  pub end_line : ℕ

-- the line of a statement
abbrev pub line_of : Stmt → ℕ
line_of (Declare line name value) = line
line_of (Assign line target value) = line
line_of (Call line target function args) = line
line_of (If line test then_arm else_arm) = line
line_of (While line test body) = line
line_of (For line first_part test step body) = line
line_of (Return line value) = line
line_of (Read line target) = line
line_of (Print line format args) = line
line_of (Create line slot function arg) = line
line_of (Join line slot) = line
line_of (InitMutex line place) = line
line_of (InitCond line place) = line
line_of (Lock line place) = line
line_of (TryLock line place taken busy) = line
line_of (Unlock line place) = line
line_of (Wait line cond mutex takes) = line
line_of (Signal line cond) = line
line_of (Broadcast line cond) = line
line_of (Take line monitor) = line
line_of (Give line monitor) = line

abbrev pub listed : List Stmt → Stmts
listed [] = Nil
listed (s ∷ ss) = Cons s (listed ss)

-- one layer of a declared act, at a line
abbrev pub act_layer : Act-F (ℕ → Stmt) Stmt → ℕ → Stmt
act_layer (open_of.Declare name value) line = Declare line name (value_of value)
act_layer (open_of.Assign target value) line = Assign line (place_of target) (expr_of value)
act_layer (open_of.Call target function args) line = Call line (target_of target) function (exprs_of args)
act_layer (open_of.If test then_arm else_arm) line = If line (expr_of test) (listed then_arm) (listed else_arm)
act_layer (open_of.While test body) line = While line (expr_of test) (listed body)
act_layer (open_of.For first_part test step body) line = For line (listed first_part) (expr_of test) (listed step) (listed body)
act_layer (open_of.Return value) line = Return line (value_of value)
act_layer (open_of.Read target) line = Read line (place_of target)
act_layer (open_of.Print format args) line = Print line format (exprs_of args)
act_layer (open_of.Create slot function arg) line = Create line (place_of slot) function (expr_of arg)
act_layer (open_of.Join slot) line = Join line (place_of slot)
act_layer (open_of.InitMutex place) line = InitMutex line (place_of place)
act_layer (open_of.InitCond place) line = InitCond line (place_of place)
act_layer (open_of.Lock place) line = Lock line (place_of place)
act_layer (open_of.TryLock place taken busy) line = TryLock line (place_of place) (listed taken) (listed busy)
act_layer (open_of.Unlock place) line = Unlock line (place_of place)
act_layer (open_of.Wait cond mutex takes) line = Wait line (place_of cond) (place_of mutex) takes
act_layer (open_of.Signal cond) line = Signal line (place_of cond)
act_layer (open_of.Broadcast cond) line = Broadcast line (place_of cond)
act_layer (open_of.Take monitor) line = Take line monitor
act_layer (open_of.Give monitor) line = Give line monitor

abbrev pub stmt_layer : Stmt-F (ℕ → Stmt) Stmt → Stmt
stmt_layer s = s.act s.line

-- a declared statement as plain data
abbrev pub stmt_of : declared.Stmt → Stmt
stmt_of s = fold-Stmt (ℕ → Stmt) Stmt act_layer stmt_layer s

abbrev pub stmts_of : List declared.Stmt → Stmts
stmts_of ss = listed (map stmt_of ss)

abbrev pub function_of : declared_function.Function → Function
function_of f = record { name = f.name; kind = f.kind; params = f.params; body = stmts_of f.body; line = f.line; end_line = f.end_line }

-- a declared program as plain data
abbrev pub program_of : declared_program.Program → Program
program_of p = record {
  ints = p.ints;
  arrays = p.arrays;
  mutexes = p.mutexes;
  conds = p.conds;
  threads = p.threads;
  monitors = p.monitors;
  functions = map function_of p.functions;
  cap_len = p.cap_len;
  cap_line = p.cap_line;
  end_line = p.end_line;
}

-- a statement, a list of them and a program without their lines
abbrev mutual
  pub bare_stmt : Stmt → bare.Stmt
  bare_stmt (Declare line name value) = bare.Declare name value
  bare_stmt (Assign line target value) = bare.Assign target value
  bare_stmt (Call line target function args) = bare.Call target function args
  bare_stmt (If line test then_arm else_arm) = bare.If test (bare_stmts then_arm) (bare_stmts else_arm)
  bare_stmt (While line test body) = bare.While test (bare_stmts body)
  bare_stmt (For line first_part test step body) = bare.For (bare_stmts first_part) test (bare_stmts step) (bare_stmts body)
  bare_stmt (Return line value) = bare.Return value
  bare_stmt (Read line target) = bare.Read target
  bare_stmt (Print line format args) = bare.Print format args
  bare_stmt (Create line slot function arg) = bare.Create slot function arg
  bare_stmt (Join line slot) = bare.Join slot
  bare_stmt (InitMutex line place) = bare.InitMutex place
  bare_stmt (InitCond line place) = bare.InitCond place
  bare_stmt (Lock line place) = bare.Lock place
  bare_stmt (TryLock line place taken busy) = bare.TryLock place (bare_stmts taken) (bare_stmts busy)
  bare_stmt (Unlock line place) = bare.Unlock place
  bare_stmt (Wait line cond mutex takes) = bare.Wait cond mutex takes
  bare_stmt (Signal line cond) = bare.Signal cond
  bare_stmt (Broadcast line cond) = bare.Broadcast cond
  bare_stmt (Take line monitor) = bare.Take monitor
  bare_stmt (Give line monitor) = bare.Give monitor

  pub bare_stmts : Stmts → bare.Stmts
  bare_stmts Nil = bare.Nil
  bare_stmts (Cons s rest) = bare.Cons (bare_stmt s) (bare_stmts rest)

abbrev pub bare_cell : Cell → bare.Cell
bare_cell c = record { name = c.name; value = c.value }

abbrev pub bare_array : Array → bare.Array
bare_array a = record { name = a.name; len = a.len; values = a.values }

abbrev pub bare_object : Object → bare.Object
bare_object o = record { name = o.name; len = o.len; ready = o.ready; given = o.given }

abbrev pub bare_slot : Slot → bare.Slot
bare_slot s = record { name = s.name; len = s.len }

abbrev pub bare_function : Function → bare.Function
bare_function f = record { name = f.name; kind = f.kind; params = f.params; body = bare_stmts f.body }

abbrev pub bare_program : Program → bare.Program
bare_program p = record {
  ints = map bare_cell p.ints;
  arrays = map bare_array p.arrays;
  mutexes = map bare_object p.mutexes;
  conds = map bare_object p.conds;
  threads = map bare_slot p.threads;
  monitors = p.monitors;
  functions = map bare_function p.functions;
  cap_len = p.cap_len;
}
