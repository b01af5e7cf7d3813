-- The tree without its lines. Programs are compared by it, and what a program means is defined on it.
use Rattle.std.specs.Prelude.{ℕ, ℤ, Bool, List}
use Rattle.std.specs.declared.option.Option.{Option}
use Rattle.c_tree.specs.declared.program.Kind.{Kind}
use Rattle.c_tree.specs.Expressions.{Expr, Exprs, Place}

mutual
  pub data Stmt : Type 0 where
    Declare : (name : List ℕ) (value : Option Expr) → Stmt
    Assign : (target : Place) (value : Expr) → Stmt
    Call : (target : Option Place) (function : List ℕ) (args : Exprs) → Stmt
    If : (test : Expr) (then_arm : Stmts) (else_arm : Stmts) → Stmt
    While : (test : Expr) (body : Stmts) → Stmt
    For : (first_part : Stmts) (test : Expr) (step : Stmts) (body : Stmts) → Stmt
    Return : (value : Option Expr) → Stmt
    Read : (target : Place) → Stmt
    Print : (format : List ℕ) (args : Exprs) → Stmt
    Create : (slot : Place) (function : List ℕ) (arg : Expr) → Stmt
    Join : (slot : Place) → Stmt
    InitMutex : (place : Place) → Stmt
    InitCond : (place : Place) → Stmt
    Lock : (place : Place) → Stmt
    TryLock : (place : Place) (taken busy : Stmts) → Stmt
    Unlock : (place : Place) → Stmt
    Wait : (cond : Place) (mutex : Place) (takes : List ℕ) → Stmt
    Signal : (cond : Place) → Stmt
    Broadcast : (cond : Place) → Stmt
    Take : (monitor : ℕ) → Stmt
    Give : (monitor : ℕ) → Stmt

  pub data Stmts : Type 0 where
    Nil : Stmts
    Cons : (first : Stmt) (rest : Stmts) → Stmts

-- a list of statements, and others behind it
abbrev pub before : Stmts → Stmts → Stmts
before Nil rest = rest
before (Cons s more) rest = Cons s (before more rest)

pub record Cell : Type 0 where
  pub name : List ℕ
  pub value : ℤ

pub record Array : Type 0 where
  pub name : List ℕ
  pub len : ℕ
  pub values : List ℤ

-- a mutex or a condition, or an array of them
pub record Object : Type 0 where
  pub name : List ℕ
  pub len : Option ℕ
  pub ready : Bool
  pub given : ℕ

pub record Slot : Type 0 where
  pub name : List ℕ
  pub len : Option ℕ

pub record Function : Type 0 where
  pub name : List ℕ
  pub kind : Kind
  pub params : List (List ℕ)
  pub body : Stmts

pub record Program : Type 0 where
  pub ints : List Cell
  pub arrays : List Array
  pub mutexes : List Object
  pub conds : List Object
  pub threads : List Slot
  pub monitors : List ℕ
  pub functions : List Function
  pub cap_len : ℕ
