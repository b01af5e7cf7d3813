-- Programs that can be written: their names, numbers and formats are tokens. Each program that a text spells is so.
use Rattle.std.specs.Prelude.{ℕ, ℤ, pos, negsuc, suc, ◌≤◌, [], All, Option, Some, None, ⊤}
use Rattle.c_lexer.specs.Words.{largest}
use Rattle.c_lexer.specs.Tokens.{Tokens}
use Rattle.c_layout.specs.Layout.{text, words, IsName, IsQuotable}
use Rattle.c_tree.specs.Expressions.{Expr, Exprs, Place}
use Rattle.c_tree.specs.Bare.{Stmt, Stmts, Nil, Cons, If, While, For, TryLock, Cell, Array, Object, Slot, Function, Program}
use Rattle.c_tree.specs.Leaves.{Leaves, HasLeaves, HaveLeaves, HasLeavesIfAny, PlaceLeaves, TargetLeaves, OwnLeaves}
use Rattle.c_canonical.specs.Programs.{layout_of}

-- Names of at most 63 characters, letters, digits and `_`; numbers of at most 2147483647; formats that may stand in quotes.
abbrev pub writable : Leaves
writable = record { name = IsName; number = λ n. n ≤ largest; format = IsQuotable }

-- An expression of such names and numbers; the same of each of these, of an expression that may be missing, of a place
-- and of a target that may be missing.
abbrev pub IsWritable : Expr → Type 0
IsWritable e = HasLeaves writable e

abbrev pub AreWritable : Exprs → Type 0
AreWritable es = HaveLeaves writable es

abbrev pub IsWritableIfAny : Option Expr → Type 0
IsWritableIfAny e = HasLeavesIfAny writable e

abbrev pub IsWritablePlace : Place → Type 0
IsWritablePlace p = PlaceLeaves writable p

abbrev pub IsWritableTarget : Option Place → Type 0
IsWritableTarget p = TargetLeaves writable p

abbrev mutual
  -- The same of a statement and of those in its parts.
  pub IsWritableStmt : Stmt → Type 0
  IsWritableStmt (If test then_arm else_arm) = IsWritable test × AreWritableStmts then_arm × AreWritableStmts else_arm
  IsWritableStmt (While test body) = IsWritable test × AreWritableStmts body
  IsWritableStmt (For first_part test step body) = AreWritableStmts first_part × IsWritable test × AreWritableStmts step × AreWritableStmts body
  IsWritableStmt (TryLock p taken busy) = IsWritablePlace p × AreWritableStmts taken × AreWritableStmts busy
  IsWritableStmt s = OwnLeaves writable s

  -- The same of each of these.
  pub AreWritableStmts : Stmts → Type 0
  AreWritableStmts Nil = ⊤
  AreWritableStmts (Cons first rest) = IsWritableStmt first × AreWritableStmts rest

-- A number of type `int` that is a number, or `-` and a number: all but the least one.
abbrev pub IsWritableValue : ℤ → Type 0
IsWritableValue (pos n) = n ≤ largest
IsWritableValue (negsuc n) = suc n ≤ largest

-- A length that may be missing.
abbrev pub IsWritableLength : Option ℕ → Type 0
IsWritableLength None = Unit {0}
IsWritableLength (Some n) = n ≤ largest

-- Declarations and functions, each with its name and numbers.
abbrev pub IsWritableCell : Cell → Type 0
IsWritableCell c = IsName c.name × IsWritableValue c.value

abbrev pub IsWritableArray : Array → Type 0
IsWritableArray a = IsName a.name × (a.len ≤ largest) × All IsWritableValue a.values

abbrev pub IsWritableObject : Object → Type 0
IsWritableObject o = IsName o.name × IsWritableLength o.len

abbrev pub IsWritableSlot : Slot → Type 0
IsWritableSlot t = IsName t.name × IsWritableLength t.len

abbrev pub IsWritableFunction : Function → Type 0
IsWritableFunction f = IsName f.name × All IsName f.params × AreWritableStmts f.body

-- A program, by its parts.
pub record IsWritableProgram (p : Program) : Type 0 where
  pub ints : All IsWritableCell p.ints
  pub arrays : All IsWritableArray p.arrays
  pub mutexes : All IsWritableObject p.mutexes
  pub conds : All IsWritableObject p.conds
  pub threads : All IsWritableSlot p.threads
  pub monitors : All (λ n. n ≤ largest) p.monitors
  pub functions : All IsWritableFunction p.functions
  pub cap_len : p.cap_len ≤ largest

-- The canonical text of such a program is read as the tokens of its layout.
abbrev pub ReadsBack : Type 0
ReadsBack = (p : Program) → IsWritableProgram p → Tokens (text (layout_of p)) (words [] (layout_of p))
