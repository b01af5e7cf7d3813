-- When an edited program has the shape of what tokens spell.
use Rattle.std.specs.Prelude.{◌≡◌, ℕ, false, List, Contains, length}
use Rattle.c_tree.specs.Bare as bare
use Rattle.c_tree.specs.Everywhere.{Everywhere}
use Rattle.c_tree.specs.Lined.{Stmt, Stmts, Nil, Cons, If, While, For, TryLock, Function, Program, bare_stmts, bare_program}
use Rattle.c_canonical.specs.Shaped.{Usable, Callable}
use Rattle.c_canonical.specs.ShapedPrograms.{UsableFunction, ShapedCapacities, ShapedProgram}
use Rattle.kept_rules.specs.Edit.{Way, puts}
use Rattle.kept_rules.specs.Programs.{AreEdits, DeclaresSame}
use Rattle.kept_rules.specs.Uses.{IsPutInto, IsCopyOf, putting}

-- What a statement calls or starts can be used as the name that it is read as.
abbrev pub UsesFit : (List ℕ → List ℕ) → bare.Stmt → Type 0
UsesFit name (bare.Call target function args) = Callable (name function) → Callable function
UsesFit name (bare.Create slot function arg) = Usable (name function) → Usable function
UsesFit name s = Unit {0}

-- So can each name of a function that a program calls, starts or declares.
pub record NamesFit (name : List ℕ → List ℕ) (q : Program) : Type 0 where
  pub used : (g : Function) → Contains q.functions g → Everywhere (UsesFit name) (bare_stmts g.body)
  pub declared : (g : Function) → Contains q.functions g → UsableFunction (name g.name) → UsableFunction g.name

-- None of these statements may have been put in.
abbrev pub PutsNone : Way → Stmts → Type 0
PutsNone r Nil = Unit {0}
PutsNone r (Cons s ss) = (puts r s ≡ false) × PutsNone r ss

abbrev mutual
  -- None of the statements in the head of a `for` may have been, in this statement.
  pub HasPlainHeads : Way → Stmt → Type 0
  HasPlainHeads r (If line test then_arm else_arm) = HavePlainHeads r then_arm × HavePlainHeads r else_arm
  HasPlainHeads r (While line test body) = HavePlainHeads r body
  HasPlainHeads r (For line first_part test step body) = PutsNone r first_part × PutsNone r step × HavePlainHeads r body
  HasPlainHeads r (TryLock line place taken busy) = HavePlainHeads r taken × HavePlainHeads r busy
  HasPlainHeads r other = Unit {0}

  -- The same of each of these.
  pub HavePlainHeads : Way → Stmts → Type 0
  HavePlainHeads r Nil = Unit {0}
  HavePlainHeads r (Cons first rest) = HasPlainHeads r first × HavePlainHeads r rest

-- The same of each function of a program.
abbrev pub PlainHeads : Way → Program → Type 0
PlainHeads r q = (g : Function) → Contains q.functions g → HavePlainHeads r g.body

abbrev pub EditsKeepTheShape : Type 0
EditsKeepTheShape = (r : Way) (place : ℕ → ℕ) (q p : Program) → DeclaresSame q p → AreEdits r place q p → NamesFit r.name q → PlainHeads r q → ShapedCapacities q.cap_len q.monitors
    → ShapedProgram (bare_program p) → ShapedProgram (bare_program q)

abbrev pub PutsKeepTheShape : Type 0
PutsKeepTheShape = (q p : Program) → IsPutInto q p → PlainHeads (putting (length q.monitors)) q → ShapedProgram (bare_program p) → ShapedProgram (bare_program q)

abbrev pub CopiesKeepTheShape : Type 0
CopiesKeepTheShape = (name : List ℕ → List ℕ) (place : ℕ → ℕ) (q p : Program) → IsCopyOf name place q p → ShapedProgram (bare_program p) → ShapedProgram (bare_program q)

abbrev pub LinesDoNotMatter : Type 0
LinesDoNotMatter = (q p : Program) → bare_program q ≡ bare_program p → ShapedProgram (bare_program p) → ShapedProgram (bare_program q)
