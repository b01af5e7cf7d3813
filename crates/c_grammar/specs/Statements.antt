-- Statements, their arms, and lists of them (ISO/IEC 9899:1999, sections 6.8.2 to 6.8.5, narrowed).
use Rattle.std.specs.Prelude.{◌≡◌, ℕ, suc, max, Bool, true, false, List, [], ◌∷◌, ◌++◌, Some, None}
use Rattle.c_lexer.specs.declared.token.Sign.TheVariants as s
use Rattle.c_tree.specs.declared.program.Kind.{Kind}
use Rattle.c_tree.specs.declared.program.Kind.TheVariants as kind
use Rattle.c_tree.specs.declared.program.Slot.{Slot}
use Rattle.c_tree.specs.Expressions as tree
use Rattle.c_tree.specs.Expressions.{Expr, Place}
use Rattle.c_tree.specs.Lined as lined
use Rattle.c_tree.specs.Lined.{Stmt, listed}
use Rattle.c_grammar.specs.declared.words.FixedWord.TheVariants as w
use Rattle.c_grammar.specs.Items.{What, Item, at, sign, fixed, name_of}
use Rattle.c_grammar.specs.Levels.{Tall, tall, over, nothing, alone, followed}
use Rattle.c_grammar.specs.Commas.{Commas}
use Rattle.c_grammar.specs.Expressions.{SpellsWhole, SpellsAddress}
use Rattle.c_grammar.specs.Simple.{SpellsStep, SpellsSimple}

-- ---- the parts of a `for`

-- first = int N = e | step, or nothing
pub data SpellsFirst : List Item → List Item → Tall (List Stmt) → Type 0 where
  none : {ts : List Item} → SpellsFirst ts ts nothing
  declare : {l m n : ℕ} {a : What} {x : List ℕ} {ts rest : List Item} {e : Tall Expr}
      → name_of a ≡ Some x → SpellsWhole ts rest e
      → SpellsFirst (fixed l w.Int ∷ at m a ∷ sign n s.Assign ∷ ts) rest (alone (lined.Declare m x (Some e.tree)) e.levels)
  step : {ts rest : List Item} {x : Tall (List Stmt)} → SpellsStep ts rest x → SpellsFirst ts rest x

-- A missing test is the number 1, on no level.
pub data SpellsTest : List Item → List Item → Tall Expr → Type 0 where
  missing : {ts : List Item} → SpellsTest ts ts (tall (tree.Number 1) 0)
  given : {ts rest : List Item} {e : Tall Expr} → SpellsWhole ts rest e → SpellsTest ts rest e

-- The step, or nothing.
pub data SpellsLast : List Item → List Item → Tall (List Stmt) → Type 0 where
  none : {ts : List Item} → SpellsLast ts ts nothing
  step : {ts rest : List Item} {x : Tall (List Stmt)} → SpellsStep ts rest x → SpellsLast ts rest x

-- ---- what an `if` tests

-- An expression, or a trylock, of which the first arm is that of a mutex that was taken, or of one that was busy.
pub data Choice : Type 0 where
  Value : (test : Expr) → Choice
  Taken : (place : Place) → Choice
  Busy : (place : Place) → Choice

-- try = pthread_mutex_trylock ( & place )
pub data SpellsTry : List Item → List Item → Tall Place → Type 0 where
  try : {l m n : ℕ} {ts rest : List Item} {p : Tall Place}
      → SpellsAddress ts (sign n s.RightParenthesis ∷ rest) p → SpellsTry (fixed l w.TryLock ∷ sign m s.LeftParenthesis ∷ ts) rest p

-- test = e | try | ! try | try == 0 | try != 0: a trylock gives 0 where it took the mutex (POSIX). It has the level of an expression there. `!` takes one more, as in an expression; `==` and `!=` add none.
pub data SpellsChoice : List Item → List Item → Tall Choice → Type 0 where
  value : {ts rest : List Item} {e : Tall Expr} → SpellsWhole ts rest e → SpellsChoice ts rest (tall (Value e.tree) e.levels)
  tried : {ts rest : List Item} {p : Tall Place} → SpellsTry ts rest p → SpellsChoice ts rest (over (Busy p.tree) p.levels)
  not_tried : {l : ℕ} {ts rest : List Item} {p : Tall Place} → SpellsTry ts rest p → SpellsChoice (sign l s.Not ∷ ts) rest (over (Taken p.tree) (suc p.levels))
  zero : {l m : ℕ} {ts rest : List Item} {p : Tall Place}
      → SpellsTry ts (sign l s.Equal ∷ at m (What.Number 0) ∷ rest) p → SpellsChoice ts rest (over (Taken p.tree) p.levels)
  other : {l m : ℕ} {ts rest : List Item} {p : Tall Place}
      → SpellsTry ts (sign l s.NotEqual ∷ at m (What.Number 0) ∷ rest) p → SpellsChoice ts rest (over (Busy p.tree) p.levels)

-- ---- statements

-- The arms in the order of the text.
abbrev pub choice : ℕ → Choice → List Stmt → List Stmt → Stmt
choice line (Value e) one two = lined.If line e (listed one) (listed two)
choice line (Taken p) one two = lined.TryLock line p (listed one) (listed two)
choice line (Busy p) one two = lined.TryLock line p (listed two) (listed one)

abbrev pub chosen : ℕ → Tall Choice → Tall (List Stmt) → Tall (List Stmt) → Tall (List Stmt)
chosen line test one two = alone (choice line test.tree one.tree two.tree) (max test.levels (max one.levels two.levels))

abbrev pub repeated : ℕ → Tall Expr → Tall (List Stmt) → Tall (List Stmt)
repeated line test body = alone (lined.While line test.tree (listed body.tree)) (max test.levels body.levels)

-- The first part and the step have the level of the `for`; the test and the arm are one level below it.
abbrev pub counted : ℕ → Tall (List Stmt) → Tall Expr → Tall (List Stmt) → Tall (List Stmt) → Tall (List Stmt)
counted line first test last body =
    tall (lined.For line (listed first.tree) test.tree (listed last.tree) (listed body.tree) ∷ [])
    (max (max first.levels last.levels) (suc (max test.levels body.levels)))

-- In a function of this kind. The flag says that the text isn't, and doesn't end in, an `if` without `else`:
-- only then may an `else` follow where it is an arm.
mutual
  -- stmt = simple ; | ; | if ( test ) arm [else arm] | while ( e ) arm | for ( [first] ; [e] ; [step] ) arm
  pub data SpellsStatement : Kind → Bool → List Item → List Item → Tall (List Stmt) → Type 0 where
    simple : {k : Kind} {l : ℕ} {ts rest : List Item} {x : Tall (List Stmt)}
        → SpellsSimple k ts (sign l s.Semicolon ∷ rest) x → SpellsStatement k true ts rest x
    -- a `;` alone is no statement of the tree
    empty : {k : Kind} {l : ℕ} {rest : List Item} → SpellsStatement k true (sign l s.Semicolon ∷ rest) rest nothing
    if_only : {k : Kind} {b : Bool} {l m n : ℕ} {ts mid rest : List Item} {c : Tall Choice} {one : Tall (List Stmt)}
        → SpellsChoice ts (sign n s.RightParenthesis ∷ mid) c → SpellsArm k b mid rest one
        → SpellsStatement k false (fixed l w.If ∷ sign m s.LeftParenthesis ∷ ts) rest (chosen l c one nothing)
    if_else : {k : Kind} {b : Bool} {l m n i : ℕ} {ts mid next rest : List Item} {c : Tall Choice} {one two : Tall (List Stmt)}
        → SpellsChoice ts (sign n s.RightParenthesis ∷ mid) c → SpellsArm k true mid (fixed i w.Else ∷ next) one → SpellsArm k b next rest two
        → SpellsStatement k b (fixed l w.If ∷ sign m s.LeftParenthesis ∷ ts) rest (chosen l c one two)
    while : {k : Kind} {b : Bool} {l m n : ℕ} {ts mid rest : List Item} {e : Tall Expr} {body : Tall (List Stmt)}
        → SpellsWhole ts (sign n s.RightParenthesis ∷ mid) e → SpellsArm k b mid rest body
        → SpellsStatement k b (fixed l w.While ∷ sign m s.LeftParenthesis ∷ ts) rest (repeated l e body)
    for : {k : Kind} {b : Bool} {l m n i j : ℕ} {ts mid next after rest : List Item} {first last body : Tall (List Stmt)} {e : Tall Expr}
        → SpellsFirst ts (sign n s.Semicolon ∷ mid) first → SpellsTest mid (sign i s.Semicolon ∷ next) e
        → SpellsLast next (sign j s.RightParenthesis ∷ after) last → SpellsArm k b after rest body
        → SpellsStatement k b (fixed l w.For ∷ sign m s.LeftParenthesis ∷ ts) rest (counted l first e last body)

  -- arm = { {stmt} } | stmt
  pub data SpellsArm : Kind → Bool → List Item → List Item → Tall (List Stmt) → Type 0 where
    braces : {k : Kind} {l m : ℕ} {ts rest : List Item} {all : Tall (List Stmt)}
        → SpellsList k ts (sign m s.RightBrace ∷ rest) all → SpellsArm k true (sign l s.LeftBrace ∷ ts) rest all
    single : {k : Kind} {b : Bool} {ts rest : List Item} {x : Tall (List Stmt)} → SpellsStatement k b ts rest x → SpellsArm k b ts rest x

  -- {stmt}
  pub data SpellsList : Kind → List Item → List Item → Tall (List Stmt) → Type 0 where
    none : {k : Kind} {ts : List Item} → SpellsList k ts ts nothing
    then : {k : Kind} {b : Bool} {ts mid rest : List Item} {all x : Tall (List Stmt)}
        → SpellsList k ts mid all → SpellsStatement k b mid rest x → SpellsList k ts rest (followed all x)

-- ---- threads

-- [static]: it is dropped
pub data SpellsStatic : List Item → List Item → Type 0 where
  absent : {ts : List Item} → SpellsStatic ts ts
  present : {l : ℕ} {rest : List Item} → SpellsStatic (fixed l w.Static ∷ rest) rest

-- slot = N | N [ K ]
pub data SpellsSlot : List Item → List Item → Slot → Type 0 where
  one : {l : ℕ} {a : What} {n : List ℕ} {rest : List Item} → name_of a ≡ Some n → SpellsSlot (at l a ∷ rest) rest (record { name = n; len = None; line = l })
  several : {l m i j len : ℕ} {a : What} {n : List ℕ} {rest : List Item} → name_of a ≡ Some n
      → SpellsSlot (at l a ∷ sign m s.LeftBracket ∷ at i (What.Number len) ∷ sign j s.RightBracket ∷ rest) rest (record { name = n; len = Some len; line = l })

-- slots = [static] pthread_t slot {, slot} ;
pub data SpellsSlots : List Item → List Item → List Slot → Type 0 where
  slots : {l m : ℕ} {ts mid rest : List Item} {all : List Slot}
      → SpellsStatic ts (fixed l w.Thread ∷ mid) → Commas SpellsSlot mid (sign m s.Semicolon ∷ rest) all → SpellsSlots ts rest all

-- ---- the body of a function

-- Its statements, and the threads that it declares.
pub record Body : Type 0 where
  pub stmts : List Stmt
  pub slots : List Slot

abbrev pub body_then : Tall Body → Tall (List Stmt) → Tall Body
body_then b x = tall (record { stmts = b.tree.stmts ++ x.tree; slots = b.tree.slots }) (max b.levels x.levels)

abbrev pub body_with : Tall Body → List Slot → Tall Body
body_with b all = tall (record { stmts = b.tree.stmts; slots = b.tree.slots ++ all }) b.levels

-- {stmt}, in main with `slots` among its statements, which are read as standing outside functions
pub data SpellsBody : Kind → List Item → List Item → Tall Body → Type 0 where
  none : {k : Kind} {ts : List Item} → SpellsBody k ts ts (tall (record { stmts = []; slots = [] }) 0)
  then : {k : Kind} {b : Bool} {ts mid rest : List Item} {all : Tall Body} {x : Tall (List Stmt)}
      → SpellsBody k ts mid all → SpellsStatement k b mid rest x → SpellsBody k ts rest (body_then all x)
  then_slots : {ts mid rest : List Item} {all : Tall Body} {threads : List Slot}
      → SpellsBody kind.Main ts mid all → SpellsSlots mid rest threads → SpellsBody kind.Main ts rest (body_with all threads)
