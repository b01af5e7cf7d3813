-- What the rules say of statements that create and join threads, and of the threads that they create.
use Rattle.std.specs.Prelude.{List, ◌∷◌, Bool, false, true, ◌≡◌, ◌+◌, ◌≤◌, ⊤, ℕ, ℤ, slice_get, Some}
use Rattle.std.specs.List.{list_any}
use Rattle.c_tree.specs.declared.program.Kind.TheVariants as kind
use Rattle.c_tree.specs.Expressions.{Expr, Place}
use Rattle.c_tree.specs.Values.{constant}
use Rattle.c_tree.specs.Bare as bare
use Rattle.c_tree.specs.Everywhere.{EverywhereInside}
use Rattle.c_tree.specs.Numbering.{Creation, same_slot, creations, thread_in}
use Rattle.c_tree.specs.Lined.{Function, Program, bare_program}
use Rattle.c_rules.specs.Sites.{is_main}
use Rattle.c_rules.specs.Threads.{has_name}
use Rattle.rule_facts.specs.Apart.{Listed}

-- ---- what is begun

-- a thread function, and the constant that it is begun with
pub record Starts (p : Program) (name : List ℕ) (arg : Expr) : Type 0 where
  pub place : ℕ
  pub function : Function
  pub listed : Listed p (place, function)
  pub named : function.name ≡ name
  pub kind : function.kind ≡ kind.Thread
  pub value : ℤ
  pub argument : constant arg ≡ Some value
  pub no_names : has_name arg ≡ false

-- a create statement of main: the creation that it is, the thread that its slot means, and what it begins
pub record Creates (p : Program) (here : ℕ) (slot : Place) (name : List ℕ) (arg : Expr) : Type 0 where
  pub starts : Starts p name arg
  pub above : starts.place ≤ here
  pub creation : ℕ
  pub created : slice_get (creations (bare_program p)) creation ≡ Some (record { slot = slot; function = name; arg = arg })
  pub thread : thread_in (bare_program p) slot ≡ Some (creation + 1)

-- threads are created and joined in main alone
abbrev pub StartsWell : Program → ℕ × Function → bare.Stmt → Type 0
StartsWell p f (bare.Create slot name arg) = (is_main f.1 ≡ true) × Creates p f.0 slot name arg
StartsWell p f (bare.Join slot) = is_main f.1 ≡ true
StartsWell p f s = ⊤

-- a create statement of main's own list, by its number there
pub record Created (p : Program) (k : ℕ) (c : Creation) : Type 0 where
  pub starts : Starts p c.function c.arg
  pub thread : thread_in (bare_program p) c.slot ≡ Some (k + 1)

-- ---- where such statements stand

-- it doesn't create or join a thread
abbrev pub ThreadFree : bare.Stmt → Type 0
ThreadFree (bare.Create slot name arg) = ⊥
ThreadFree (bare.Join slot) = ⊥
ThreadFree s = ⊤

-- inside the statements of a list there are no such statements: each one is of the list itself
abbrev pub ThreadsOwn : bare.Stmts → Type 0
ThreadsOwn bare.Nil = ⊤
ThreadsOwn (bare.Cons s rest) = EverywhereInside ThreadFree s × ThreadsOwn rest

abbrev pub creates_slot : Place → bare.Stmt → Bool
creates_slot slot (bare.Create other name arg) = same_slot other slot
creates_slot slot s = false

abbrev pub joins_slot : Place → bare.Stmt → Bool
joins_slot slot (bare.Join other) = same_slot other slot
joins_slot slot s = false

-- Behind these statements, the nearest first: a create's slot has no create among them, and a join's slot has one, and no join.
abbrev pub ThreadBehind : List bare.Stmt → bare.Stmt → Type 0
ThreadBehind before (bare.Create slot name arg) = list_any (creates_slot slot) before ≡ false
ThreadBehind before (bare.Join slot) = (list_any (creates_slot slot) before ≡ true) × (list_any (joins_slot slot) before ≡ false)
ThreadBehind before s = ⊤

-- so of each statement of a list, behind the others
abbrev pub ThreadsBehind : List bare.Stmt → bare.Stmts → Type 0
ThreadsBehind before bare.Nil = ⊤
ThreadsBehind before (bare.Cons s rest) = ThreadBehind before s × ThreadsBehind (s ∷ before) rest
