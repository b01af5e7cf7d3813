-- What the rules say of a program, fact by fact.
use Rattle.std.specs.Prelude.{[], ◌≡◌, ◌≤◌, ℕ, Contains, length, slice_get, Some}
use Rattle.c_tree.specs.Everywhere.{Everywhere}
use Rattle.c_tree.specs.Numbering.{Creation, creations, function_named, main_body, main_name}
use Rattle.c_tree.specs.Lined.{Function, Program, bare_stmts, bare_function, bare_program}
use Rattle.rule_facts.specs.Apart.{Apart, outer_names, Listed}
use Rattle.rule_facts.specs.Statements.{CallsAbove, PlacesFit, WithinMonitors}
use Rattle.rule_facts.specs.Elements.{ElementsFit}
use Rattle.rule_facts.specs.Threading.{StartsWell, Created, ThreadsOwn, ThreadsBehind}

-- the function that is named main, whose list is the first thread's
pub record HasMain (p : Program) : Type 0 where
  pub place : ℕ
  pub function : Function
  pub listed : Listed p (place, function)
  pub named : function.name ≡ main_name
  pub body : main_body (bare_program p) ≡ bare_stmts function.body

pub record Regular (p : Program) : Type 0 where
  -- ---- names
  -- those outside functions differ
  pub apart : Apart (outer_names p)
  -- a name is that of one function
  pub names : (j k : ℕ) (f g : Function) → Listed p (j, f) → Listed p (k, g) → f.name ≡ g.name → (j ≡ k) × (f ≡ g)
  -- and the one that the meaning finds by it
  pub found : (f : ℕ × Function) → Listed p f → function_named (bare_program p) f.1.name ≡ Some (bare_function f.1)
  pub main : HasMain p
  -- ---- each statement of each function, at any depth
  -- a call names an int function or a void one that stands above, with as many parameters
  pub calls : (f : ℕ × Function) → Listed p f → Everywhere (CallsAbove p f.0) (bare_stmts f.1.body)
  -- places name objects of their kinds, with an index where they are arrays
  pub places : (f : ℕ × Function) → Listed p f → Everywhere (PlacesFit (bare_program p)) (bare_stmts f.1.body)
  -- members that expressions read, and members that are set, are of arrays
  pub elements : (f : ℕ × Function) → Listed p f → Everywhere (ElementsFit (bare_program p).arrays) (bare_stmts f.1.body)
  -- takes and gives are of monitors that are there
  pub monitors : (f : ℕ × Function) → Listed p f → Everywhere (WithinMonitors (length p.monitors)) (bare_stmts f.1.body)
  -- creates and joins are of main; a create begins a thread function with a constant
  pub starts : (f : ℕ × Function) → Listed p f → Everywhere (StartsWell p f) (bare_stmts f.1.body)
  -- ---- each function's own list
  -- creates and joins stand in no arm and no body
  pub own : (f : ℕ × Function) → Listed p f → ThreadsOwn (bare_stmts f.1.body)
  -- each create has a slot of its own, and a join stands behind its create, and is the only one
  pub behind : (f : ℕ × Function) → Listed p f → ThreadsBehind [] (bare_stmts f.1.body)
  -- the slot of the create statement k means the thread k + 1
  pub created : (k : ℕ) (c : Creation) → slice_get (creations (bare_program p)) k ≡ Some c → Created p k c
  -- ---- monitors
  -- each has a capacity, which isn't 0, and there are at most 16
  pub counted : p.cap_len ≡ length p.monitors
  pub capacities : (capacity : ℕ) → Contains p.monitors capacity → 1 ≤ capacity
  pub few : length p.monitors ≤ 16
