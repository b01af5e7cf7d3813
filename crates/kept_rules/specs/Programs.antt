-- Programs that differ by functions that are renamed or copied, by takes and gives of monitors and by lines.
use Rattle.std.specs.Prelude.{◌≡◌, ℕ, ◌≤◌, true, List, ◌⊎◌, Contains, map, length}
use Rattle.std.specs.List.{list_any}
use Rattle.c_tree.specs.declared.program.Mode.{Mode}
use Rattle.c_tree.specs.Lined.{Function, Program, bare_cell, bare_array, bare_object, bare_slot}
use Rattle.c_rules.specs.Naming.{long_names, monitor_lines}
use Rattle.c_rules.specs.Using.{capacity_count_lines}
use Rattle.c_rules.specs.Objects.{empty_capacity_lines}
use Rattle.c_rules.specs.Names.{is_reserved, is_function_name}
use Rattle.c_rules.specs.Sites.{Site, sites, is_main}
use Rattle.c_rules.specs.Uses.{Use, uses_of}
use Rattle.rule_facts.specs.Apart.{Apart, Listed, function_names}
use Rattle.rule_facts.specs.Meant.{names_function}
use Rattle.kept_rules.specs.Edit.{Way, Edits}

-- a function whose body is edited
pub record IsFunctionEdit (r : Way) (g f : Function) : Type 0 where
  pub name : r.name g.name ≡ f.name
  pub kind : g.kind ≡ f.kind
  pub params : g.params ≡ f.params
  pub main : is_main g ≡ is_main f
  pub body : Edits r g.body f.body

-- a function of this name, at this place or above
pub record Above (p : Program) (here : ℕ) (name : List ℕ) : Type 0 where
  pub place : ℕ
  pub function : Function
  pub listed : Listed p (place, function)
  pub above : place ≤ here
  pub named : function.name ≡ name

-- the function of p that one of q comes from
pub record Source (r : Way) (place : ℕ → ℕ) (p : Program) (g : ℕ × Function) : Type 0 where
  pub function : Function
  pub listed : Listed p (place g.0, function)
  pub edit : IsFunctionEdit r g.1 function

-- each function of q comes from one of p
abbrev pub AreEdits : Way → (ℕ → ℕ) → Program → Program → Type 0
AreEdits r place q p = (g : ℕ × Function) → Listed q g → Source r place p g

-- what the programs declare outside functions is the same, but for lines, functions and capacities
pub record DeclaresSame (q p : Program) : Type 0 where
  pub ints : map bare_cell q.ints ≡ map bare_cell p.ints
  pub arrays : map bare_array q.arrays ≡ map bare_array p.arrays
  pub mutexes : map bare_object q.mutexes ≡ map bare_object p.mutexes
  pub conds : map bare_object q.conds ≡ map bare_object p.conds
  pub threads : map bare_slot q.threads ≡ map bare_slot p.threads

-- q is p with takes and gives of monitors put in, with functions renamed or copied, and on other lines
pub record IsEditOf (r : Way) (place : ℕ → ℕ) (q p : Program) : Type 0 where
  pub declared : DeclaresSame q p
  pub functions : AreEdits r place q p
  pub monitors : length p.monitors ≤ length q.monitors
  pub limit : r.limit ≤ length q.monitors
  -- what is called or started is defined above
  pub called : (x : Site) (u : Use) → Contains (sites q) x → Contains (uses_of x.stmt) u → names_function u.role ≡ true → Above q x.place u.name
  -- names of functions differ, and each is that of a function of p or can't be declared in p
  pub apart : Apart (function_names q)
  pub fresh : (g : Function) → Contains q.functions g → Contains (function_names p) g.name ⊎ (is_reserved g.name ≡ true)

-- what is new in q keeps the rules: names of functions, main, and monitors
pub record KeepsOwn (mode : Mode) (q : Program) : Type 0 where
  pub allowed : (g : Function) → Contains q.functions g → is_function_name mode g.name ≡ true
  pub short : (line : ℕ) → Contains (long_names mode q) line → ⊥
  pub main : list_any is_main q.functions ≡ true
  pub monitors : (line : ℕ) → Contains (monitor_lines mode q) line → ⊥
  pub counted : (line : ℕ) → Contains (capacity_count_lines q) line → ⊥
  pub filled : (line : ℕ) → Contains (empty_capacity_lines q) line → ⊥
  pub few : length q.monitors ≤ 16
