-- Two ways of editing a program: takes and gives of monitors are put in, and functions are copied.
use Rattle.std.specs.Prelude.{false, ◌≡◌, ℕ, ◌<◌, ◌≤◌, ◌==◌, true, List, [], ◌∷◌, ◌⊎◌, Contains, length}
use Rattle.std.specs.List.{list_any}
use Rattle.c_tree.specs.declared.program.Mode.TheVariants as mode
use Rattle.c_tree.specs.Lined.{Function, Program}
use Rattle.c_rules.specs.Names.{is_reserved, is_function_name}
use Rattle.c_rules.specs.Sites.{Site, sites, is_main}
use Rattle.c_rules.specs.Uses.{Use, uses_of, is_start}
use Rattle.rule_facts.specs.Apart.{Apart, Listed, function_names}
use Rattle.rule_facts.specs.Meant.{names_function}
use Rattle.kept_rules.specs.Edit.{Way}
use Rattle.kept_rules.specs.Programs.{IsFunctionEdit, AreEdits, DeclaresSame}

-- ---- takes and gives of monitors that are put in

-- names stay
abbrev pub putting : ℕ → Way
putting limit = record { name = λ name. name; limit = limit }

-- lines alone are others
abbrev pub itself : Way
itself = putting 0

-- functions one by one, their bodies edited
pub data Puts (r : Way) : List Function → List Function → Type 0 where
  none : Puts r [] []
  more : (g f : Function) (gs fs : List Function) → IsFunctionEdit r g f → Puts r gs fs → Puts r (g ∷ gs) (f ∷ fs)

-- q is p with takes and gives of its monitors put in, on other lines; each monitor has a capacity
pub record IsPutInto (q p : Program) : Type 0 where
  pub declared : DeclaresSame q p
  pub functions : Puts (putting (length q.monitors)) q.functions p.functions
  pub counted : q.cap_len ≡ length q.monitors
  pub filled : list_any (λ capacity. capacity == 0) q.monitors ≡ false
  pub few : length q.monitors ≤ 16
  pub monitors : length p.monitors ≤ length q.monitors

-- ---- functions that are copied

-- names of functions are read so
abbrev pub copying : (List ℕ → List ℕ) → Way
copying name = record { name = name; limit = 0 }

-- a function of this name
pub record HasFunction (p : Program) (name : List ℕ) : Type 0 where
  pub place : ℕ
  pub function : Function
  pub listed : Listed p (place, function)
  pub named : function.name ≡ name

-- Each function of q is one of p, or a copy of one under a name of its own, and calls functions of q in the place of those of p.
pub record IsCopyOf (name : List ℕ → List ℕ) (place : ℕ → ℕ) (q p : Program) : Type 0 where
  pub declared : DeclaresSame q p
  pub monitors : q.monitors ≡ p.monitors
  pub cap_len : q.cap_len ≡ p.cap_len
  pub functions : AreEdits (copying name) place q p
  -- copies stand in the order of what they are copied from
  pub ordered : (g h : ℕ × Function) → Listed q g → Listed q h → place g.0 < place h.0 → g.0 < h.0
  -- what is called or started is a function of q
  pub called : (x : Site) (u : Use) → Contains (sites q) x → Contains (uses_of x.stmt) u → names_function u.role ≡ true → HasFunction q u.name
  -- names of functions differ, each is that of a function of p or can't be declared in p, and is such a name as copies may have
  pub apart : Apart (function_names q)
  pub fresh : (g : Function) → Contains q.functions g → Contains (function_names p) g.name ⊎ (is_reserved g.name ≡ true)
  pub allowed : (g : Function) → Contains q.functions g → is_function_name mode.Any g.name ≡ true
  -- main is there, and isn't what a thread begins with
  pub main : list_any is_main q.functions ≡ true
  pub no_thread : (f : Function) → Contains p.functions f → is_main f ≡ true → is_start f.kind ≡ false
