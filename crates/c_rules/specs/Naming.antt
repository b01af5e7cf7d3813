-- Rules on declared names: those that are kept, that are too long, and that are declared twice.
use Rattle.std.specs.Prelude.{ℕ, nat_lt, max, Bool, true, false, not, ◌||◌, if◌then◌else◌, List, [], ◌∷◌, ◌++◌, length, map, filter, flat_map}
use Rattle.c_tree.specs.declared.program.Mode.{Mode}
use Rattle.c_tree.specs.declared.program.Mode.TheVariants as mode
use Rattle.c_tree.specs.Lined as lined
use Rattle.c_tree.specs.Lined.{Stmt, Program, Declare, Wait, Take, Give}
use Rattle.c_rules.specs.Names.{mentions, is_reserved, is_function_name}
use Rattle.c_rules.specs.Declarations.{Declaration, Thing, Function, outer, named}
use Rattle.c_rules.specs.Sites.{sites, lines_where}

-- ---- what is declared inside functions

-- A parameter or a local, with what is in scope where it is declared. A parameter has the line of its function.
pub record Inner : Type 0 where
  pub name : List ℕ
  pub line : ℕ
  pub scope : List (List ℕ)

-- parameters behind others
abbrev pub parameters_from : ℕ → List (List ℕ) → List (List ℕ) → List Inner
parameters_from line before [] = []
parameters_from line before (name ∷ names) =
    record { name = name; line = line; scope = before } ∷ parameters_from line (name ∷ before) names

abbrev pub parameters : lined.Function → List Inner
parameters f = parameters_from f.line [] f.params

-- the local that a statement declares
abbrev pub local_in : List (List ℕ) → Stmt → List Inner
local_in scope (Declare line name value) = record { name = name; line = line; scope = scope } ∷ []
local_in scope s = []

abbrev pub inner : Program → List Inner
inner p = flat_map parameters p.functions ++ flat_map (λ site. local_in site.scope site.stmt) (sites p)

-- ---- reserved names

-- a name that can't be declared as this
abbrev pub is_taken_for : Mode → List ℕ → Thing → Bool
is_taken_for mode name (Function place f) = not (is_function_name mode name)
is_taken_for mode name thing = is_reserved name

abbrev pub calls_monitor : Stmt → Bool
calls_monitor (Take line monitor) = true
calls_monitor (Give line monitor) = true
calls_monitor (Wait line cond mutex takes) = nat_lt 0 (length takes)
calls_monitor s = false

-- the line of the capacities, where there are any
abbrev pub capacity_lines : Program → List ℕ
capacity_lines p = if nat_lt 0 (length p.monitors) || nat_lt 0 p.cap_len then p.cap_line ∷ [] else []

-- programs of users have no capacities, take and give nothing, and no wait of theirs takes anything
abbrev pub monitor_lines : Mode → Program → List ℕ
monitor_lines mode.Any p = []
monitor_lines mode.Source p = capacity_lines p ++ lines_where (λ site. calls_monitor site.stmt) p

-- a name is declared that is kept for others
abbrev pub reserved : Mode → Program → List ℕ
reserved mode p =
    map (λ d. d.line) (filter (λ d. is_taken_for mode d.name d.thing) (outer p)) ++ map (λ l. l.line) (filter (λ l. is_reserved l.name) (inner p))
    ++ monitor_lines mode p

-- ---- long names

-- a user's name for a function leaves no room for the end of a copy's name
abbrev pub long_names : Mode → Program → List ℕ
long_names mode.Any p = []
long_names mode.Source p = map (λ f. f.line) (filter (λ f. nat_lt 56 (length f.name)) p.functions)

-- ---- names that are declared twice

-- two declarations outside functions have one name; the later line counts
abbrev pub outer_pairs : List Declaration → List ℕ
outer_pairs [] = []
outer_pairs (d ∷ ds) = map (λ e. max d.line e.line) (named d.name ds) ++ outer_pairs ds

-- a parameter or a local has the name of another in scope, or of anything declared outside functions, above it or below
abbrev pub inner_pairs : Program → Inner → List ℕ
inner_pairs p l = (if mentions l.scope l.name then l.line ∷ [] else []) ++ map (λ d. max d.line l.line) (named l.name (outer p))

-- a name is declared where it is in scope
abbrev pub declared_twice : Program → List ℕ
declared_twice p = outer_pairs (outer p) ++ flat_map (inner_pairs p) (inner p)
