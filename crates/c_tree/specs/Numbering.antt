-- How cells, resources and threads are numbered.
use Rattle.std.specs.Prelude.{ℕ, ℤ, pos, negsuc, ◌+◌, nat_lt, Bool, true, false, ◌&&◌, if◌then◌else◌, List, [], ◌∷◌, length, codes, bytes_eq, find, position, sum_by, Some, None, option_map, unwrap_or}
use Rattle.std.specs.declared.option.Option.{Option}
use Rattle.std.specs.Ordering.{int_eq}
use Rattle.c_tree.specs.Expressions.{Expr, Place}
use Rattle.c_tree.specs.Values.{constant}
use Rattle.c_tree.specs.Bare as bare
use Rattle.c_tree.specs.Bare.{Stmt, Stmts, Nil, Cons, Create, Object, Function, Program}

-- the first function of a name
abbrev pub function_named : Program → List ℕ → Option Function
function_named p name = find (λ f. bytes_eq f.name name) p.functions

abbrev pub main_name : List ℕ
main_name = codes "main"

-- main's own list of statements
abbrev pub main_body : Program → Stmts
main_body p = unwrap_or (option_map (λ f. f.body) (function_named p main_name)) Nil

-- a create statement of main's own list
pub record Creation : Type 0 where
  pub slot : Place
  pub function : List ℕ
  pub arg : Expr

-- the create statements of a list, in their order
abbrev pub creations_of : Stmts → List Creation
creations_of Nil = []
creations_of (Cons (Create slot function arg) rest) = record { slot = slot; function = function; arg = arg } ∷ creations_of rest
creations_of (Cons s rest) = creations_of rest

abbrev pub creations : Program → List Creation
creations p = creations_of (main_body p)

-- main is thread 0; the others are numbered from 1 in the order of their create statements
abbrev pub thread_count : Program → ℕ
thread_count p = length (creations p) + 1

-- two indices of threads that are the same constant, or both absent
abbrev pub same_constant : Option ℤ → Option ℤ → Bool
same_constant (Some a) (Some b) = int_eq a b
same_constant a b = false

abbrev pub same_index : Option Expr → Option Expr → Bool
same_index None None = true
same_index (Some a) (Some b) = same_constant (constant a) (constant b)
same_index a b = false

abbrev pub same_slot : Place → Place → Bool
same_slot a b = bytes_eq a.name b.name && same_index a.index b.index

-- the number of the thread that is created in a slot
abbrev pub thread_in : Program → Place → Option ℕ
thread_in p slot = option_map (λ k. k + 1) (position (λ c. same_slot c.slot slot) (creations p))

-- an index within a length: a number that isn't negative and is below it
abbrev pub index_within : ℕ → ℤ → Option ℕ
index_within len (pos k) = if nat_lt k len then Some k else None
index_within len (negsuc k) = None

-- the place of a member, or of a scalar, behind `before` others
abbrev pub member : ℕ → Option ℕ → Option ℤ → Option ℕ
member before None None = Some before
member before (Some len) (Some index) = option_map (λ k. before + k) (index_within len index)
member before len index = None

-- how many objects a declaration makes
abbrev pub object_count : Object → ℕ
object_count o = unwrap_or o.len 1

-- the number of an object: in order of declaration, each array's members from 0 on
abbrev pub numbered : ℕ → List Object → List ℕ → Option ℤ → Option ℕ
numbered before [] name index = None
numbered before (o ∷ os) name index =
    if bytes_eq o.name name then member before o.len index else numbered (before + object_count o) os name index

-- resources are the mutexes, and behind them the monitors
abbrev pub mutex_count : Program → ℕ
mutex_count p = sum_by object_count p.mutexes

abbrev pub mutex_of : Program → List ℕ → Option ℤ → Option ℕ
mutex_of p name index = numbered 0 p.mutexes name index

abbrev pub monitor_resource : Program → ℕ → ℕ
monitor_resource p k = mutex_count p + k

abbrev pub resource_count : Program → ℕ
resource_count p = mutex_count p + length p.monitors

-- conditions are numbered as mutexes are
abbrev pub condition_of : Program → List ℕ → Option ℤ → Option ℕ
condition_of p name index = numbered 0 p.conds name index

-- cells are the scalars, and behind them each array's members from 0 on
abbrev pub array_cell : ℕ → List bare.Array → List ℕ → ℤ → Option ℕ
array_cell before [] name index = None
array_cell before (a ∷ arrays) name index =
    if bytes_eq a.name name then option_map (λ k. before + k) (index_within a.len index) else array_cell (before + a.len) arrays name index

abbrev pub scalar_cell : Program → List ℕ → Option ℕ
scalar_cell p name = position (λ c. bytes_eq c.name name) p.ints

abbrev pub element_cell : Program → List ℕ → ℤ → Option ℕ
element_cell p name index = array_cell (length p.ints) p.arrays name index
