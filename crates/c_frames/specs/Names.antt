-- The names of a function's parameters and locals.
use Rattle.std.specs.Prelude.{◌≡◌, ℕ, Bool, true, false, ◌||◌, List, map, bytes_eq, Some, None, option_map, IfSome, Vec}
use Rattle.std.specs.declared.option.Option.{Option}
use Rattle.std.specs.List.{list_any}
use Rattle.std.specs.HashSet.{HashSet}
use Rattle.std.specs.Option.{option_map_or}
use Rattle.std.specs.declared.alloc.Global.{Global}
use Rattle.c_tree.specs.declared.program.Function as declared
use Rattle.c_tree.specs.Lined.{function_of, bare_function}
use Rattle.c_tree.specs.Bare as bare
use Rattle.c_tree.specs.Bare.{Stmt, Stmts, Nil, Cons, Function}
use Rattle.c_frames.specs.declared.names.LocalNames.{LocalNames}
use Rattle.c_frames.specs.Heights.{height}

-- a declared function without its lines
abbrev pub shown_function : declared.Function → Function
shown_function f = bare_function (function_of f)

-- the name of what a statement itself gives a value
abbrev pub target : Stmt → Option (List ℕ)
target (bare.Declare name value) = Some name
target (bare.Assign place value) = Some place.name
target (bare.Call place function args) = option_map (λ p. p.name) place
target (bare.Read place) = Some place.name
target s = None

-- whether a statement itself gives a name a value
abbrev pub is_target : List ℕ → Stmt → Bool
is_target name s = option_map_or (bytes_eq name) (target s) false

abbrev mutual
  -- whether a statement of a list does, at any depth
  pub is_set : List ℕ → Stmts → Bool
  is_set name Nil = false
  is_set name (Cons s rest) = (is_target name s || is_set_inside name s) || is_set name rest

  -- whether one inside a statement does
  pub is_set_inside : List ℕ → Stmt → Bool
  is_set_inside name (bare.If test then_arm else_arm) = is_set name then_arm || is_set name else_arm
  is_set_inside name (bare.While test body) = is_set name body
  is_set_inside name (bare.For first_part test step body) = (is_set name first_part || is_set name step) || is_set name body
  is_set_inside name (bare.TryLock place taken busy) = is_set name taken || is_set name busy
  is_set_inside name s = false

-- the texts of a set's names, in the order in which they came
abbrev pub key_texts : {S : Type 0} → HashSet (Vec ℕ Global) S → List (List ℕ)
key_texts names = map (λ name. name.items) names.keys

abbrev pub names_in : LocalNames → List (List ℕ)
names_in names = key_texts names.names

-- a name is one of them
abbrev pub is_among : List (List ℕ) → List ℕ → Bool
is_among names name = list_any (bytes_eq name) names

abbrev pub IsAmong : LocalNames → List ℕ → Type 0
IsAmong names name = is_among (names_in names) name ≡ true

-- what a statement itself gives a value is one of the names
abbrev pub SetsAmong : LocalNames → Stmt → Type 0
SetsAmong names s = IfSome (target s) (IsAmong names)

-- the names of a function: its parameters, and what its statements give values
pub record NamesOf (f : Function) (names : LocalNames) : Type 0 where
  pub exact : (name : List ℕ) → is_among (names_in names) name ≡ (is_among f.params name || is_set name f.body)
  pub height : names.height ≡ height f.body
