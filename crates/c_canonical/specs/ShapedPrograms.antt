-- Which programs the grammar has tokens for, apart from the lengths of names and the sizes of numbers.
use Rattle.std.specs.Prelude.{◌≡◌, ℕ, ◌≤◌, Bool, true, false, List, [], ◌∷◌, All, Option, Some, None}
use Rattle.c_tree.specs.declared.program.Kind.{Kind}
use Rattle.c_tree.specs.declared.program.Kind.TheVariants as k
use Rattle.c_tree.specs.Bare.{Cell, Array, Object, Function, Program}
use Rattle.c_grammar.specs.declared.words.FixedWord.TheVariants as w
use Rattle.c_grammar.specs.Items.{spelling, undefined_name, cell_name, function_name}
use Rattle.c_canonical.specs.Shaped.{Usable, ShapedStmts, ShapedSlot}

-- ---- names

-- A name for a scalar or an array outside functions: any usable one but `gd_cap`.
abbrev pub UsableCell : List ℕ → Type 0
UsableCell name = cell_name (undefined_name name) ≡ Some name

-- A name for a function: any usable one but `main`.
abbrev pub UsableFunction : List ℕ → Type 0
UsableFunction name = function_name (undefined_name name) ≡ Some name

-- ---- declarations

abbrev pub ShapedCell : Cell → Type 0
ShapedCell c = UsableCell c.name

abbrev pub ShapedArray : Array → Type 0
ShapedArray a = UsableCell a.name

-- How many initialisers a mutex or a condition of this length has: none where it isn't ready, one where it stands alone, at least one in an array.
abbrev pub ShapedGiven : Bool → Option ℕ → ℕ → Type 0
ShapedGiven false len given = given ≡ 0
ShapedGiven true None given = given ≡ 1
ShapedGiven true (Some len) given = 1 ≤ given

abbrev pub ShapedObject : Object → Type 0
ShapedObject o = Usable o.name × ShapedGiven o.ready o.len o.given

-- The number that the capacities are declared with: 0 where there are none, and any number where there are some.
abbrev pub ShapedCapacities : ℕ → List ℕ → Type 0
ShapedCapacities len [] = len ≡ 0
ShapedCapacities len (capacity ∷ capacities) = Unit {0}

-- ---- functions

-- Main has its name and no parameters, a function for threads has one parameter, and others have any.
abbrev pub ShapedHead : Kind → List ℕ → List (List ℕ) → Type 0
ShapedHead k.Main name params = (name ≡ spelling w.Main) × (params ≡ [])
ShapedHead k.Int name params = UsableFunction name × All Usable params
ShapedHead k.Void name params = UsableFunction name × All Usable params
ShapedHead k.Thread name (param ∷ []) = UsableFunction name × Usable param
ShapedHead k.Thread name params = ⊥

abbrev pub ShapedFunction : Function → Type 0
ShapedFunction f = ShapedHead f.kind f.name f.params × ShapedStmts f.kind f.body

-- ---- programs

-- A program, by its parts.
pub record ShapedProgram (p : Program) : Type 0 where
  pub ints : All ShapedCell p.ints
  pub arrays : All ShapedArray p.arrays
  pub mutexes : All ShapedObject p.mutexes
  pub conds : All ShapedObject p.conds
  pub threads : All ShapedSlot p.threads
  pub capacities : ShapedCapacities p.cap_len p.monitors
  pub functions : All ShapedFunction p.functions
