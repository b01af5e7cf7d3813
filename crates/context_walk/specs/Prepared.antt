-- Functions that are prepared to be walked.
use Rattle.std.specs.Prelude.{◌≡◌, ℕ, List, ◌++◌, All, length, bytes_eq, slice_get, Some, None, option_and_then, if◌then◌else◌}
use Rattle.std.specs.declared.option.Option.{Option}
use Rattle.std.specs.HashMap.{HashMap, get_by}
use denote.Ref.{Bor}
use Rattle.c_tree.specs.declared.program.Mode.{Mode}
use Rattle.c_tree.specs.declared.program.Program as declared
use Rattle.c_tree.specs.Lined.{Program, function_of, program_of, bare_program}
use Rattle.c_tree.specs.Numbering.{mutex_count}
use Rattle.c_rules.specs.Formed.{Formed}
use Rattle.contexts.specs.Resolved.{writes_of}
use Rattle.context_items.specs.Flat.{items_bear}
use Rattle.context_locals.specs.Known.{AreConstantNames}
use Rattle.context_walk.specs.declared.functions.Functions.{Functions}
use Rattle.context_walk.specs.declared.functions.Prepared.{Prepared}
use Rattle.context_walk.specs.Places.{above_at, items_of, place_at}
use Rattle.context_walk.specs.Steps.{declared_in, shown_steps, IsStep, NamesFit}

-- no rule is broken, in one of the modes
abbrev pub IsFormed : declared.Program → Type 0
IsFormed p = (mode : Mode) × Formed (program_of p) mode

-- the place that a table has for a name
abbrev pub placed : {S : Type 0} → HashMap (Bor (List ℕ)) ℕ S → List ℕ → Option ℕ
placed places name = get_by (λ key. bytes_eq name key.now) places

abbrev pub program_in : Functions → Program
program_in q = program_of q.program.now

abbrev pub count_in : Functions → ℕ
count_in q = length q.functions.items

-- the function that a call of a name enters, by what is prepared so far
abbrev pub callee_in : Functions → List ℕ → Option ℕ
callee_in q name = option_and_then (λ k. option_and_then (λ f. if f.bears then Some k else None) (slice_get q.functions.items k)) (placed q.places name)

-- this is the function at a place of a program
pub record IsPrepared (p : Program) (k : ℕ) (here : Prepared) : Type 0 where
  pub function : slice_get p.functions k ≡ Some (function_of here.function.now)
  -- its parameters and what it declares can be constant where nothing writes into them
  pub names : AreConstantNames (writes_of (bare_program p) (function_of here.function.now))
      (here.function.now.params ++ declared_in (items_of (function_of here.function.now))) here.names
  pub declares : All (NamesFit (writes_of (bare_program p) (function_of here.function.now)) here.names) (items_of (function_of here.function.now))
  -- its items in their order
  pub items : shown_steps here.steps.items ≡ items_of (function_of here.function.now)
  pub steps : All (IsStep p k here.names) here.steps.items
  pub bears : here.bears ≡ items_bear (above_at p k).bears (items_of (function_of here.function.now))

-- the first functions of a program are prepared
pub record AreSoFar (q : Functions) : Type 0 where
  pub each : (k : ℕ) (here : Prepared) → slice_get q.functions.items k ≡ Some here → IsPrepared (program_in q) k here
  pub places : (name : List ℕ) → placed q.places name ≡ place_at (program_in q) (count_in q) name
  pub mutexes : q.mutexes ≡ mutex_count (bare_program (program_in q))

-- all functions of a program are prepared
pub record ArePrepared (q : Functions) : Type 0 where
  pub so_far : AreSoFar q
  pub all : count_in q ≡ length (program_in q).functions
