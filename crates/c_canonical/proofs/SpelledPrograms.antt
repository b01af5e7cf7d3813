-- The canonical layout of a program that is shaped spells it.
use Rattle.std.proofs.Common.{◌≡◌, ℕ, Bool, List, [], ◌∷◌, ◌++◌, map, refl, sym, ap, ap₂, ◌∙◌, append-nil}
use Rattle.std.specs.List.{flat_map}
use Rattle.std.proofs.lemmas.List.{map-append}
use Rattle.c_layout.specs.Layout as layout
use Rattle.c_tree.specs.Bare.{Cell, Array, Object, Slot, Function, Program}
use Rattle.c_tree.specs.Lined as lined
use Rattle.c_tree.specs.Lined.{bare_cell, bare_array, bare_object, bare_slot, bare_function, bare_program}
use Rattle.c_grammar.specs.Items.{Item}
use Rattle.c_grammar.specs.Levels.{Tall, tall}
use Rattle.c_grammar.specs.Declarations as d
use Rattle.c_grammar.specs.Programs as programs
use Rattle.c_grammar.specs.Programs.{SpellsOuter, SpellsProgram, empty_program, capacity_program, with_cells, with_objects, with_slots, with_function}
use Rattle.c_canonical.specs.Programs.{cell, array, mutex, condition, slot, monitors, function, declarations, layout_of}
use Rattle.c_canonical.specs.Waits.{some_waits}
use Rattle.c_canonical.specs.Shown.{Shows, nothing, unseen}
use Rattle.c_canonical.specs.Shaped.{ShapedSlot}
use Rattle.c_canonical.specs.ShapedPrograms.{ShapedCell, ShapedArray, ShapedObject, ShapedFunction, ShapedCapacities, ShapedProgram}
use Rattle.c_canonical.proofs.Shown.{shows_append}
use Rattle.c_canonical.proofs.ShownLists.{both}
use Rattle.c_canonical.proofs.SpelledDeclarations.{cell_spelled, array_spelled, slot_spelled}
use Rattle.c_canonical.proofs.SpelledObjects.{mutex_spelled, condition_spelled}
use Rattle.c_canonical.proofs.SpelledFunctions.{capacities_spelled, function_spelled}
use Rattle.c_canonical.proofs.Growth.{more_ints, more_arrays, more_mutexes, more_conds, more_threads, more_functions, ints_grow, arrays_grow, mutexes_grow, conds_grow, threads_grow, functions_grow, Grown, Adds, all_added}

-- The layout of the declarations of a program without its capacities.
abbrev behind_capacities : Program → List layout.Item
behind_capacities p = flat_map cell p.ints ++ (flat_map array p.arrays ++ (flat_map mutex p.mutexes ++ (flat_map condition p.conds ++ flat_map slot p.threads)))

-- A program with the declarations of another one but the capacities, and with its functions too.
abbrev with_declarations : Program → Program → Program
with_declarations q p = more_threads (more_conds (more_mutexes (more_arrays (more_ints q p.ints) p.arrays) p.mutexes) p.conds) p.threads

abbrev with_parts : Program → Program → Program
with_parts q p = more_functions (with_declarations q p) p.functions

module _ (start : Tall lined.Program) where
  cell_added : Adds start Cell ShapedCell cell more_ints
  cell_added x ts mid rest p f g h = let c = cell_spelled x f h in record {
    program = with_cells p (d.Scalar (record { name = x.name; value = x.value; line = c.line }) ∷ []);
    spells = programs.then_cells g c.spelled;
    is = ap₂ (λ (ints : List Cell) (arrays : List Array). record (bare_program p.tree) { ints = ints; arrays = arrays })
        (map-append bare_cell p.tree.ints (record { name = x.name; value = x.value; line = c.line } ∷ [])) (ap (map bare_array) (append-nil p.tree.arrays));
  }

  array_added : Adds start Array ShapedArray array more_arrays
  array_added x ts mid rest p f g h = let a = array_spelled x f h in record {
    program = with_cells p (d.Several (record { name = x.name; len = x.len; values = x.values; line = a.line }) ∷ []);
    spells = programs.then_cells g a.spelled;
    is = ap₂ (λ (ints : List Cell) (arrays : List Array). record (bare_program p.tree) { ints = ints; arrays = arrays })
        (ap (map bare_cell) (append-nil p.tree.ints)) (map-append bare_array p.tree.arrays (record { name = x.name; len = x.len; values = x.values; line = a.line } ∷ []));
  }

  mutex_added : Adds start Object ShapedObject mutex more_mutexes
  mutex_added x ts mid rest p f g h = let o = mutex_spelled x f h in record {
    program = with_objects p d.mutex (record { name = x.name; len = x.len; ready = x.ready; given = x.given; line = o.line } ∷ []);
    spells = programs.then_objects g o.spelled;
    is = ap (λ (all : List Object). record (bare_program p.tree) { mutexes = all })
        (map-append bare_object p.tree.mutexes (record { name = x.name; len = x.len; ready = x.ready; given = x.given; line = o.line } ∷ []));
  }

  condition_added : Adds start Object ShapedObject condition more_conds
  condition_added x ts mid rest p f g h = let o = condition_spelled x f h in record {
    program = with_objects p d.condition (record { name = x.name; len = x.len; ready = x.ready; given = x.given; line = o.line } ∷ []);
    spells = programs.then_objects g o.spelled;
    is = ap (λ (all : List Object). record (bare_program p.tree) { conds = all })
        (map-append bare_object p.tree.conds (record { name = x.name; len = x.len; ready = x.ready; given = x.given; line = o.line } ∷ []));
  }

  slot_added : Adds start Slot ShapedSlot slot more_threads
  slot_added x ts mid rest p f g h = let t = slot_spelled x f h in record {
    program = with_slots p (record { name = x.name; len = x.len; line = t.line } ∷ []);
    spells = programs.then_slots g t.spelled;
    is = ap (λ (all : List Slot). record (bare_program p.tree) { threads = all })
        (map-append bare_slot p.tree.threads (record { name = x.name; len = x.len; line = t.line } ∷ []));
  }

  function_added : Adds start Function ShapedFunction function more_functions
  function_added x ts mid rest p f g h = let f = function_spelled x f h in record {
    program = with_function p (tall (record { function = f.function; slots = [] }) f.levels);
    spells = programs.then_function g f.spelled;
    is = ap₂ (λ (threads : List Slot) (functions : List Function). record (bare_program p.tree) { threads = threads; functions = functions })
        (ap (map bare_slot) (append-nil p.tree.threads))
        (map-append bare_function p.tree.functions (f.function ∷ []) ∙ ap (λ (one : Function). map bare_function p.tree.functions ++ one ∷ []) f.is);
  }

  -- ---- what follows the capacities

  declarations_added : (p : Program) (q : Tall lined.Program) {ts mid rest : List Item} → ShapedProgram p → SpellsOuter start ts mid q → Shows (behind_capacities p) mid rest
      → Grown start ts rest (with_declarations (bare_program q.tree) p)
  declarations_added p q f g h =
      let a = shows_append (flat_map cell p.ints) _ _ _ h in
      let b = shows_append (flat_map array p.arrays) _ _ _ a.second in
      let c = shows_append (flat_map mutex p.mutexes) _ _ _ b.second in
      let e = shows_append (flat_map condition p.conds) (flat_map slot p.threads) _ _ c.second in
      let ints = all_added start ShapedCell cell more_ints ints_grow cell_added p.ints f.ints (record { program = q; spells = g; is = refl }) a.first in
      let arrays = all_added start ShapedArray array more_arrays arrays_grow array_added p.arrays f.arrays ints b.first in
      let mutexes = all_added start ShapedObject mutex more_mutexes mutexes_grow mutex_added p.mutexes f.mutexes arrays c.first in
      let conds = all_added start ShapedObject condition more_conds conds_grow condition_added p.conds f.conds mutexes e.first in
      all_added start ShapedSlot slot more_threads threads_grow slot_added p.threads f.threads conds e.second

  parts_added : (p : Program) {ts rest : List Item} → ShapedProgram p → Shows (behind_capacities p ++ flat_map function p.functions) ts rest
      → Grown start ts rest (with_parts (bare_program start.tree) p)
  parts_added p f h =
      let a = shows_append (behind_capacities p) (flat_map function p.functions) _ _ h in
      all_added start ShapedFunction function more_functions functions_grow function_added p.functions f.functions (declarations_added p start f programs.none a.first) a.second

-- ---- the capacities

-- A program of these capacities alone.
abbrev of_capacities : ℕ → List ℕ → Program
of_capacities len all = record { ints = []; arrays = []; mutexes = []; conds = []; threads = []; monitors = all; functions = []; cap_len = len }

-- Tokens that spell a program wherever others spell the rest of it, which begins with these capacities.
record Started (end len : ℕ) (all : List ℕ) (ts mid : List Item) : Type 0 where
  start : Tall lined.Program
  is : bare_program start.tree ≡ of_capacities len all
  whole : (q : Tall lined.Program) → SpellsOuter start mid [] q → SpellsProgram end ts q

started : (end len : ℕ) (all : List ℕ) (waits : Bool) {ts mid : List Item} → ShapedCapacities len all → Shows (monitors len all waits) ts mid → Started end len all ts mid
started end len [] waits f nothing = record { start = empty_program end; is = ap (λ (n : ℕ). of_capacities n []) (sym f); whole = λ q h. programs.plain h }
started end len (first ∷ more) waits f h =
    let c = capacities_spelled len first more waits h in
    record { start = capacity_program end (record { len = len; values = first ∷ more; line = c.line }); is = refl; whole = λ q h. programs.with_capacities c.spelled h }

-- ---- programs

-- Tokens that spell this program, lines apart.
pub record ProgramSpelled (end : ℕ) (p : Program) (ts : List Item) : Type 0 where
  pub program : Tall lined.Program
  pub spells : SpellsProgram end ts program
  pub is : bare_program program.tree ≡ p

program_by : (end : ℕ) (p : Program) {ts mid : List Item} → ShapedProgram p → Started end p.cap_len p.monitors ts mid
    → Shows (behind_capacities p ++ flat_map function p.functions) mid [] → ProgramSpelled end p ts
program_by end p f st h =
    let g = parts_added st.start p f h in
    record { program = g.program; spells = st.whole g.program g.spells; is = g.is ∙ ap (λ (q : Program). with_parts q p) st.is }

pub program_spelled : (end : ℕ) (p : Program) {ts : List Item} → ShapedProgram p → Shows (layout_of p) ts [] → ProgramSpelled end p ts
program_spelled end p f (unseen (unseen (unseen (unseen h)))) =
    let a = shows_append (declarations p) (flat_map function p.functions) _ _ h in
    let b = shows_append (monitors p.cap_len p.monitors (some_waits p.functions)) (behind_capacities p) _ _ a.first in
    program_by end p f (started end p.cap_len p.monitors (some_waits p.functions) f.capacities b.first) (both (behind_capacities p) (flat_map function p.functions) b.second a.second)
