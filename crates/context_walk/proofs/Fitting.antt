-- In a well-formed program with small numbers items fit.
use Rattle.std.proofs.Common.{◌≡◌, ℕ, ◌<◌, ◌≤◌, List, [], ◌∷◌, length, map, ap, subst, ◌∙◌, Some, arith, zero-add}
use Rattle.std.specs.Prelude.{All, slice_get}
use Rattle.std.specs.List.{enumerate_from}
use Rattle.std.proofs.lemmas.List.Elements.{All-nil, All-cons}
use Rattle.c_tree.specs.Everywhere.{Everywhere, EverywhereInside}
use Rattle.c_tree.specs.Bare as bare
use Rattle.c_tree.specs.Lined.{Stmt, Stmts, Nil, Cons, Function, Declare, Call, If, While, For, Lock, TryLock, Unlock, Wait, Take, Give, bare_stmt, bare_stmts}
use Rattle.c_tree.specs.declared.program.Cell.{Cell}
use Rattle.c_tree.specs.declared.program.Function as declared_function
use Rattle.c_tree.specs.declared.program.Program as declared_program
use Rattle.c_tree.specs.Lined.{bare_cell, function_of, program_of}
use Rattle.c_tree.specs.Numbering.{mutex_count, resource_count}
use Rattle.c_meaning.specs.Shown.{shown}
use Rattle.c_rules.specs.declared.rule.Count.TheVariants as count
use Rattle.c_rules.proofs.Members.{In, contains_of}
use Rattle.rule_facts.proofs.Places.{listed_at}
use Rattle.rule_facts.proofs.Ruled.{regular}
use Rattle.context_locals.specs.Writes.{int_texts}
use Rattle.std.specs.Prelude.{option_map}
use Rattle.std.proofs.lemmas.Option.{slice_get-map}
use Rattle.std.proofs.lemmas.Simd.{map-map}
use Rattle.context_items.specs.Items as spec
use Rattle.context_items.specs.Items.{Item, items, items_all}
use Rattle.context_laws.proofs.Steady.{both_everywhere}
use Rattle.rule_facts.specs.Statements.{WithinMonitors}
use Rattle.state_parts.specs.Small.{IsSmall, AreSmall}
use Rattle.context_walk.specs.Prepared.{IsFormed}
use Rattle.context_walk.specs.Places.{items_of}
use Rattle.context_walk.specs.Steps.{FitsItem}

abbrev Fits : ℕ → bare.Stmt → Type 0
Fits n s = IsSmall s × WithinMonitors n s

put : (n : ℕ) (i : Item) (more : List Item) → FitsItem n i → All (FitsItem n) more → All (FitsItem n) (i ∷ more)
put n i more here later = All-cons (FitsItem n) i more here later

abbrev AllFit : ℕ → List Item → Type 0
AllFit n is = All (FitsItem n) is

-- two arms
arms_fit : (n : ℕ) (a b : Stmts) → ((more : List Item) → AllFit n more → AllFit n (items_all a more)) → ((more : List Item) → AllFit n more → AllFit n (items_all b more))
    → (more : List Item) → AllFit n more → AllFit n (spec.Opens ∷ items_all a (spec.Closes ∷ spec.Opens ∷ items_all b (spec.Closes ∷ more)))
arms_fit n a b first second more later =
    put n spec.Opens (items_all a (spec.Closes ∷ spec.Opens ∷ items_all b (spec.Closes ∷ more))) tt
    (first (spec.Closes ∷ spec.Opens ∷ items_all b (spec.Closes ∷ more))
    (put n spec.Closes (spec.Opens ∷ items_all b (spec.Closes ∷ more)) tt
    (put n spec.Opens (items_all b (spec.Closes ∷ more)) tt (second (spec.Closes ∷ more) (put n spec.Closes more tt later)))))

mutual
  fit_one : (n : ℕ) (s : Stmt) → Fits n (bare_stmt s) → EverywhereInside (Fits n) (bare_stmt s) → (more : List Item) → All (FitsItem n) more → All (FitsItem n) (items s more)
  fit_one n (Declare line name value) own inside more later = put n (spec.Declares name value) more own.0.1 later
  fit_one n (Call line target name args) own inside more later = put n (spec.Calls name args) more own.0.2 later
  fit_one n (If line test a b) own inside more later = arms_fit n a b (λ m h. fit_all n a inside.0 m h) (λ m h. fit_all n b inside.1 m h) more later
  fit_one n (While line test body) own inside more later =
      put n spec.Opens (items_all body (spec.Closes ∷ more)) tt (fit_all n body inside (spec.Closes ∷ more) (put n spec.Closes more tt later))
  fit_one n (For line first_part test step body) own inside more later =
      put n spec.Opens (items_all first_part (items_all body (items_all step (spec.Closes ∷ more)))) tt
      (fit_all n first_part inside.0 (items_all body (items_all step (spec.Closes ∷ more)))
      (fit_all n body inside.2 (items_all step (spec.Closes ∷ more)) (fit_all n step inside.1 (spec.Closes ∷ more) (put n spec.Closes more tt later))))
  fit_one n (Lock line place) own inside more later = put n (spec.Locks line place) more own.0.1 later
  fit_one n (TryLock line place a b) own inside more later =
      put n (spec.Locks line place) (spec.Opens ∷ items_all a (spec.Closes ∷ spec.Opens ∷ items_all b (spec.Closes ∷ more))) own.0.1 (arms_fit n a b (λ m h. fit_all n a inside.0 m h) (λ m h. fit_all n b inside.1 m h) more later)
  fit_one n (Unlock line place) own inside more later = put n (spec.Locks line place) more own.0.1 later
  fit_one n (Wait line cond mutex takes) own inside more later = put n (spec.Locks line mutex) more own.0.1.1 later
  fit_one n (Take line monitor) own inside more later = put n (spec.Holds monitor) more own.1 later
  fit_one n (Give line monitor) own inside more later = put n (spec.Holds monitor) more own.1 later
  fit_one n s own inside more later = later

  fit_all : (n : ℕ) (ss : Stmts) → Everywhere (Fits n) (bare_stmts ss) → (more : List Item) → All (FitsItem n) more → All (FitsItem n) (items_all ss more)
  fit_all n Nil all more later = later
  fit_all n (Cons s rest) all more later = fit_one n s all.0 all.1 (items_all rest more) (fit_all n rest all.2 more later)

pub items_fit : (n : ℕ) (f : Function) → Everywhere IsSmall (bare_stmts f.body) → Everywhere (WithinMonitors n) (bare_stmts f.body) → All (FitsItem n) (items_of f)
items_fit n f small within = fit_all n f.body (both_everywhere IsSmall (WithinMonitors n) (Fits n) (λ s x y. (x, y)) (bare_stmts f.body) small within) [] (All-nil (FitsItem n))

-- ---- the program as it is declared

module _ (p : declared_program.Program) (formed : IsFormed p) where
  -- there are few resources
  pub resources_few : resource_count (shown p) < 256
  resources_few =
      let mutexes : mutex_count (shown p) ≤ 48 = formed.1.within count.Mutexes in
      let monitors : length p.monitors ≤ 16 = formed.1.within count.Monitors in
      omega arith

  pub mutexes_few : mutex_count (shown p) < 256
  mutexes_few = let mutexes : mutex_count (shown p) ≤ 48 = formed.1.within count.Mutexes in omega arith

  -- the items of each function fit
  pub all_fit : AreSmall p → (k : ℕ) (f : declared_function.Function) → slice_get p.functions k ≡ Some f → All (FitsItem (length p.monitors)) (items_of (function_of f))
  all_fit small k f at =
      let lined : slice_get (program_of p).functions k ≡ Some (function_of f) = slice_get-map function_of p.functions k ∙ ap (option_map function_of) at in
      let listed : In (k, function_of f) (enumerate_from 0 (program_of p).functions) =
      subst (λ j. In (j, function_of f) (enumerate_from 0 (program_of p).functions)) (zero-add k) (listed_at 0 k (program_of p).functions (function_of f) lined) in
      items_fit (length p.monitors) (function_of f) (small k f at)
      ((regular (program_of p) formed.0 formed.1).monitors (k, function_of f) (contains_of (enumerate_from 0 (program_of p).functions) (k, function_of f) listed))

-- a function of the program, as its definition sees it
pub function_at : (functions : List declared_function.Function) (k : ℕ) (f : declared_function.Function) → slice_get functions k ≡ Some f → slice_get (map function_of functions) k ≡ Some (function_of f)
function_at functions k f at = slice_get-map function_of functions k ∙ ap (option_map function_of) at

-- the names of ints
pub int_names_same : (ints : List Cell) → map (λ (c : bare.Cell). c.name) (map bare_cell ints) ≡ int_texts ints
int_names_same ints = map-map (λ (c : bare.Cell). c.name) bare_cell ints
