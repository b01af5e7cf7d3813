-- Why an act of a running thread is undefined.
use Rattle.std.proofs.Common.{◌≡◌, ℕ, ◌<◌, ◌≤◌, List, [], ◌∷◌, length, Option, Some, None, option_map, cond, inl, inr, ⊎_elim, refl, sym, ap, ◌∙◌, arith}
use Rattle.std.specs.Prelude.{ℤ, slice_get, unwrap_or}
use Rattle.std.proofs.lemmas.Option.{same_Some}
use Rattle.c_tree.specs.Expressions.{Expr, Exprs, Place}
use Rattle.c_tree.specs.Values.{constant}
use Rattle.c_tree.specs.Bare as bare
use Rattle.c_tree.specs.Bare.{Stmt, Stmts, Nil, Cons, Function, Program, before}
use Rattle.c_tree.specs.Numbering.{function_named, thread_in, mutex_count}
use Rattle.c_meaning.specs.State.{Locals, Frame, NotBegun, Running, State, frame}
use Rattle.c_meaning.specs.Outcome.{Outcome}
use Rattle.c_meaning.specs.Places.{evaluated, evaluated_if_any, evaluated_all, target_at, mutex_at, condition_at}
use Rattle.c_meaning.specs.Branching.{for_begun, loop_of}
use Rattle.c_meaning.specs.Calls.{call_ended, frame_ended, returned, result_set}
use Rattle.c_meaning.specs.Locks.{held_by}
use Rattle.c_meaning.specs.Waits.{signalled_to}
use Rattle.c_meaning.specs.Step.{acted, acted_on}
use Rattle.step_effects.specs.Effects.{Is}
use Rattle.step_effects.specs.Todos.{HoldsInFrames}
use Rattle.step_effects.proofs.Turning.{mutex_below}
use Rattle.reached_states.specs.Lengths.{cell_count, HasLengths}
use Rattle.reached_states.specs.Standing.{AtCalls}
use Rattle.reached_states.proofs.Holdings.{held_of_monitor}
use Rattle.rule_facts.specs.Elements.{TargetOf}
use Rattle.undefined_steps.specs.Faults.{FaultIfAny, BeyondObjects}
use Rattle.undefined_steps.specs.Causes.{HasFault, IsBeyond, IsOver, GivesNothing, ReturnsTo, Cause}
use Rattle.undefined_steps.specs.Proper.{IsObject, BeginsFor, IsProper}
use Rattle.undefined_steps.proofs.Lookups.{some_there}
use Rattle.undefined_steps.proofs.Values.{fault_of, fault_if_any, fault_among, cell_fault, object_fault}
use Rattle.undefined_steps.proofs.Outcomes.{IfUndefined, declares, assigns, reads, branches, loops, prints, calls, initialises, signals, chooses, broadcasts, locks, tries, unlocks, waits, takes, gives, joins, creates}

-- ---- why each statement is undefined

module _ (p : Program) (s : State) (t : ℕ) (lengths : HasLengths p s) (cells : cell_count p ≤ length s.cells) where
  abbrev Why : Outcome → Type 0
  Why o = IfUndefined o (Cause p s t)

  -- a mutex of the program has an owner, or none
  pub owner_there : (m : ℕ) → m < mutex_count p → slice_get s.owners m ≡ None → ⊥
  owner_there m below none = let same = lengths.owners in some_there s.owners m None (omega (arith, below, same)) none

  pub row_there : (k : ℕ) → k < length p.monitors → slice_get s.tokens k ≡ None → ⊥
  row_there k below none = let same = lengths.rows in some_there s.tokens k [] (omega (arith, below, same)) none

  pub capacity_there : (k : ℕ) → k < length p.monitors → slice_get p.monitors k ≡ None → ⊥
  capacity_there k below none = some_there p.monitors k 0 below none

  -- ---- a call that ends

  results : (newest : Frame) (l : Locals) (target : Option Place) (name : List ℕ) (args : Exprs) (rest : Stmts) (more : List Frame)
      → Is s t (Running (newest ∷ frame l (Cons (bare.Call target name args) rest) ∷ more)) → IsOver newest.todo → TargetOf p.arrays target → (z : Option ℤ) → (z ≡ None → GivesNothing newest.todo)
      → Why (result_set p s t l rest more target z)
  results newest l None name args rest more is over cell z nothing = tt
  results newest l (Some target) name args rest more is over cell z nothing =
      let returns : ReturnsTo s t newest l target = record { function = name; args = args; rest = rest; more = more; runs = is; over = over } in
      assigns (Cause p s t) s t l rest more (target_at p s l target) z
      (λ none. ⊎_elim (Cause.target_expression newest l target returns) (Cause.target_index newest l target returns) (cell_fault p s l cells target.name target.index cell none))
      (λ none. Cause.no_result newest l target returns (nothing none))

  leaves : (newest : Frame) (l : Locals) (todo : Stmts) (more : List Frame) → Is s t (Running (newest ∷ frame l todo ∷ more)) → IsOver newest.todo
      → AtCalls (frame l todo ∷ more) → HoldsInFrames (IsProper p) (frame l todo ∷ more) → (z : Option ℤ) → (z ≡ None → GivesNothing newest.todo) → Why (call_ended p s t l more z todo)
  leaves newest l (Cons (bare.Call target name args) rest) more is over at proper z nothing = results newest l target name args rest more is over proper.0.0.0 z nothing
  leaves newest l todo more is over at proper z nothing = absurd at.0

  ends : (newest : Frame) (more : List Frame) → Is s t (Running (newest ∷ more)) → IsOver newest.todo → AtCalls more → HoldsInFrames (IsProper p) more → (z : Option ℤ)
      → (z ≡ None → GivesNothing newest.todo) → Why (frame_ended p s t more z)
  ends newest [] is over at proper z nothing = tt
  ends newest (f ∷ more) is over at proper z nothing = leaves newest f.locals f.todo more is over at proper z nothing

  module _ (l : Locals) (rest : Stmts) (more : List Frame) where
    abbrev Here : Stmt → Type 0
    Here act = Is s t (Running (frame l (Cons act rest) ∷ more))

    faults : (act : Stmt) → Here act → HasFault p s l act → Cause p s t
    faults act is fault = Cause.expression l act rest more is fault

    beyond : (act : Stmt) → Here act → IsBeyond p s l act → Cause p s t
    beyond act is out = Cause.index l act rest more is out

    returns : (e : Option Expr) → Here (bare.Return e) → AtCalls more → HoldsInFrames (IsProper p) more → IsProper p (bare.Return e) → Why (returned p s t more (evaluated_if_any p s l e))
    returns None is at below proper = ends (frame l (Cons (bare.Return None) rest)) more is tt at below None (λ none. tt)
    returns (Some e) is at below proper = by (evaluated p s l e) refl
      where
        by : (o : Option ℤ) → evaluated p s l e ≡ o → Why (returned p s t more (option_map (λ z. Some z) o))
        by (Some z) value = ends (frame l (Cons (bare.Return (Some e)) rest)) more is tt at below (Some z) (λ none. absurd (cc none))
        by None value = faults (bare.Return (Some e)) is (fault_of p s l cells e proper value)

    begins_for : (first_part : Stmts) (test : Expr) (step body : Stmts) → Here (bare.For first_part test step body) → BeginsFor p first_part
        → Why (for_begun p s t l (Cons (loop_of test step body) rest) more first_part)
    begins_for Nil test step body is proper = tt
    begins_for (Cons (bare.Declare name e) Nil) test step body is proper =
        declares (Cause p s t) s t l (Cons (loop_of test step body) rest) more name (evaluated_if_any p s l e) (λ none. faults (bare.For (Cons (bare.Declare name e) Nil) test step body) is (fault_if_any p s l cells e proper none))
    begins_for (Cons (bare.Assign target e) Nil) test step body is proper =
        assigns (Cause p s t) s t l (Cons (loop_of test step body) rest) more (target_at p s l target) (evaluated p s l e)
        (λ none. ⊎_elim (λ f. faults (bare.For (Cons (bare.Assign target e) Nil) test step body) is (inl f)) (beyond (bare.For (Cons (bare.Assign target e) Nil) test step body) is)
        (cell_fault p s l cells target.name target.index proper.0 none))
        (λ none. faults (bare.For (Cons (bare.Assign target e) Nil) test step body) is (inr (fault_of p s l cells e proper.1 none)))
    begins_for first_part test step body is proper = absurd proper

    -- a place of a mutex, and one of a condition
    no_mutex : (act : Stmt) (place : Place) → Here act → IsObject p p.mutexes place → (FaultIfAny p s l place.index → HasFault p s l act)
        → (BeyondObjects p.mutexes p s l place.name place.index → IsBeyond p s l act) → mutex_at p s l place ≡ None → Cause p s t
    no_mutex act place is object f g none = ⊎_elim (λ fault. faults act is (f fault)) (λ out. beyond act is (g out)) (object_fault p s l cells p.mutexes place object none)

    no_condition : (act : Stmt) (place : Place) → Here act → IsObject p p.conds place → (FaultIfAny p s l place.index → HasFault p s l act)
        → (BeyondObjects p.conds p s l place.name place.index → IsBeyond p s l act) → condition_at p s l place ≡ None → Cause p s t
    no_condition act place is object f g none = ⊎_elim (λ fault. faults act is (f fault)) (λ out. beyond act is (g out)) (object_fault p s l cells p.conds place object none)

    no_owner : (place : Place) (m : ℕ) → mutex_at p s l place ≡ Some m → slice_get s.owners m ≡ None → Cause p s t
    no_owner place m at none = absurd (owner_there m (mutex_below p s l place m at) none)

    acts : (act : Stmt) → Here act → AtCalls more → HoldsInFrames (IsProper p) more → IsProper p act
        → ((slot : Place) (name : List ℕ) (arg : Expr) → Here (bare.Create slot name arg) → (u : ℕ) × (thread_in p slot ≡ Some u) × Is s u NotBegun)
        → Why (acted p s t l rest more act)
    acts (bare.Declare name e) is at below proper fresh =
        declares (Cause p s t) s t l rest more name (evaluated_if_any p s l e) (λ none. faults (bare.Declare name e) is (fault_if_any p s l cells e proper none))
    acts (bare.Assign target e) is at below proper fresh =
        assigns (Cause p s t) s t l rest more (target_at p s l target) (evaluated p s l e)
        (λ none. ⊎_elim (λ f. faults (bare.Assign target e) is (inl f)) (beyond (bare.Assign target e) is) (cell_fault p s l cells target.name target.index proper.0 none))
        (λ none. faults (bare.Assign target e) is (inr (fault_of p s l cells e proper.1 none)))
    acts (bare.Call target name args) is at below proper fresh =
        calls (Cause p s t) s t (frame l (Cons (bare.Call target name args) rest) ∷ more) (function_named p name) (evaluated_all p s l args)
        (λ none. let both : None ≡ Some proper.1.0 = sym none ∙ proper.1.1 in absurd (cc both))
        (λ none. faults (bare.Call target name args) is (fault_among p s l cells args proper.2 none))
    acts (bare.If test a b) is at below proper fresh =
        branches (Cause p s t) s t l rest more a b (evaluated p s l test) (λ none. faults (bare.If test a b) is (fault_of p s l cells test proper none))
    acts (bare.While test body) is at below proper fresh =
        loops (Cause p s t) s t l rest more test body (evaluated p s l test) (λ none. faults (bare.While test body) is (fault_of p s l cells test proper none))
    acts (bare.For first_part test step body) is at below proper fresh = begins_for first_part test step body is proper.0
    acts (bare.Return e) is at below proper fresh = returns e is at below proper
    acts (bare.Read target) is at below proper fresh =
        reads (Cause p s t) s t l rest more (target_at p s l target) s.input
        (λ none. ⊎_elim (faults (bare.Read target) is) (beyond (bare.Read target) is) (cell_fault p s l cells target.name target.index proper none))
    acts (bare.Print format args) is at below proper fresh =
        prints (Cause p s t) s t (frame l rest ∷ more) format (evaluated_all p s l args) (λ none. faults (bare.Print format args) is (fault_among p s l cells args proper none))
    acts (bare.Create slot name arg) is at below proper fresh =
        let begins = fresh slot name arg is in
        creates (Cause p s t) s t (frame l rest ∷ more) (thread_in p slot) (function_named p name) (constant arg) begins.0 proper.0.0 proper.1.0 begins.1 begins.2 proper.0.1 proper.1.1
    acts (bare.Join slot) is at below proper fresh =
        joins (Cause p s t) s t (frame l rest ∷ more) (thread_in p slot)
        (λ none. let both : None ≡ Some proper.0 = sym none ∙ proper.1 in absurd (cc both))
        (λ u at_u none.
        let same : u ≡ proper.0 = same_Some u proper.0 (sym at_u ∙ proper.1) in
        let many = lengths.threads in
        let few = proper.2 in
        absurd (some_there s.threads u NotBegun (omega (arith, same, many, few)) none))
    acts (bare.InitMutex place) is at below proper fresh =
        initialises (Cause p s t) s t (frame l rest ∷ more) (mutex_at p s l place) (no_mutex (bare.InitMutex place) place is proper (λ f. f) (λ f. f))
    acts (bare.InitCond place) is at below proper fresh =
        initialises (Cause p s t) s t (frame l rest ∷ more) (condition_at p s l place) (no_condition (bare.InitCond place) place is proper (λ f. f) (λ f. f))
    acts (bare.Lock place) is at below proper fresh =
        locks (Cause p s t) s t (frame l rest ∷ more) (mutex_at p s l place) (no_mutex (bare.Lock place) place is proper (λ f. f) (λ f. f)) (no_owner place)
    acts (bare.TryLock place a b) is at below proper fresh =
        tries (Cause p s t) s t (frame l (before a rest) ∷ more) (frame l (before b rest) ∷ more) (mutex_at p s l place)
        (no_mutex (bare.TryLock place a b) place is proper (λ f. f) (λ f. f)) (no_owner place)
    acts (bare.Unlock place) is at below proper fresh =
        unlocks (Cause p s t) s t (frame l rest ∷ more) (mutex_at p s l place) (no_mutex (bare.Unlock place) place is proper (λ f. f) (λ f. f))
        (λ m on other. Cause.unlock l place rest more m is on other)
    acts (bare.Wait cond place ks) is at below proper fresh =
        waits (Cause p s t) s t (frame l (Cons (bare.Wait cond place ks) rest) ∷ more) (condition_at p s l cond) (mutex_at p s l place)
        (no_condition (bare.Wait cond place ks) cond is proper.0 inl inl) (no_mutex (bare.Wait cond place ks) place is proper.1 inr inr)
        (λ m on other. Cause.wait l cond place ks rest more m is on other)
    acts (bare.Signal cond) is at below proper fresh =
        signals (Cause p s t) s t (frame l rest ∷ more) (condition_at p s l cond) (no_condition (bare.Signal cond) cond is proper (λ f. f) (λ f. f))
    acts (bare.Broadcast cond) is at below proper fresh =
        broadcasts (Cause p s t) s t (frame l rest ∷ more) (condition_at p s l cond) (no_condition (bare.Broadcast cond) cond is proper (λ f. f) (λ f. f))
    acts (bare.Take k) is at below proper fresh =
        takes (Cause p s t) s t (Running (frame l rest ∷ more)) k (slice_get p.monitors k) (slice_get s.tokens k)
        (λ none. absurd (capacity_there k proper none)) (λ none. absurd (row_there k proper none))
    acts (bare.Give k) is at below proper fresh =
        gives (Cause p s t) s t (frame l rest ∷ more) k (slice_get s.tokens k) (λ none. absurd (row_there k proper none))
        (λ row there none. Cause.give l k rest more is (held_of_monitor p s t k ∙ ap (λ o. held_by (unwrap_or o []) t) there ∙ none))

  pub acts_on : (l : Locals) (more : List Frame) (todo : Stmts) → Is s t (Running (frame l todo ∷ more)) → AtCalls more → HoldsInFrames (IsProper p) (frame l todo ∷ more)
      → ((slot : Place) (name : List ℕ) (arg : Expr) (rest : Stmts) → Is s t (Running (frame l (Cons (bare.Create slot name arg) rest) ∷ more)) → (u : ℕ) × (thread_in p slot ≡ Some u) × Is s u NotBegun)
      → Why (acted_on p s t l more todo)
  acts_on l more Nil is at proper fresh = ends (frame l Nil) more is tt at proper.1 None (λ none. tt)
  acts_on l more (Cons act rest) is at proper fresh = acts l rest more act is at proper.1 proper.0.0 (λ slot name arg here. fresh slot name arg rest here)

  -- a signal that wakes a thread
  pub chooses_on : (u : ℕ) (l : Locals) (more : List Frame) (cond : Place) (rest : Stmts) → Is s t (Running (frame l (Cons (bare.Signal cond) rest) ∷ more)) → IsObject p p.conds cond
      → Why (signalled_to s t (frame l rest ∷ more) u (condition_at p s l cond))
  chooses_on u l more cond rest is object = chooses (Cause p s t) s t (frame l rest ∷ more) u (condition_at p s l cond) (no_condition l rest more (bare.Signal cond) cond is object (λ f. f) (λ f. f))
