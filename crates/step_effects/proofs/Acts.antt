-- The effect of each act of a running thread.
use Rattle.std.proofs.Common.{◌≡◌, ℕ, zero, suc, Bool, true, false, List, [], ◌∷◌, Option, Some, None, refl, ap, ◌∙◌}
use Rattle.std.specs.Prelude.{ℤ, ◌==◌, nat_lt, sum, slice_get, slice_set, if◌then◌else◌, IsTrue}
use Rattle.std.specs.List.{list_any}
use Rattle.std.specs.FinMap as finite
use Rattle.std.proofs.lemmas.Bool.{ltb-true, eqb-true}
use Rattle.std.proofs.lemmas.List.{length-set}
use Rattle.c_tree.specs.Expressions.{Expr, Exprs, Place}
use Rattle.c_tree.specs.Values.{is_true, constant}
use Rattle.c_tree.specs.Bare as bare
use Rattle.c_tree.specs.Bare.{Stmt, Stmts, Nil, Cons, Function, Program, before}
use Rattle.c_tree.specs.Numbering.{function_named, thread_in}
use Rattle.c_meaning.specs.State.{Locals, Frame, Status, NotBegun, Running, Waiting, Reacquiring, Ended, State, frame, goes_on}
use Rattle.c_meaning.specs.Outcome.{Outcome, NotEnabled, Undefined}
use Rattle.c_meaning.specs.Places.{Target, Cell, Local, evaluated, evaluated_if_any, evaluated_all, target_at, mutex_at, condition_at}
use Rattle.c_meaning.specs.Setting.{assigned, declared_local, read_into}
use Rattle.c_meaning.specs.Printing.{printed}
use Rattle.c_meaning.specs.Branching.{branched, looped, for_begun, loop_of}
use Rattle.c_meaning.specs.Calls.{called, call_ended, frame_ended, returned, result_set}
use Rattle.c_meaning.specs.Threads.{first_frame, created_in, created, joined_to, joined}
use Rattle.c_meaning.specs.Locks.{initialised, locked, locked_by, tried, tried_by, unlocked, unlocked_by, taken, given, given_from, held_by}
use Rattle.c_meaning.specs.Waits.{waited, waited_by, signalled, signalled_to, woken_by, broadcast, waits_on}
use Rattle.c_meaning.specs.Step.{acted, acted_on}
use Rattle.step_effects.specs.Turns.{is_simple, Onward, Goes}
use Rattle.step_effects.specs.Effects.{Is, Effect, OnDone}

module _ (p : Program) (s : State) (t : ℕ) where
  abbrev Has : Outcome → Type 0
  Has o = OnDone o (Effect p s t)

  moves : (frames next : List Frame) → Is s t (Running frames) → Goes p frames next → Effect p s t (goes_on s t next)
  moves frames next is g = Effect.goes frames next s.cells s.input s.output is g refl

  -- where a condition says which of two outcomes comes
  pub has_if : (b : Bool) (one other : Outcome) → (b ≡ true → Has one) → (b ≡ false → Has other) → Has (if b then one else other)
  has_if true one other f g = f refl
  has_if false one other f g = g refl

  -- ---- what sets a local or a cell, where frames go on whatever the locals are

  module _ (frames : List Frame) (is : Is s t (Running frames)) where
    declares : (l : Locals) (rest : Stmts) (more : List Frame) (name : List ℕ) → ((m : Locals) → Goes p frames (frame m rest ∷ more)) → (o : Option (Option ℤ))
        → Has (declared_local s t l rest more name o)
    declares l rest more name g (Some (Some z)) = moves frames (frame (finite.insert l name z) rest ∷ more) is (g (finite.insert l name z))
    declares l rest more name g (Some None) = moves frames (frame (finite.remove l name) rest ∷ more) is (g (finite.remove l name))
    declares l rest more name g None = tt

    assigns : (l : Locals) (rest : Stmts) (more : List Frame) → ((m : Locals) → Goes p frames (frame m rest ∷ more)) → (o : Option Target) (z : Option ℤ)
        → Has (assigned s t l rest more o z)
    assigns l rest more g (Some (Cell cell)) (Some z) =
        Effect.goes frames (frame l rest ∷ more) (slice_set s.cells cell z) s.input s.output is (g l) (length-set s.cells cell z)
    assigns l rest more g (Some (Local name)) (Some z) = moves frames (frame (finite.insert l name z) rest ∷ more) is (g (finite.insert l name z))
    assigns l rest more g (Some (Cell cell)) None = tt
    assigns l rest more g (Some (Local name)) None = tt
    assigns l rest more g None z = tt

    reads : (l : Locals) (rest : Stmts) (more : List Frame) → ((m : Locals) → Goes p frames (frame m rest ∷ more)) → (o : Option Target) (input : List ℤ)
        → Has (read_into s t l rest more o input)
    reads l rest more g (Some (Cell cell)) (z ∷ input) =
        Effect.goes frames (frame l rest ∷ more) (slice_set s.cells cell z) input s.output is (g l) (length-set s.cells cell z)
    reads l rest more g (Some (Local name)) (z ∷ input) =
        Effect.goes frames (frame (finite.insert l name z) rest ∷ more) s.cells input s.output is (g (finite.insert l name z)) refl
    reads l rest more g (Some (Cell cell)) [] = moves frames (frame l rest ∷ more) is (g l)
    reads l rest more g (Some (Local name)) [] = moves frames (frame l rest ∷ more) is (g l)
    reads l rest more g None input = tt

    results : (l : Locals) (rest : Stmts) (more : List Frame) → ((m : Locals) → Goes p frames (frame m rest ∷ more)) → (target : Option Place) (z : Option ℤ)
        → Has (result_set p s t l rest more target z)
    results l rest more g None z = moves frames (frame l rest ∷ more) is (g l)
    results l rest more g (Some target) z = assigns l rest more g (target_at p s l target) z

    -- ---- what is done as it stands, where frames go on in one way

    module _ (next : List Frame) (g : Goes p frames next) where
      prints : (format : List ℕ) (o : Option (List ℤ)) → Has (printed s t next format o)
      prints format (Some values) = Effect.goes frames next s.cells s.input _ is g refl
      prints format None = tt

      initialises : (o : Option ℕ) → Has (initialised s t next o)
      initialises (Some object) = moves frames next is g
      initialises None = tt

      joins : (o : Option ℕ) → Has (joined s t next o)
      joins None = tt
      joins (Some u) = by (slice_get s.threads u)
        where
          by : (o : Option Status) → Has (joined_to s t next u o)
          by (Some Ended) = moves frames next is g
          by (Some NotBegun) = tt
          by (Some (Running fs)) = tt
          by (Some (Waiting c m fs)) = tt
          by (Some (Reacquiring m takes fs)) = tt
          by None = tt

      locks : (o : Option ℕ) → Has (locked s t next o)
      locks None = tt
      locks (Some m) = by (slice_get s.owners m) refl
        where
          by : (o : Option (Option ℕ)) → slice_get s.owners m ≡ o → Has (locked_by s t next m o)
          by (Some None) e = Effect.locks frames next m is g e
          by (Some (Some owner)) e = tt
          by None e = tt

      unlocks : (o : Option ℕ) → Has (unlocked s t next o)
      unlocks None = tt
      unlocks (Some m) = by (slice_get s.owners m) refl
        where
          by : (o : Option (Option ℕ)) → slice_get s.owners m ≡ o → Has (unlocked_by s t next m o)
          by (Some (Some owner)) e = has_if (owner == t) _ Undefined
              (λ same. Effect.unlocks frames next m is g (e ∙ ap (λ n. Some (Some n)) (eqb-true owner t same))) (λ other. tt)
          by (Some None) e = tt
          by None e = tt

      signals : (o : Option ℕ) → Has (signalled s t next o)
      signals None = tt
      signals (Some c) = has_if (list_any (waits_on c) s.threads) NotEnabled _ (λ some. tt) (λ none. moves frames next is g)

      chooses : (u : ℕ) (o : Option ℕ) → Has (signalled_to s t next u o)
      chooses u None = tt
      chooses u (Some c) = by (slice_get s.threads u) refl
        where
          by : (o : Option Status) → slice_get s.threads u ≡ o → Has (woken_by s t next c u o)
          by (Some (Waiting d m waiting)) e = has_if (d == c) _ NotEnabled (λ same. Effect.wakes_one frames next waiting u d m is g e) (λ other. tt)
          by (Some NotBegun) e = tt
          by (Some (Running fs)) e = tt
          by (Some (Reacquiring m takes fs)) e = tt
          by (Some Ended) e = tt
          by None e = tt

      broadcasts : (o : Option ℕ) → Has (broadcast s t next o)
      broadcasts None = tt
      broadcasts (Some c) = Effect.wakes_all frames next c is g

      takes : (k : ℕ) (c : Option ℕ) (row : Option (List ℕ)) → slice_get p.monitors k ≡ c → slice_get s.tokens k ≡ row → Has (taken s t (Running next) k c row)
      takes k (Some capacity) (Some row) has there = has_if (nat_lt (sum row) capacity) _ NotEnabled
          (λ free. Effect.takes frames next k row is g (record { capacity = capacity; has = has; row_is = there; free = ltb-true (sum row) capacity free })) (λ full. tt)
      takes k (Some capacity) None has there = tt
      takes k None row has there = tt

      gives : (k : ℕ) (row : Option (List ℕ)) → slice_get s.tokens k ≡ row → Has (given s t next k row)
      gives k None there = tt
      gives k (Some row) there = by (held_by row t) refl
        where
          by : (n : ℕ) → held_by row t ≡ n → Has (given_from s t next k row n)
          by zero e = tt
          by (suc left) e = Effect.gives frames next k row left is g there e

  -- ---- acts of other kinds

  calls : (l : Locals) (target : Option Place) (name : List ℕ) (args : Exprs) (rest : Stmts) (more : List Frame) → Is s t (Running (frame l (Cons (bare.Call target name args) rest) ∷ more))
      → (f : Option Function) → function_named p name ≡ f → (values : Option (List ℤ)) → Has (called s t (frame l (Cons (bare.Call target name args) rest) ∷ more) f values)
  calls l target name args rest more is (Some f) e (Some values) = moves _ _ is (Goes.enters l target name args rest more f values e)
  calls l target name args rest more is (Some f) e None = tt
  calls l target name args rest more is None e values = tt

  leaves : (newest : Frame) (l : Locals) (more : List Frame) (z : Option ℤ) (todo : Stmts) → Is s t (Running (newest ∷ frame l todo ∷ more)) → Has (call_ended p s t l more z todo)
  leaves newest l more z (Cons (bare.Call target name args) rest) is =
      results (newest ∷ frame l (Cons (bare.Call target name args) rest) ∷ more) is l rest more (λ m. Goes.leaves newest l m target name args rest more) target z
  leaves newest l more z todo is = tt

  pub ends : (newest : Frame) (more : List Frame) (z : Option ℤ) → Is s t (Running (newest ∷ more)) → Has (frame_ended p s t more z)
  ends newest [] z is = Effect.ends newest is
  ends newest (caller ∷ callers) z is = leaves newest caller.locals callers z caller.todo is

  returns : (newest : Frame) (more : List Frame) (o : Option (Option ℤ)) → Is s t (Running (newest ∷ more)) → Has (returned p s t more o)
  returns newest more (Some z) is = ends newest more z is
  returns newest more None is = tt

  branches : (l : Locals) (test : Expr) (a b rest : Stmts) (more : List Frame) → Is s t (Running (frame l (Cons (bare.If test a b) rest) ∷ more)) → (o : Option ℤ)
      → Has (branched s t l rest more a b o)
  branches l test a b rest more is None = tt
  branches l test a b rest more is (Some z) = by (is_true z)
    where
      by : (c : Bool) → Effect p s t (goes_on s t (frame l (before (if c then a else b) rest) ∷ more))
      by true = moves _ _ is (Goes.onward l l (bare.If test a b) rest (before a rest) more (Onward.then_arm test a b rest))
      by false = moves _ _ is (Goes.onward l l (bare.If test a b) rest (before b rest) more (Onward.else_arm test a b rest))

  loops : (l : Locals) (test : Expr) (body rest : Stmts) (more : List Frame) → Is s t (Running (frame l (Cons (bare.While test body) rest) ∷ more)) → (o : Option ℤ)
      → Has (looped s t l rest more test body o)
  loops l test body rest more is None = tt
  loops l test body rest more is (Some z) = by (is_true z)
    where
      by : (c : Bool) → Effect p s t (goes_on s t (frame l (if c then before body (Cons (bare.While test body) rest) else rest) ∷ more))
      by true = moves _ _ is (Goes.onward l l (bare.While test body) rest (before body (Cons (bare.While test body) rest)) more (Onward.around test body rest))
      by false = moves _ _ is (Goes.onward l l (bare.While test body) rest rest more (Onward.out test body rest))

  begins_for : (frames : List Frame) (l : Locals) (rest : Stmts) (more : List Frame) → Is s t (Running frames) → ((m : Locals) → Goes p frames (frame m rest ∷ more)) → (first_part : Stmts)
      → Has (for_begun p s t l rest more first_part)
  begins_for frames l rest more is g Nil = moves frames (frame l rest ∷ more) is (g l)
  begins_for frames l rest more is g (Cons (bare.Declare name e) Nil) = declares frames is l rest more name g (evaluated_if_any p s l e)
  begins_for frames l rest more is g (Cons (bare.Assign target e) Nil) = assigns frames is l rest more g (target_at p s l target) (evaluated p s l e)
  begins_for frames l rest more is g first_part = tt

  creates : (l : Locals) (slot : Place) (name : List ℕ) (arg : Expr) (rest : Stmts) (more : List Frame) → Is s t (Running (frame l (Cons (bare.Create slot name arg) rest) ∷ more))
      → (u : Option ℕ) → thread_in p slot ≡ u → (f : Option Function) → function_named p name ≡ f → (z : Option ℤ) → constant arg ≡ z
      → Has (created s t (frame l rest ∷ more) u (first_frame f z))
  creates l slot name arg rest more is None at f named z value = tt
  creates l slot name arg rest more is (Some u) at f named z value = by (slice_get s.threads u) refl f named z value
    where
      by : (o : Option Status) → slice_get s.threads u ≡ o → (f : Option Function) → function_named p name ≡ f → (z : Option ℤ) → constant arg ≡ z
          → Has (created_in s t (frame l rest ∷ more) u o (first_frame f z))
      by (Some NotBegun) e (Some f) named (Some z) value = Effect.begins l slot name arg rest more u f z is e at named value
      by (Some NotBegun) e (Some f) named None value = tt
      by (Some NotBegun) e None named z value = tt
      by (Some (Running fs)) e f named z value = tt
      by (Some (Waiting c m fs)) e f named z value = tt
      by (Some (Reacquiring m ks fs)) e f named z value = tt
      by (Some Ended) e f named z value = tt
      by None e f named z value = tt

  tries : (l : Locals) (place : Place) (a b rest : Stmts) (more : List Frame) → Is s t (Running (frame l (Cons (bare.TryLock place a b) rest) ∷ more)) → (o : Option ℕ)
      → Has (tried s t (frame l (before a rest) ∷ more) (frame l (before b rest) ∷ more) o)
  tries l place a b rest more is None = tt
  tries l place a b rest more is (Some m) = by (slice_get s.owners m) refl
    where
      by : (o : Option (Option ℕ)) → slice_get s.owners m ≡ o → Has (tried_by s t (frame l (before a rest) ∷ more) (frame l (before b rest) ∷ more) m o)
      by (Some None) e = Effect.locks _ _ m is (Goes.onward l l (bare.TryLock place a b) rest (before a rest) more (Onward.taken_arm place a b rest)) e
      by (Some (Some owner)) e = moves _ _ is (Goes.onward l l (bare.TryLock place a b) rest (before b rest) more (Onward.busy_arm place a b rest))
      by None e = tt

  waits : (l : Locals) (cond place : Place) (ks : List ℕ) (rest : Stmts) (more : List Frame) → Is s t (Running (frame l (Cons (bare.Wait cond place ks) rest) ∷ more))
      → (c m : Option ℕ) → condition_at p s l cond ≡ c → mutex_at p s l place ≡ m → Has (waited s t (frame l (Cons (bare.Wait cond place ks) rest) ∷ more) c m)
  waits l cond place ks rest more is None m at on = tt
  waits l cond place ks rest more is (Some c) None at on = tt
  waits l cond place ks rest more is (Some c) (Some m) at on = by (slice_get s.owners m) refl
    where
      by : (o : Option (Option ℕ)) → slice_get s.owners m ≡ o → Has (waited_by s t (frame l (Cons (bare.Wait cond place ks) rest) ∷ more) c m o)
      by (Some (Some owner)) e = has_if (owner == t) _ Undefined
          (λ same. Effect.waits l cond place ks rest more c m is at on (e ∙ ap (λ n. Some (Some n)) (eqb-true owner t same))) (λ other. tt)
      by (Some None) e = tt
      by None e = tt

  -- ---- each statement

  past : (l m : Locals) (act : Stmt) (rest : Stmts) (more : List Frame) → IsTrue (is_simple act) → Goes p (frame l (Cons act rest) ∷ more) (frame m rest ∷ more)
  past l m act rest more simple = Goes.onward l m act rest rest more (Onward.past act rest simple)

  acts : (l : Locals) (rest : Stmts) (more : List Frame) (act : Stmt) → Is s t (Running (frame l (Cons act rest) ∷ more)) → Has (acted p s t l rest more act)
  acts l rest more (bare.Declare name e) is = declares _ is l rest more name (λ m. past l m (bare.Declare name e) rest more refl) (evaluated_if_any p s l e)
  acts l rest more (bare.Assign target e) is = assigns _ is l rest more (λ m. past l m (bare.Assign target e) rest more refl) (target_at p s l target) (evaluated p s l e)
  acts l rest more (bare.Call target name args) is = calls l target name args rest more is (function_named p name) refl (evaluated_all p s l args)
  acts l rest more (bare.If test a b) is = branches l test a b rest more is (evaluated p s l test)
  acts l rest more (bare.While test body) is = loops l test body rest more is (evaluated p s l test)
  acts l rest more (bare.For first_part test step body) is = begins_for _ l (Cons (loop_of test step body) rest) more is
      (λ m. Goes.onward l m (bare.For first_part test step body) rest (Cons (loop_of test step body) rest) more (Onward.loop first_part test step body rest)) first_part
  acts l rest more (bare.Return e) is = returns (frame l (Cons (bare.Return e) rest)) more (evaluated_if_any p s l e) is
  acts l rest more (bare.Read target) is = reads _ is l rest more (λ m. past l m (bare.Read target) rest more refl) (target_at p s l target) s.input
  acts l rest more (bare.Print format args) is = prints _ is _ (past l l (bare.Print format args) rest more refl) format (evaluated_all p s l args)
  acts l rest more (bare.Create slot name arg) is = creates l slot name arg rest more is (thread_in p slot) refl (function_named p name) refl (constant arg) refl
  acts l rest more (bare.Join slot) is = joins _ is _ (past l l (bare.Join slot) rest more refl) (thread_in p slot)
  acts l rest more (bare.InitMutex place) is = initialises _ is _ (past l l (bare.InitMutex place) rest more refl) (mutex_at p s l place)
  acts l rest more (bare.InitCond place) is = initialises _ is _ (past l l (bare.InitCond place) rest more refl) (condition_at p s l place)
  acts l rest more (bare.Lock place) is = locks _ is _ (past l l (bare.Lock place) rest more refl) (mutex_at p s l place)
  acts l rest more (bare.TryLock place a b) is = tries l place a b rest more is (mutex_at p s l place)
  acts l rest more (bare.Unlock place) is = unlocks _ is _ (past l l (bare.Unlock place) rest more refl) (mutex_at p s l place)
  acts l rest more (bare.Wait cond mutex ks) is = waits l cond mutex ks rest more is (condition_at p s l cond) (mutex_at p s l mutex) refl refl
  acts l rest more (bare.Signal cond) is = signals _ is _ (past l l (bare.Signal cond) rest more refl) (condition_at p s l cond)
  acts l rest more (bare.Broadcast cond) is = broadcasts _ is _ (past l l (bare.Broadcast cond) rest more refl) (condition_at p s l cond)
  acts l rest more (bare.Take k) is = takes _ is _ (past l l (bare.Take k) rest more refl) k (slice_get p.monitors k) (slice_get s.tokens k) refl refl
  acts l rest more (bare.Give k) is = gives _ is _ (past l l (bare.Give k) rest more refl) k (slice_get s.tokens k) refl

  pub acts_on : (l : Locals) (more : List Frame) (todo : Stmts) → Is s t (Running (frame l todo ∷ more)) → Has (acted_on p s t l more todo)
  acts_on l more Nil is = ends (frame l Nil) more None is
  acts_on l more (Cons act rest) is = acts l rest more act is

  pub chooses_on : (u : ℕ) (l : Locals) (more : List Frame) (cond : Place) (rest : Stmts) → Is s t (Running (frame l (Cons (bare.Signal cond) rest) ∷ more))
      → Has (signalled_to s t (frame l rest ∷ more) u (condition_at p s l cond))
  chooses_on u l more cond rest is = chooses _ is _ (past l l (bare.Signal cond) rest more refl) u (condition_at p s l cond)
