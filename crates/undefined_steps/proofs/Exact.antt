-- Where there is a cause, the next act is undefined.
use Rattle.std.proofs.Common.{◌≡◌, ℕ, Bool, true, false, List, [], ◌∷◌, Option, Some, None, ◌⊎◌, inl, inr, refl, sym, ap, ◌∙◌}
use Rattle.std.specs.Prelude.{ℤ, ◌==◌, if◌then◌else◌, slice_get, unwrap_or}
use Rattle.c_tree.specs.Expressions.{Place}
use Rattle.c_tree.specs.Bare as bare
use Rattle.c_tree.specs.Bare.{Stmt, Stmts, Nil, Cons, Function, Program, before}
use Rattle.c_tree.specs.Numbering.{function_named}
use Rattle.c_meaning.specs.declared.EventKind.TheVariants.{Go}
use Rattle.c_meaning.specs.State.{Locals, Frame, Running, State, frame}
use Rattle.c_meaning.specs.Outcome.{Outcome, NotEnabled, Undefined}
use Rattle.c_meaning.specs.Places.{Target, evaluated, evaluated_if_any, target_at, mutex_at, condition_at}
use Rattle.c_meaning.specs.Setting.{assigned, declared_local, read_into}
use Rattle.c_meaning.specs.Printing.{printed}
use Rattle.c_meaning.specs.Branching.{branched, looped, for_begun, loop_of}
use Rattle.c_meaning.specs.Calls.{called, frame_ended, returned}
use Rattle.c_meaning.specs.Locks.{initialised, locked, tried, unlocked, unlocked_by, given, given_from, held_by}
use Rattle.c_meaning.specs.Waits.{waited, waited_by, signalled, broadcast}
use Rattle.c_meaning.specs.Stuck.{is_owner}
use Rattle.c_meaning.specs.Step.{acted, acted_on, gone, step}
use Rattle.step_effects.specs.Effects.{Is}
use Rattle.reached_states.proofs.Holdings.{held_of_monitor}
use Rattle.undefined_steps.specs.Faults.{FaultIfAny, BeyondObjects}
use Rattle.undefined_steps.specs.Causes.{HasFault, FaultAtFirst, IsBeyond, BeyondAtFirst, IsOver, GivesNothing, ReturnsTo, Cause}
use Rattle.undefined_steps.specs.Laws.{CauseIsUndefined}
use Rattle.undefined_steps.proofs.Faulty.{no_value, no_value_if_any, no_values, no_cell, no_object}

else_undefined : (b : Bool) (one : Outcome) → b ≡ false → (if b then one else Undefined) ≡ Undefined
else_undefined true one e = absurd (cc e)
else_undefined false one e = refl

module _ (p : Program) (s : State) (t : ℕ) where
  -- ---- outcomes of what is missing

  unassigned : (l : Locals) (rest : Stmts) (more : List Frame) (o : Option Target) → assigned s t l rest more o None ≡ Undefined
  unassigned l rest more (Some target) = refl
  unassigned l rest more None = refl

  uncalled : (frames : List Frame) (f : Option Function) → called s t frames f None ≡ Undefined
  uncalled frames (Some f) = refl
  uncalled frames None = refl

  no_wait : (frames : List Frame) (c : Option ℕ) → waited s t frames c None ≡ Undefined
  no_wait frames (Some c) = refl
  no_wait frames None = refl

  not_owned : (next : List Frame) (m : ℕ) (o : Option (Option ℕ)) → is_owner t o ≡ false → unlocked_by s t next m o ≡ Undefined
  not_owned next m (Some (Some owner)) other = else_undefined (owner == t) _ other
  not_owned next m (Some None) other = refl
  not_owned next m None other = refl

  not_waited : (frames : List Frame) (c m : ℕ) (o : Option (Option ℕ)) → is_owner t o ≡ false → waited_by s t frames c m o ≡ Undefined
  not_waited frames c m (Some (Some owner)) other = else_undefined (owner == t) _ other
  not_waited frames c m (Some None) other = refl
  not_waited frames c m None other = refl

  not_given : (next : List Frame) (k : ℕ) (row : Option (List ℕ)) → held_by (unwrap_or row []) t ≡ 0 → given s t next k row ≡ Undefined
  not_given next k (Some row) none = ap (given_from s t next k row) none
  not_given next k None none = refl

  -- ---- statements

  module _ (l : Locals) (rest : Stmts) (more : List Frame) where
    no_target : (target : Place) (z : Option ℤ) → target_at p s l target ≡ None → assigned s t l rest more (target_at p s l target) z ≡ Undefined
    no_target target z none = ap (λ o. assigned s t l rest more o z) none

  undefined_at_first : (l : Locals) (rest : Stmts) (more : List Frame) (first_part : Stmts) → FaultAtFirst p s l first_part → for_begun p s t l rest more first_part ≡ Undefined
  undefined_at_first l rest more (Cons (bare.Declare name e) Nil) fault = ap (declared_local s t l rest more name) (no_value_if_any p s l e fault)
  undefined_at_first l rest more (Cons (bare.Assign target e) Nil) (inl fault) = no_target l rest more target (evaluated p s l e) (no_cell p s l target.name target.index (inl fault))
  undefined_at_first l rest more (Cons (bare.Assign target e) Nil) (inr fault) =
      ap (assigned s t l rest more (target_at p s l target)) (no_value p s l e fault) ∙ unassigned l rest more (target_at p s l target)
  undefined_at_first l rest more first_part fault = absurd fault

  beyond_at_first : (l : Locals) (rest : Stmts) (more : List Frame) (first_part : Stmts) → BeyondAtFirst p s l first_part → for_begun p s t l rest more first_part ≡ Undefined
  beyond_at_first l rest more (Cons (bare.Assign target e) Nil) out = no_target l rest more target (evaluated p s l e) (no_cell p s l target.name target.index (inr out))
  beyond_at_first l rest more first_part out = absurd out

  no_mutex : (l : Locals) (place : Place) → FaultIfAny p s l place.index ⊎ BeyondObjects p.mutexes p s l place.name place.index → mutex_at p s l place ≡ None
  no_mutex l place why = no_object p s l p.mutexes place.name place.index why

  no_condition : (l : Locals) (place : Place) → FaultIfAny p s l place.index ⊎ BeyondObjects p.conds p s l place.name place.index → condition_at p s l place ≡ None
  no_condition l place why = no_object p s l p.conds place.name place.index why

  module _ (l : Locals) (rest : Stmts) (more : List Frame) where
    undefined_fault : (act : Stmt) → HasFault p s l act → acted p s t l rest more act ≡ Undefined
    undefined_fault (bare.Declare name e) fault = ap (declared_local s t l rest more name) (no_value_if_any p s l e fault)
    undefined_fault (bare.Assign target e) (inl fault) = no_target l rest more target (evaluated p s l e) (no_cell p s l target.name target.index (inl fault))
    undefined_fault (bare.Assign target e) (inr fault) =
        ap (assigned s t l rest more (target_at p s l target)) (no_value p s l e fault) ∙ unassigned l rest more (target_at p s l target)
    undefined_fault (bare.Call target name args) fault =
        ap (called s t (frame l (Cons (bare.Call target name args) rest) ∷ more) (function_named p name)) (no_values p s l args fault)
        ∙ uncalled (frame l (Cons (bare.Call target name args) rest) ∷ more) (function_named p name)
    undefined_fault (bare.If test a b) fault = ap (branched s t l rest more a b) (no_value p s l test fault)
    undefined_fault (bare.While test body) fault = ap (looped s t l rest more test body) (no_value p s l test fault)
    undefined_fault (bare.For first_part test step body) fault = undefined_at_first l (Cons (loop_of test step body) rest) more first_part fault
    undefined_fault (bare.Return e) fault = ap (returned p s t more) (no_value_if_any p s l e fault)
    undefined_fault (bare.Read target) fault = ap (λ o. read_into s t l rest more o s.input) (no_cell p s l target.name target.index (inl fault))
    undefined_fault (bare.Print format args) fault = ap (printed s t (frame l rest ∷ more) format) (no_values p s l args fault)
    undefined_fault (bare.InitMutex place) fault = ap (initialised s t (frame l rest ∷ more)) (no_mutex l place (inl fault))
    undefined_fault (bare.InitCond place) fault = ap (initialised s t (frame l rest ∷ more)) (no_condition l place (inl fault))
    undefined_fault (bare.Lock place) fault = ap (locked s t (frame l rest ∷ more)) (no_mutex l place (inl fault))
    undefined_fault (bare.TryLock place a b) fault = ap (tried s t (frame l (before a rest) ∷ more) (frame l (before b rest) ∷ more)) (no_mutex l place (inl fault))
    undefined_fault (bare.Unlock place) fault = ap (unlocked s t (frame l rest ∷ more)) (no_mutex l place (inl fault))
    undefined_fault (bare.Wait cond place ks) (inl fault) =
        ap (λ c. waited s t (frame l (Cons (bare.Wait cond place ks) rest) ∷ more) c (mutex_at p s l place)) (no_condition l cond (inl fault))
    undefined_fault (bare.Wait cond place ks) (inr fault) =
        ap (waited s t (frame l (Cons (bare.Wait cond place ks) rest) ∷ more) (condition_at p s l cond)) (no_mutex l place (inl fault))
        ∙ no_wait (frame l (Cons (bare.Wait cond place ks) rest) ∷ more) (condition_at p s l cond)
    undefined_fault (bare.Signal cond) fault = ap (signalled s t (frame l rest ∷ more)) (no_condition l cond (inl fault))
    undefined_fault (bare.Broadcast cond) fault = ap (broadcast s t (frame l rest ∷ more)) (no_condition l cond (inl fault))
    undefined_fault act fault = absurd fault

    undefined_beyond : (act : Stmt) → IsBeyond p s l act → acted p s t l rest more act ≡ Undefined
    undefined_beyond (bare.Assign target e) out = no_target l rest more target (evaluated p s l e) (no_cell p s l target.name target.index (inr out))
    undefined_beyond (bare.For first_part test step body) out = beyond_at_first l (Cons (loop_of test step body) rest) more first_part out
    undefined_beyond (bare.Read target) out = ap (λ o. read_into s t l rest more o s.input) (no_cell p s l target.name target.index (inr out))
    undefined_beyond (bare.InitMutex place) out = ap (initialised s t (frame l rest ∷ more)) (no_mutex l place (inr out))
    undefined_beyond (bare.InitCond place) out = ap (initialised s t (frame l rest ∷ more)) (no_condition l place (inr out))
    undefined_beyond (bare.Lock place) out = ap (locked s t (frame l rest ∷ more)) (no_mutex l place (inr out))
    undefined_beyond (bare.TryLock place a b) out = ap (tried s t (frame l (before a rest) ∷ more) (frame l (before b rest) ∷ more)) (no_mutex l place (inr out))
    undefined_beyond (bare.Unlock place) out = ap (unlocked s t (frame l rest ∷ more)) (no_mutex l place (inr out))
    undefined_beyond (bare.Wait cond place ks) (inl out) =
        ap (λ c. waited s t (frame l (Cons (bare.Wait cond place ks) rest) ∷ more) c (mutex_at p s l place)) (no_condition l cond (inr out))
    undefined_beyond (bare.Wait cond place ks) (inr out) =
        ap (waited s t (frame l (Cons (bare.Wait cond place ks) rest) ∷ more) (condition_at p s l cond)) (no_mutex l place (inr out))
        ∙ no_wait (frame l (Cons (bare.Wait cond place ks) rest) ∷ more) (condition_at p s l cond)
    undefined_beyond (bare.Signal cond) out = ap (signalled s t (frame l rest ∷ more)) (no_condition l cond (inr out))
    undefined_beyond (bare.Broadcast cond) out = ap (broadcast s t (frame l rest ∷ more)) (no_condition l cond (inr out))
    undefined_beyond act out = absurd out

  -- ---- calls that end, with some value or with none

  -- where the end of the call is undefined whatever comes of it, what ends it is undefined
  ends_so : (l : Locals) (below : List Frame) (todo : Stmts) → IsOver todo → ((z : Option ℤ) → frame_ended p s t below z ≡ Undefined) → acted_on p s t l below todo ≡ Undefined
  ends_so l below Nil over always = always None
  ends_so l below (Cons (bare.Return e) rest) over always = by (evaluated_if_any p s l e)
    where
      by : (o : Option (Option ℤ)) → returned p s t below o ≡ Undefined
      by (Some z) = always z
      by None = refl
  ends_so l below todo over always = absurd over

  ends_without : (l : Locals) (below : List Frame) (todo : Stmts) → GivesNothing todo → frame_ended p s t below None ≡ Undefined → acted_on p s t l below todo ≡ Undefined
  ends_without l below Nil nothing e = e
  ends_without l below (Cons (bare.Return None) rest) nothing e = e
  ends_without l below todo nothing e = absurd nothing

  -- ---- the step

  undefined_step : (f : Frame) (more : List Frame) → s.main_ended ≡ false → Is s t (Running (f ∷ more)) → acted_on p s t f.locals more f.todo ≡ Undefined
      → step p s (record { thread = t; kind = Go }) ≡ Undefined
  undefined_step f more going is e = ap (λ b. if b then NotEnabled else gone p s t (slice_get s.threads t)) going ∙ ap (gone p s t) is ∙ e

  -- the frames below one that returns to a place
  abbrev below_of : (newest : Frame) (l : Locals) (target : Place) → ReturnsTo s t newest l target → List Frame
  below_of newest l target r = frame l (Cons (bare.Call (Some target) r.function r.args) r.rest) ∷ r.more

  exact : s.main_ended ≡ false → Cause p s t → step p s (record { thread = t; kind = Go }) ≡ Undefined
  exact going (Cause.expression l act rest more is fault) = undefined_step (frame l (Cons act rest)) more going is (undefined_fault l rest more act fault)
  exact going (Cause.index l act rest more is out) = undefined_step (frame l (Cons act rest)) more going is (undefined_beyond l rest more act out)
  exact going (Cause.target_expression newest l target r fault) =
      undefined_step newest (below_of newest l target r) going r.runs (ends_so newest.locals (below_of newest l target r) newest.todo r.over (λ z. no_target l r.rest r.more target z (no_cell p s l target.name target.index (inl fault))))
  exact going (Cause.target_index newest l target r out) =
      undefined_step newest (below_of newest l target r) going r.runs (ends_so newest.locals (below_of newest l target r) newest.todo r.over (λ z. no_target l r.rest r.more target z (no_cell p s l target.name target.index (inr out))))
  exact going (Cause.no_result newest l target r nothing) =
      undefined_step newest (below_of newest l target r) going r.runs (ends_without newest.locals (below_of newest l target r) newest.todo nothing (unassigned l r.rest r.more (target_at p s l target)))
  exact going (Cause.unlock l place rest more m is on other) =
      undefined_step (frame l (Cons (bare.Unlock place) rest)) more going is (ap (unlocked s t (frame l rest ∷ more)) on ∙ not_owned (frame l rest ∷ more) m (slice_get s.owners m) other)
  exact going (Cause.wait l cond place takes rest more m is on other) =
      let frames = frame l (Cons (bare.Wait cond place takes) rest) ∷ more in
      undefined_step (frame l (Cons (bare.Wait cond place takes) rest)) more going is (ap (waited s t frames (condition_at p s l cond)) on ∙ waits_so frames (condition_at p s l cond) m other)
    where
      waits_so : (frames : List Frame) (c : Option ℕ) (m : ℕ) → is_owner t (slice_get s.owners m) ≡ false → waited s t frames c (Some m) ≡ Undefined
      waits_so frames (Some c) m other = not_waited frames c m (slice_get s.owners m) other
      waits_so frames None m other = refl
  exact going (Cause.give l monitor rest more is none) =
      undefined_step (frame l (Cons (bare.Give monitor) rest)) more going is
      (not_given (frame l rest ∷ more) monitor (slice_get s.tokens monitor) (sym (held_of_monitor p s t monitor) ∙ none))

pub causes_are_exact : CauseIsUndefined
causes_are_exact p s t going cause = exact p s t going cause
