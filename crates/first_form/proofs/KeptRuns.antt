-- What the steps and runs of a program without nested locks keep.
use Rattle.std.proofs.Common.{◌≡◌, ℕ, zero, suc, Bool, true, false, List, [], ◌∷◌, length, replicate, Option, Some, None, refl, sym, ap, subst}
use Rattle.std.specs.Prelude.{ℤ, if◌then◌else◌, slice_get, bytes_eq, option_map, option_and_then, unwrap_or}
use Rattle.std.specs.FinMap as finite
use Rattle.c_tree.specs.Expressions.{Place}
use Rattle.c_tree.specs.Values.{constant}
use Rattle.c_tree.specs.Bare.{Stmt, Stmts, Nil, Cons, Assign, Return, Create, Join, Lock, Unlock, Signal, Function, Program}
use Rattle.c_tree.specs.Numbering.{main_name, main_body, function_named, creations, thread_in, mutex_of, mutex_count}
use Rattle.c_meaning.specs.declared.EventKind.{EventKind}
use Rattle.c_meaning.specs.declared.EventKind.TheVariants.{Go, Choose, Wake}
use Rattle.c_meaning.specs.declared.Event.{Event}
use Rattle.c_meaning.specs.State.{Locals, Frame, Status, NotBegun, Running, Waiting, Reacquiring, Ended, State, frame, start}
use Rattle.c_meaning.specs.Outcome.{Outcome, NotEnabled, Undefined, Done}
use Rattle.c_meaning.specs.Places.{evaluated, evaluated_if_any, mutex_at, target_at}
use Rattle.c_meaning.specs.Threads.{first_frame}
use Rattle.c_meaning.specs.Step.{acted, acted_on, went, gone, chose_on, chosen, awoken, happened, step}
use Rattle.c_meaning.specs.Run.{then_on, run}
use Rattle.c_meaning.proofs.Reading.{some_is, Each, found_each}
use Rattle.first_form.proofs.Quiet.{IsQuiet, QuietFunction}
use Rattle.first_form.proofs.Kept.{Owned, Goes, Fits, KeptIn, OnDone, held_below}
use Rattle.first_form.proofs.KeptActs.{kept_assigned, kept_locked, kept_unlocked, begins_quiet, kept_created, kept_joined, kept_ended, kept_returned}

-- at a scalar, the mutex is found by the name
pub scalar_mutex : (p : Program) (s : State) (locals : Locals) (place : Place) → place.index ≡ None → mutex_at p s locals place ≡ mutex_of p place.name None
scalar_mutex p s locals place scalar = ap (λ index. option_and_then (mutex_of p place.name) (evaluated_if_any p s locals index)) scalar

pub kept_acted : (p : Program) (s : State) (t : ℕ) (locals : Locals) (rest : Stmts) (a : Stmt) → Each (QuietFunction p) p.functions → KeptIn p s
    → slice_get s.threads t ≡ Some (Running (frame locals (Cons a rest) ∷ [])) → (above : List Stmt) → IsQuiet p above (Cons a rest) → Owned p s.owners t above
    → OnDone (acted p s t locals rest [] a) (KeptIn p)
kept_acted p s t locals rest (Assign target e) each kept at above quiet owned =
    kept_assigned p s t locals rest kept (record { above = Assign target e ∷ above; quiet = quiet; owned = λ r o. held_below p above (Assign target e ∷ above) r (λ name held. held) (owned r o) }) (target_at p s locals target) (evaluated p s locals e)
kept_acted p s t locals rest (Lock place) each kept at above quiet owned =
    kept_locked p s t locals rest above place kept quiet.mutex quiet.below owned (mutex_at p s locals place) (sym (scalar_mutex p s locals place quiet.mutex.scalar))
kept_acted p s t locals rest (Unlock place) each kept at above quiet owned =
    kept_unlocked p s t locals rest above place kept quiet.below owned (mutex_at p s locals place) (sym (scalar_mutex p s locals place quiet.mutex.scalar))
kept_acted p s t locals rest (Create slot function arg) each kept at above quiet owned =
    kept_created p s t locals rest (Cons (Create slot function arg) rest) kept (record { above = Create slot function arg ∷ above; quiet = quiet; owned = λ r o. held_below p above (Create slot function arg ∷ above) r (λ name held. held) (owned r o) }) at
    (thread_in p slot) (first_frame (function_named p function) (constant arg))
    (λ begin e. begins_quiet p each function (constant arg) (function_named p function) begin refl e)
kept_acted p s t locals rest (Join slot) each kept at above quiet owned =
    kept_joined p s t locals rest kept (record { above = Join slot ∷ above; quiet = quiet; owned = λ r o. held_below p above (Join slot ∷ above) r (λ name held. held) (owned r o) }) (thread_in p slot)
kept_acted p s t locals rest (Return e) each kept at above quiet owned = kept_returned p s t kept (evaluated_if_any p s locals e)
kept_acted p s t locals rest a each kept at above quiet owned = absurd quiet

pub kept_todo : (p : Program) (s : State) (t : ℕ) (locals : Locals) (todo : Stmts) → Each (QuietFunction p) p.functions → KeptIn p s
    → slice_get s.threads t ≡ Some (Running (frame locals todo ∷ [])) → Goes p s.owners t todo → OnDone (acted_on p s t locals [] todo) (KeptIn p)
kept_todo p s t locals Nil each kept at goes = kept_ended p s t None kept
kept_todo p s t locals (Cons a rest) each kept at goes = kept_acted p s t locals rest a each kept at goes.above goes.quiet goes.owned

pub kept_went : (p : Program) (s : State) (t : ℕ) (frames : List Frame) → Each (QuietFunction p) p.functions → KeptIn p s → slice_get s.threads t ≡ Some (Running frames)
    → OnDone (went p s t frames) (KeptIn p)
kept_went p s t [] each kept at = tt
kept_went p s t (f ∷ []) each kept at = kept_todo p s t f.locals f.todo each kept at (kept t (Running (f ∷ [])) at)
kept_went p s t (f ∷ g ∷ more) each kept at = absurd (kept t (Running (f ∷ g ∷ more)) at)

pub kept_gone : (p : Program) (s : State) (t : ℕ) (o : Option Status) → Each (QuietFunction p) p.functions → KeptIn p s → slice_get s.threads t ≡ o → OnDone (gone p s t o) (KeptIn p)
kept_gone p s t (Some (Running frames)) each kept at = kept_went p s t frames each kept at
kept_gone p s t (Some (Reacquiring mutex takes frames)) each kept at = absurd (kept t (Reacquiring mutex takes frames) at)
kept_gone p s t (Some NotBegun) each kept at = tt
kept_gone p s t (Some (Waiting condition mutex frames)) each kept at = tt
kept_gone p s t (Some Ended) each kept at = tt
kept_gone p s t None each kept at = tt

-- no signal stands where a thread of these programs is
pub kept_chose_on : (p : Program) (s : State) (t u : ℕ) (locals : Locals) (more : List Frame) (above : List Stmt) (todo : Stmts) → IsQuiet p above todo → OnDone (chose_on p s t locals more u todo) (KeptIn p)
kept_chose_on p s t u locals more above (Cons (Signal cond) rest) quiet = absurd quiet
kept_chose_on p s t u locals more above todo quiet = tt

pub kept_chosen : (p : Program) (s : State) (t u : ℕ) (o : Option Status) → KeptIn p s → slice_get s.threads t ≡ o → OnDone (chosen p s t u o) (KeptIn p)
kept_chosen p s t u (Some (Running [])) kept at = tt
kept_chosen p s t u (Some (Running (f ∷ []))) kept at = let goes = kept t (Running (f ∷ [])) at in kept_chose_on p s t u f.locals [] goes.above f.todo goes.quiet
kept_chosen p s t u (Some (Running (f ∷ g ∷ more))) kept at = absurd (kept t (Running (f ∷ g ∷ more)) at)
kept_chosen p s t u (Some NotBegun) kept at = tt
kept_chosen p s t u (Some (Waiting condition mutex frames)) kept at = tt
kept_chosen p s t u (Some (Reacquiring mutex takes frames)) kept at = tt
kept_chosen p s t u (Some Ended) kept at = tt
kept_chosen p s t u None kept at = tt

pub kept_awoken : (p : Program) (s : State) (t : ℕ) (o : Option Status) → KeptIn p s → slice_get s.threads t ≡ o → OnDone (awoken s t o) (KeptIn p)
kept_awoken p s t (Some (Waiting condition mutex frames)) kept at = absurd (kept t (Waiting condition mutex frames) at)
kept_awoken p s t (Some NotBegun) kept at = tt
kept_awoken p s t (Some (Running frames)) kept at = tt
kept_awoken p s t (Some (Reacquiring mutex takes frames)) kept at = tt
kept_awoken p s t (Some Ended) kept at = tt
kept_awoken p s t None kept at = tt

pub kept_happened : (p : Program) (s : State) (t : ℕ) (kind : EventKind) (o : Option Status) → Each (QuietFunction p) p.functions → KeptIn p s → slice_get s.threads t ≡ o
    → OnDone (happened p s t kind o) (KeptIn p)
kept_happened p s t Go o each kept at = kept_gone p s t o each kept at
kept_happened p s t (Choose u) o each kept at = kept_chosen p s t u o kept at
kept_happened p s t Wake o each kept at = kept_awoken p s t o kept at

pub kept_step : (p : Program) (s : State) (e : Event) → Each (QuietFunction p) p.functions → KeptIn p s → OnDone (step p s e) (KeptIn p)
kept_step p s e each kept = by s.main_ended
  where
    by : (b : Bool) → OnDone (if b then NotEnabled else happened p s e.thread e.kind (slice_get s.threads e.thread)) (KeptIn p)
    by true = tt
    by false = kept_happened p s e.thread e.kind (slice_get s.threads e.thread) each kept refl

-- what each step keeps, a run keeps
pub kept_then : (p : Program) (events : List Event) (o : Outcome) (s' : State) → OnDone o (KeptIn p) → ((s : State) → KeptIn p s → run p events s ≡ Some s' → KeptIn p s')
    → then_on o (run p events) ≡ Some s' → KeptIn p s'
kept_then p events NotEnabled s' done more e = absurd (cc e)
kept_then p events Undefined s' done more e = absurd (cc e)
kept_then p events (Done what s) s' done more e = more s done e

pub kept_run : (p : Program) (events : List Event) (s s' : State) → Each (QuietFunction p) p.functions → KeptIn p s → run p events s ≡ Some s' → KeptIn p s'
kept_run p [] s s' each kept e = let same : s ≡ s' = some_is s s' e in subst (KeptIn p) same kept
kept_run p (event ∷ events) s s' each kept e = kept_then p events (step p s event) s' (kept_step p s event each kept) (λ s1 k r. kept_run p events s1 s' each k r) e

-- at the start nothing is owned, and main alone runs
pub no_owner : (n r t : ℕ) → slice_get {X = Option ℕ} (replicate n None) r ≡ Some (Some t) → ⊥
no_owner zero r t e = cc e
no_owner (suc n) zero t e = cc e
no_owner (suc n) (suc r) t e = no_owner n r t e

pub asleep : (p : Program) (owners : List (Option ℕ)) (n t u : ℕ) (status : Status) → ((r : ℕ) → slice_get owners r ≡ Some (Some u) → ⊥)
    → slice_get (replicate n NotBegun) t ≡ Some status → Fits p owners u status
asleep p owners zero t u status nothing e = absurd (cc e)
asleep p owners (suc n) zero u status nothing e = let same : NotBegun ≡ status = some_is NotBegun status e in subst (Fits p owners u) same nothing
asleep p owners (suc n) (suc t) u status nothing e = asleep p owners n t u status nothing e

pub quiet_main_of : (p : Program) → Each (QuietFunction p) p.functions → (f : Option Function) → function_named p main_name ≡ f → IsQuiet p [] (unwrap_or (option_map (λ f. f.body) f) Nil)
quiet_main_of p each None at = tt
quiet_main_of p each (Some f) at = found_each (QuietFunction p) (λ f. bytes_eq f.name main_name) p.functions f each at

pub kept_start : (p : Program) (input : List ℤ) → Each (QuietFunction p) p.functions → KeptIn p (start p input)
kept_start p input each zero status e =
    let first : Status = Running (frame finite.empty (main_body p) ∷ []) in
    let same : first ≡ status = some_is first status e in
    let fits : Fits p (start p input).owners 0 first = (record { above = []; quiet = quiet_main_of p each (function_named p main_name) refl; owned = λ r o. absurd (no_owner (mutex_count p) r 0 o) }) in subst (Fits p (start p input).owners 0) same fits
kept_start p input each (suc t) status e = asleep p (start p input).owners (length (creations p)) t (suc t) status (λ r o. no_owner (mutex_count p) r (suc t) o) e
