-- A step turns each thread.
use Rattle.std.proofs.Common.{◌≡◌, ◌≢◌, ℕ, ◌<◌, List, [], ◌∷◌, Option, Some, None, ◌⊎◌, inl, inr, ⊎_elim, refl, sym, ap, ◌∙◌, subst, arith}
use Rattle.std.specs.Prelude.{ℤ, slice_get, slice_set, option_and_then}
use Rattle.c_tree.specs.Expressions.{Expr, Place}
use Rattle.c_tree.specs.Bare as bare
use Rattle.c_tree.specs.Bare.{Stmts, Cons, Function, Program}
use Rattle.c_tree.specs.Numbering.{function_named, mutex_of, mutex_count, thread_in}
use Rattle.c_meaning.specs.State.{Locals, Frame, Status, NotBegun, Running, Waiting, Reacquiring, Ended, State, frame}
use Rattle.c_meaning.specs.Places.{mutex_at, evaluated_if_any}
use Rattle.c_meaning.specs.Calls.{passed}
use Rattle.c_meaning.specs.Waits.{acquires_again}
use Rattle.c_meaning.proofs.Reading.{numbered_below}
use Rattle.step_effects.specs.Turns.{Goes, TurnsAlone, Turns, IfAny, EachTurns}
use Rattle.step_effects.specs.Effects.{Is, Effect, EachThreadTurns}
use Rattle.step_effects.proofs.Threads.{turn_one, turn_two, turn_all}
use Rattle.step_effects.proofs.Steps.{each_effect}

-- a mutex is one of the program's
pub mutex_below : (p : Program) (s : State) (l : Locals) (place : Place) (m : ℕ) → mutex_at p s l place ≡ Some m → m < mutex_count p
mutex_below p s l place m e = by (evaluated_if_any p s l place.index) e
  where
    by : (index : Option (Option ℤ)) → option_and_then (mutex_of p place.name) index ≡ Some m → m < mutex_count p
    by None f = absurd (cc f)
    by (Some index) f = let below = numbered_below 0 p.mutexes place.name index m f in omega (arith, below)

-- two threads that do different things are two
pub apart : (s : State) (t u : ℕ) (x y : Status) → Is s t x → Is s u y → (x ≡ y → ⊥) → u ≢ t
apart s t u x y there second differ same = let e : Some x ≡ Some y = sym there ∙ ap (slice_get s.threads) (sym same) ∙ second in differ (cc e)

-- the threads t and u turn so: the one begins the other
pub record Begins (p : Program) (s : State) (t : ℕ) (next : State) : Type 0 where
  pub locals : Locals
  pub slot : Place
  pub name : List ℕ
  pub arg : Expr
  pub rest : Stmts
  pub more : List Frame
  pub other : ℕ
  pub function : Function
  pub values : List ℤ
  pub runs : Is s t (Running (frame locals (Cons (bare.Create slot name arg) rest) ∷ more))
  pub not_begun : Is s other NotBegun
  pub thread : thread_in p slot ≡ Some other
  pub named : function_named p name ≡ Some function
  pub threads : next.threads ≡ slice_set (slice_set s.threads t (Running (frame locals rest ∷ more))) other (Running (frame (passed function.params values) function.body ∷ []))

module _ (p : Program) (s : State) (t : ℕ) where
  one_goes : (frames more : List Frame) → Is s t (Running frames) → Goes p frames more → (u : ℕ) → IfAny (TurnsAlone p) (slice_get s.threads u) (slice_get (slice_set s.threads t (Running more)) u)
  one_goes frames more is g = turn_one (TurnsAlone p) TurnsAlone.stays s.threads t (Running frames) (Running more) is (TurnsAlone.goes frames more g)

  -- each thread turns by itself, or one begins another
  pub turns_of : (next : State) → Effect p s t next → EachTurns (TurnsAlone p) s next ⊎ Begins p s t next
  turns_of next (Effect.goes frames more cells input output is g same) = inl (one_goes frames more is g)
  turns_of next (Effect.locks frames more m is g free) = inl (one_goes frames more is g)
  turns_of next (Effect.unlocks frames more m is g owned) = inl (one_goes frames more is g)
  turns_of next (Effect.takes frames more monitor row is g free) = inl (one_goes frames more is g)
  turns_of next (Effect.gives frames more monitor row left is g there held) = inl (one_goes frames more is g)
  turns_of next (Effect.begins l slot name arg rest more u f z is idle at named value) = inr (record {
    locals = l;
    slot = slot;
    name = name;
    arg = arg;
    rest = rest;
    more = more;
    other = u;
    function = f;
    values = z ∷ [];
    runs = is;
    not_begun = idle;
    thread = at;
    named = named;
    threads = refl;
  })
  turns_of next (Effect.ends newest is) = inl (turn_one (TurnsAlone p) TurnsAlone.stays s.threads t (Running (newest ∷ [])) Ended is (TurnsAlone.ends newest))
  turns_of next (Effect.waits l cond place taking rest more c m is at on owned) =
      let here = frame l (Cons (bare.Wait cond place taking) rest) ∷ more in
      inl (turn_one (TurnsAlone p) TurnsAlone.stays s.threads t (Running here) (Waiting c m here) is (TurnsAlone.waits l cond place taking rest more c m (mutex_below p s l place m on)))
  turns_of next (Effect.wakes_one frames more waiting u c m is g asleep) =
      inl (turn_two (TurnsAlone p) TurnsAlone.stays s.threads t u (Running frames) (Running more) (Waiting c m waiting) (acquires_again m waiting) is asleep
      (apart s t u (Running frames) (Waiting c m waiting) is asleep (λ e. cc e)) (TurnsAlone.goes frames more g) (TurnsAlone.wakes c m waiting))
  turns_of next (Effect.wakes_all frames more c is g) = inl (turn_all p s.threads t c frames more is (TurnsAlone.goes frames more g))
  turns_of next (Effect.wakes c m frames is) =
      inl (turn_one (TurnsAlone p) TurnsAlone.stays s.threads t (Waiting c m frames) (acquires_again m frames) is (TurnsAlone.wakes c m frames))
  turns_of next (Effect.takes_again m monitor left frames row is free) =
      inl (turn_one (TurnsAlone p) TurnsAlone.stays s.threads t (Reacquiring m (monitor ∷ left) frames) (Reacquiring m left frames) is (TurnsAlone.takes_again m monitor left frames))
  turns_of next (Effect.retakes m l cond place taking rest more is free) =
      let here = frame l (Cons (bare.Wait cond place taking) rest) ∷ more in
      inl (turn_one (TurnsAlone p) TurnsAlone.stays s.threads t (Reacquiring m [] here) (Running (frame l rest ∷ more)) is (TurnsAlone.retakes m l cond place taking rest more))

-- a thread that begins another isn't that one
pub begins_another : (p : Program) (s : State) (t : ℕ) (next : State) (b : Begins p s t next) → b.other ≢ t
begins_another p s t next b = apart s t b.other (Running (frame b.locals (Cons (bare.Create b.slot b.name b.arg) b.rest) ∷ b.more)) NotBegun b.runs b.not_begun (λ e. cc e)

weaker : (p : Program) (o x : Option Status) → IfAny (TurnsAlone p) o x → IfAny (Turns p) o x
weaker p None None turn = tt
weaker p (Some x) (Some y) turn = Turns.alone x y turn
weaker p None (Some y) turn = turn
weaker p (Some x) None turn = turn

pub all_turn : (p : Program) (s : State) (t : ℕ) (next : State) → Effect p s t next → EachTurns (Turns p) s next
all_turn p s t next effect = ⊎_elim
    (λ alone u. weaker p (slice_get s.threads u) (slice_get next.threads u) (alone u))
    (λ b. subst (λ (threads : List Status). (u : ℕ) → IfAny (Turns p) (slice_get s.threads u) (slice_get threads u)) (sym b.threads)
    (turn_two (Turns p) (λ x. Turns.alone x x (TurnsAlone.stays x)) s.threads t b.other
    (Running (frame b.locals (Cons (bare.Create b.slot b.name b.arg) b.rest) ∷ b.more)) (Running (frame b.locals b.rest ∷ b.more))
    NotBegun (Running (frame (passed b.function.params b.values) b.function.body ∷ [])) b.runs b.not_begun (begins_another p s t next b)
    (Turns.creates b.locals b.slot b.name b.arg b.rest b.more) (Turns.begins b.name b.function b.values b.named)))
    (turns_of p s t next effect)

pub each_turns : EachThreadTurns
each_turns p s e done next leads = all_turn p s e.thread next (each_effect p s e done next leads)
