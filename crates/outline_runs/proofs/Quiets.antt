-- The acts of a thread in a function that bears no locks: it stays where that function is called.
use Rattle.std.proofs.Common.{◌≡◌, ℕ, true, false, List, [], ◌∷◌, Option, Some, None, refl, sym, ◌∙◌, subst, inl, inr}
use Rattle.std.specs.Prelude.{ℤ}
use Rattle.c_tree.specs.Everywhere.{Everywhere}
use Rattle.c_tree.specs.Values.{constant}
use Rattle.c_tree.specs.Bare as bare
use Rattle.c_tree.specs.Numbering.{function_named, thread_in}
use Rattle.c_tree.specs.Lined.{Stmts, Nil, Cons, Call, bare_stmts}
use Rattle.c_meaning.specs.State.{Locals, Frame, State, frame, goes_on}
use Rattle.c_meaning.specs.Outcome.{Outcome}
use Rattle.c_meaning.specs.Places.{evaluated, evaluated_if_any, evaluated_all, mutex_at, condition_at}
use Rattle.c_meaning.specs.Branching.{for_begun, loop_of}
use Rattle.c_meaning.specs.Calls.{call_ended, frame_ended}
use Rattle.c_meaning.specs.Step.{acted_on}
use Rattle.outlines.specs.Outline as outline
use Rattle.outlines.specs.Outline.{Parts}
use Rattle.outlines.specs.Moves.{Position, At}
use Rattle.contexts.specs.Outlined.{Code}
use Rattle.contexts.specs.Quiet.{IsQuiet}
use Rattle.contexts.specs.Shape.{Shape}
use Rattle.contexts.proofs.Names.{without_weaker}
use Rattle.step_effects.specs.Effects.{OnDone}
use Rattle.step_effects.proofs.Todos.{everywhere_before}
use Rattle.outline_runs.specs.Standing.{AtQuietCall, OverQuietCall, Stands, Standing}
use Rattle.outline_runs.proofs.Goings.{Moved}
use Rattle.outline_runs.proofs.Ready.{Within, moves, assigned_ready, result_ready, read_ready, declared_ready, printed_ready, joined_ready, initialised_ready}
use Rattle.outline_runs.proofs.Wakings.{signalled_ready, broadcast_ready, created_ready}
use Rattle.outline_runs.proofs.Acts.{if_ready, while_ready, returned_ready}
use Rattle.outline_runs.proofs.Here.{Here, shape_of, here_of, step_to, behind}
use Rattle.outline_runs.proofs.Chains.{quiet_called, creates_as}
use Rattle.outline_runs.proofs.Fits.{Fits}

module _ (code : Code) (bodies : ℕ → Parts) (s : State) (t : ℕ) (at : ℕ → Position) (standing : Standing code s at) where
  abbrev Has : Outcome → Type 0
  Has o = OnDone o (Moved code bodies s at)

  -- ---- a call of such a function has returned

  -- to a frame that has an outline
  over_outline : (locals : Locals) (fs : List Frame) (result : Option ℤ) (left : Stmts) (h : Here code t at locals fs left) → Shape code h.writes h.known (Some h.end_line) left h.xs
      → AtQuietCall code (bare_stmts left) → Has (call_ended code.program s t locals fs result (bare_stmts left))
  over_outline locals fs result Nil h shape silent = tt
  over_outline locals fs result (Cons (Call line target name args) rest) h (inl plain) silent =
      let there = plain.1 in
      result_ready code bodies s t at standing locals (bare_stmts rest) fs
      (step_to code t at locals fs (Cons (Call line target name args) rest) h bodies locals (outline.Step line) there.0 there.0 (bare_stmts rest) there.1 (refl, refl)
      (behind code t at locals fs (Cons (Call line target name args) rest) h _ (without_weaker [] h.known) rest there.0 there.2))
      target result plain.0.1
  over_outline locals fs result (Cons (Call line target name args) rest) h (inr e) silent = absurd (let both : true ≡ false = sym e.bears ∙ silent in cc both)
  over_outline locals fs result (Cons a rest) h shape silent = absurd silent

  -- to a frame of another such function
  over_quiet : (locals : Locals) (fs : List Frame) (result : Option ℤ) (left : List Parts) → at t ≡ At left → OverQuietCall code fs → Stands code fs left
      → (todo : bare.Stmts) → Everywhere (IsQuiet code) todo → Has (call_ended code.program s t locals fs result todo)
  over_quiet locals fs result left is over below (bare.Cons (bare.Call target name args) rest) quiet =
      result_ready code bodies s t at standing locals rest fs (inr (record { left = left; is = is; quiet = quiet.2; over = over; below = below })) target result tt
  over_quiet locals fs result left is over below todo quiet = tt

  pub quiet_ended : (more : List Frame) (left : List Parts) → at t ≡ At left → OverQuietCall code more → Stands code more left → (result : Option ℤ) → Has (frame_ended code.program s t more result)
  quiet_ended [] left is over below result = absurd over
  quiet_ended (f ∷ fs) left is over (inl c) result =
      subst (λ todo. AtQuietCall code todo → Has (call_ended code.program s t f.locals fs result todo)) c.newest.todo_is
      (λ silent. over_outline f.locals fs result c.newest.left (here_of code t at f fs left is c) (shape_of code c.writes f.locals f.todo c.xs c.newest).shape silent) over
  quiet_ended (f ∷ fs) left is over (inr q) result = over_quiet f.locals fs result left is q.1 q.2 f.todo q.0

  -- ---- acts

  -- the first part of a `for`
  quiet_for : (locals : Locals) (todo : bare.Stmts) (more : List Frame) → Within code t at todo more → (first_part : bare.Stmts) → Has (for_begun code.program s t locals todo more first_part)
  quiet_for locals todo more g bare.Nil = moves code bodies s t at standing locals todo more (inr g)
  quiet_for locals todo more g (bare.Cons (bare.Declare name e) bare.Nil) =
      declared_ready code bodies s t at standing locals todo more name (evaluated_if_any code.program s locals e) (λ z is. inr g) (λ is. inr g)
  quiet_for locals todo more g (bare.Cons (bare.Assign target e) bare.Nil) =
      assigned_ready code bodies s t at standing locals todo more (inr g) target tt (evaluated code.program s locals e)
  quiet_for locals todo more g first_part = tt

  module _ (fits : Fits code bodies) (locals : Locals) (more : List Frame) (left : List Parts) (is : at t ≡ At left) (over : OverQuietCall code more) (below : Stands code more left) where
    -- it has these statements to do, and stays where it is called
    within : (todo : bare.Stmts) → Everywhere (IsQuiet code) todo → Within code t at todo more
    within todo quiet = record { left = left; is = is; quiet = quiet; over = over; below = below }

    goes : (todo : bare.Stmts) → Everywhere (IsQuiet code) todo → Moved code bodies s at (goes_on s t (frame locals todo ∷ more))
    goes todo quiet = moves code bodies s t at standing locals todo more (inr (within todo quiet))

    pub quiet_acted : (todo : bare.Stmts) → Everywhere (IsQuiet code) todo → Has (acted_on code.program s t locals more todo)
    quiet_acted bare.Nil q = quiet_ended more left is over below None
    quiet_acted (bare.Cons (bare.Declare name e) rest) q =
        declared_ready code bodies s t at standing locals rest more name (evaluated_if_any code.program s locals e) (λ z there. inr (within rest q.2)) (λ there. inr (within rest q.2))
    quiet_acted (bare.Cons (bare.Assign target e) rest) q = assigned_ready code bodies s t at standing locals rest more (inr (within rest q.2)) target tt (evaluated code.program s locals e)
    quiet_acted (bare.Cons (bare.Call target name args) rest) q =
        quiet_called code bodies fits s t at standing locals more target name args rest left is q.0 (inr (q, over, below)) (function_named code.program name) refl (evaluated_all code.program s locals args)
    quiet_acted (bare.Cons (bare.If test a b) rest) q =
        if_ready code bodies s t at standing locals rest more a b (inr (within (bare.before a rest) (everywhere_before (IsQuiet code) a rest q.1.0 q.2)))
        (inr (within (bare.before b rest) (everywhere_before (IsQuiet code) b rest q.1.1 q.2))) (evaluated code.program s locals test)
    quiet_acted (bare.Cons (bare.While test a) rest) q =
        while_ready code bodies s t at standing locals rest more test a
        (inr (within (bare.before a (bare.Cons (bare.While test a) rest)) (everywhere_before (IsQuiet code) a (bare.Cons (bare.While test a) rest) q.1 q)))
        (inr (within rest q.2)) (evaluated code.program s locals test)
    quiet_acted (bare.Cons (bare.For first_part test step body) rest) q =
        quiet_for locals (bare.Cons (loop_of test step body) rest) more
        (within (bare.Cons (loop_of test step body) rest) (tt, everywhere_before (IsQuiet code) body step q.1.2 q.1.1, q.2)) first_part
    quiet_acted (bare.Cons (bare.Return e) rest) q = returned_ready code bodies s t at standing more (quiet_ended more left is over below) (evaluated_if_any code.program s locals e)
    quiet_acted (bare.Cons (bare.Read target) rest) q = read_ready code bodies s t at standing locals rest more (inr (within rest q.2)) target tt
    quiet_acted (bare.Cons (bare.Print format args) rest) q = printed_ready code bodies s t at standing _ (goes rest q.2) format (evaluated_all code.program s locals args)
    quiet_acted (bare.Cons (bare.Create slot name arg) rest) q =
        created_ready code bodies s t at standing _ (goes rest q.2) (thread_in code.program slot) (function_named code.program name) (constant arg)
        (creates_as code bodies fits s t at standing locals more slot name arg q.0)
    quiet_acted (bare.Cons (bare.Join slot) rest) q = joined_ready code bodies s t at standing _ (goes rest q.2) (thread_in code.program slot)
    quiet_acted (bare.Cons (bare.InitMutex place) rest) q = initialised_ready code bodies s t at standing _ (goes rest q.2) (mutex_at code.program s locals place)
    quiet_acted (bare.Cons (bare.InitCond place) rest) q = initialised_ready code bodies s t at standing _ (goes rest q.2) (condition_at code.program s locals place)
    quiet_acted (bare.Cons (bare.Lock place) rest) q = absurd q.0
    quiet_acted (bare.Cons (bare.TryLock place a b) rest) q = absurd q.0
    quiet_acted (bare.Cons (bare.Unlock place) rest) q = absurd q.0
    quiet_acted (bare.Cons (bare.Wait cond place takes) rest) q = absurd q.0
    quiet_acted (bare.Cons (bare.Signal cond) rest) q = signalled_ready code bodies s t at standing _ (goes rest q.2) (condition_at code.program s locals cond)
    quiet_acted (bare.Cons (bare.Broadcast cond) rest) q = broadcast_ready code bodies s t at standing _ (goes rest q.2) (condition_at code.program s locals cond)
    quiet_acted (bare.Cons (bare.Take k) rest) q = absurd q.0
    quiet_acted (bare.Cons (bare.Give k) rest) q = absurd q.0
