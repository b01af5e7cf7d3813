-- The acts of a thread whose newest frame has an outline.
use Rattle.std.proofs.Common.{◌≡◌, ℕ, ◌<◌, Bool, true, false, List, [], ◌∷◌, map, Option, Some, None, refl, sym, ap, ◌∙◌, subst, inl, inr}
use Rattle.std.specs.Prelude.{ℤ, ◌+◌, ◌++◌, slice_get, if◌then◌else◌, option_map}
use Rattle.std.proofs.lemmas.Option.{same_Some}
use Rattle.std.specs.FinMap as finite
use Rattle.c_tree.specs.Expressions.{Expr, Exprs, Place}
use Rattle.c_tree.specs.Values.{constant}
use Rattle.c_tree.specs.Bare as bare
use Rattle.c_tree.specs.Numbering.{function_named, thread_in, thread_count, monitor_resource}
use Rattle.c_tree.specs.Lined.{Stmts, Nil, Cons, Declare, Assign, Call, If, While, For, Return, Read, Print, Create, Join, InitMutex, InitCond, Lock, TryLock, Unlock, Wait, Signal, Broadcast, Take, Give, bare_stmts, bare_function}
use Rattle.c_meaning.specs.State.{Locals, Frame, Running, State, frame}
use Rattle.c_meaning.specs.Outcome.{Outcome}
use Rattle.c_meaning.specs.Places.{evaluated, evaluated_if_any, evaluated_all, mutex_at, condition_at}
use Rattle.c_meaning.specs.Branching.{for_begun, loop_of}
use Rattle.c_meaning.specs.Setting.{declared_local}
use Rattle.c_meaning.specs.Calls as calls
use Rattle.c_meaning.specs.Calls.{called}
use Rattle.c_meaning.specs.Locks.{locked, tried, unlocked}
use Rattle.c_meaning.specs.Waits.{waited, waited_by}
use Rattle.c_meaning.specs.Step.{acted_on}
use Rattle.c_meaning.proofs.Reading.{some_is}
use Rattle.outlines.specs.Outline as outline
use Rattle.outlines.specs.Outline.{Part, Parts, joined}
use Rattle.outlines.specs.Moves.{Position, At, Asleep, PartMoves}
use Rattle.edges.specs.declared.EdgeOp.TheVariants as op
use Rattle.contexts.specs.Constants.{Constants, Weaker, among, known_after, known_in, known_end, known_declared, with_value, without, declared_all, before}
use Rattle.contexts.specs.Agreeing.{Agrees, IsScoped}
use Rattle.contexts.specs.Resolved.{resolved, writes_of, passed, constants_of}
use Rattle.contexts.specs.Outlined.{Code, Outlined, IsFirst, IsCreation, forgets, loops, next}
use Rattle.contexts.specs.Shape.{Shape, First, IsInner}
use Rattle.contexts.proofs.Names.{in_neither, without_weaker, without_end, bare_before}
use Rattle.contexts.proofs.Befores.{outlined_before}
use Rattle.contexts.proofs.Agreeing.{after_scoped, agrees_removed}
use Rattle.contexts.proofs.Runs.{resolves_runs, declared_runs, passed_agrees, passed_unwritten}
use Rattle.step_effects.specs.Effects.{OnDone}
use Rattle.reached_states.specs.Lengths.{HasLengths}
use Rattle.outline_runs.specs.Standing.{HasOutline, Stands, StandsAt, Standing}
use Rattle.outline_runs.proofs.Goings.{Moved, plainly, still}
use Rattle.outline_runs.proofs.Ready.{Ready, moves, assigned_ready, read_ready, declared_ready, printed_ready, joined_ready, initialised_ready}
use Rattle.outline_runs.proofs.Wakings.{signalled_ready, broadcast_ready, created_ready}
use Rattle.outline_runs.proofs.Acts.{if_ready, while_ready, returned_ready, locked_here, tried_here, unlocked_here, waited_here, taken_here, given_here}
use Rattle.outline_runs.proofs.Here.{Here, step_to, behind, stays_whole, ended_below}
use Rattle.outline_runs.proofs.Fits.{Fits}

-- what is taken out twice was taken out
without_twice : (names : List (List ℕ)) (known : Constants) → Weaker (without names known) (without names (without names known))
without_twice names known q z e = by (among names q) e
  where
    by : (c : Bool) → (if c then None else known q) ≡ Some z → (if c then None else (if c then None else known q)) ≡ Some z
    by true e = e
    by false e = e

-- ---- what is known behind a declaration

inserted : (p : bare.Program) (writes : List (List ℕ)) (known : Constants) (s : State) (locals : Locals) → Agrees known locals → IsScoped p writes known → (name : List ℕ) (e : Option Expr) (z : ℤ)
    → evaluated_if_any p s locals e ≡ Some (Some z) → Agrees (with_value known name (known_declared writes known name e)) (finite.insert locals name z)
inserted p writes known s locals agrees scoped name None z is = absurd (let bad : Some None ≡ Some (Some z) = is in cc bad)
inserted p writes known s locals agrees scoped name (Some x) z is = declared_runs p writes known s locals agrees scoped name x z (by (evaluated p s locals x) is)
  where
    by : (o : Option ℤ) → option_map (λ z. Some z) o ≡ Some (Some z) → o ≡ Some z
    by None e = absurd (cc e)
    by (Some y) e = some_is (Some y) (Some z) e

removed : (p : bare.Program) (writes : List (List ℕ)) (known : Constants) (s : State) (locals : Locals) → Agrees known locals → (name : List ℕ) (e : Option Expr)
    → evaluated_if_any p s locals e ≡ Some None → Agrees (with_value known name (known_declared writes known name e)) (finite.remove locals name)
removed p writes known s locals agrees name None is = agrees_removed known locals name agrees
removed p writes known s locals agrees name (Some x) is = absurd (never (evaluated p s locals x) is)
  where
    never : (o : Option ℤ) → option_map (λ z. Some z) o ≡ Some None → ⊥
    never None e = cc e
    never (Some z) e = cc e

-- a function that bears no locks is called
pub quiet_called : (code : Code) (bodies : ℕ → Parts) → Fits code bodies → (s : State) (t : ℕ) (at : ℕ → Position) → Standing code s at → (locals : Locals) (more : List Frame)
    (target : Option Place) (name : List ℕ) (args : Exprs) (rest : bare.Stmts) (left : List Parts) → at t ≡ At left → code.bears name ≡ false
    → Stands code (frame locals (bare.Cons (bare.Call target name args) rest) ∷ more) left
    → (fo : Option bare.Function) → function_named code.program name ≡ fo → (o : Option (List ℤ)) → OnDone (called s t (frame locals (bare.Cons (bare.Call target name args) rest) ∷ more) fo o) (Moved code bodies s at)
quiet_called code bodies fits s t at standing locals more target name args rest left is silent there None named o = tt
quiet_called code bodies fits s t at standing locals more target name args rest left is silent there (Some f) named None = tt
quiet_called code bodies fits s t at standing locals more target name args rest left is silent there (Some f) named (Some values) =
    still code bodies s t at standing (Running (frame (calls.passed f.params values) f.body ∷ frame locals (bare.Cons (bare.Call target name args) rest) ∷ more))
    (left, is, inr (fits.quiet name f silent named, silent, there))

module _ (code : Code) (bodies : ℕ → Parts) (fits : Fits code bodies) (s : State) (t : ℕ) (at : ℕ → Position) (standing : Standing code s at) (locals : Locals) (more : List Frame) where
  abbrev Has : Outcome → Type 0
  Has o = OnDone o (Moved code bodies s at)

  -- ---- what comes behind the first statement

  -- the rest, along the plain edge of its part
  abbrev goes_past : (left : Stmts) (h : Here code t at locals more left) (less : Constants) → Weaker less h.known → (rest : Stmts) (x : Part) → First code h.writes less (Some h.end_line) rest x h.xs
      → ((ys : Parts) → PartMoves x ys h.lefts op.Plain (At (ys ∷ h.lefts))) → Ready code bodies t at locals (bare_stmts rest) more
  goes_past left h less weaker rest x first edge =
      step_to code t at locals more left h bodies locals x first.0 first.0 (bare_stmts rest) first.1 (edge first.0) (behind code t at locals more left h less weaker rest first.0 first.2)

  -- the rest, behind a part that has an edge of another kind
  stands_past : (left : Stmts) (h : Here code t at locals more left) (rest : Stmts) (ys : Parts) → Outlined code h.writes h.known (Some h.end_line) rest ys
      → StandsAt code (Running (frame locals (bare_stmts rest) ∷ more)) (At (ys ∷ h.lefts))
  stands_past left h rest ys there = (
    ys ∷ h.lefts,
    refl,
    inl (record { writes = h.writes; xs = ys; lefts = h.lefts; left_is = refl; newest = behind code t at locals more left h h.known (λ q z e. e) rest ys there; callers = h.callers }),
  )

  -- an arm or a body, before what stands behind it
  arm : (left : Stmts) (h : Here code t at locals more left) (low later : Constants) → Weaker low h.known → (a rest : Stmts) (xs ys : Parts) → Outlined code h.writes low None a xs
      → Outlined code h.writes later (Some h.end_line) rest ys → Weaker later (known_end h.writes h.known a)
      → HasOutline code h.writes locals (bare.before (bare_stmts a) (bare_stmts rest)) (joined xs ys)
  arm left h low later weaker a rest xs ys in_arm there end = record {
    known = h.known;
    end_line = h.end_line;
    left = before a rest;
    todo_is = bare_before a rest;
    outlined = outlined_before code h.writes low h.known later (Some h.end_line) a rest xs ys in_arm weaker there end;
    agrees = h.agrees;
    scoped = h.scoped;
  }

  first_arm : (left : Stmts) (h : Here code t at locals more left) (a b rest : Stmts) (xs ys : Parts) → Outlined code h.writes h.known None a xs
      → Outlined code h.writes (without (declared_all a ++ declared_all b) h.known) (Some h.end_line) rest ys
      → HasOutline code h.writes locals (bare.before (bare_stmts a) (bare_stmts rest)) (joined xs ys)
  first_arm left h a b rest xs ys in_arm there = arm left h h.known (without (declared_all a ++ declared_all b) h.known) (λ q z e. e) a rest xs ys in_arm there
      (without_end h.writes (declared_all a ++ declared_all b) h.known a (λ q none. (in_neither q (declared_all a) (declared_all b) none).0))

  second_arm : (left : Stmts) (h : Here code t at locals more left) (a b rest : Stmts) (xs ys : Parts) → Outlined code h.writes h.known None b xs
      → Outlined code h.writes (without (declared_all a ++ declared_all b) h.known) (Some h.end_line) rest ys
      → HasOutline code h.writes locals (bare.before (bare_stmts b) (bare_stmts rest)) (joined xs ys)
  second_arm left h a b rest xs ys in_arm there = arm left h h.known (without (declared_all a ++ declared_all b) h.known) (λ q z e. e) b rest xs ys in_arm there
      (without_end h.writes (declared_all a ++ declared_all b) h.known b (λ q none. (in_neither q (declared_all a) (declared_all b) none).1))

  -- a declaration, and then these statements
  declares : (left : Stmts) (h : Here code t at locals more left) (x : Part) (ys : Parts) → h.xs ≡ outline.Cons x ys → PartMoves x ys h.lefts op.Plain (At (ys ∷ h.lefts))
      → (line : ℕ) (name : List ℕ) (e : Option Expr) (rest : Stmts) (todo : bare.Stmts) → bare_stmts rest ≡ todo
      → Outlined code h.writes (known_after h.writes h.known (Declare line name e)) (Some h.end_line) rest ys
      → Has (declared_local s t locals todo more name (evaluated_if_any code.program s locals e))
  declares left h x ys is edge line name e rest todo todo_is there = declared_ready code bodies s t at standing locals todo more name (evaluated_if_any code.program s locals e)
      (λ z value. step_to code t at locals more left h bodies (finite.insert locals name z) x ys ys todo is edge (record {
        known = known_after h.writes h.known (Declare line name e);
        end_line = h.end_line;
        left = rest;
        todo_is = todo_is;
        outlined = there;
        agrees = inserted code.program h.writes h.known s locals h.agrees h.scoped name e z value;
        scoped = after_scoped code.program h.writes h.known (Declare line name e) h.scoped;
      }))
      (λ value. step_to code t at locals more left h bodies (finite.remove locals name) x ys ys todo is edge (record {
        known = known_after h.writes h.known (Declare line name e);
        end_line = h.end_line;
        left = rest;
        todo_is = todo_is;
        outlined = there;
        agrees = removed code.program h.writes h.known s locals h.agrees name e value;
        scoped = after_scoped code.program h.writes h.known (Declare line name e) h.scoped;
      }))

  -- the first part of a `for`, and then its loop
  module _ (left : Stmts) (h : Here code t at locals more left) (line : ℕ) (test : Expr) (step body rest : Stmts) where
    abbrev loop : Stmts
    loop = Cons (While line test (before body step)) rest

    abbrev loop_todo : bare.Stmts
    loop_todo = bare.Cons (loop_of test (bare_stmts step) (bare_stmts body)) (bare_stmts rest)

    loop_is : bare_stmts loop ≡ loop_todo
    loop_is = ap (λ b. bare.Cons (bare.While test b) (bare_stmts rest)) (bare_before body step)

    abbrev to_loop : (ys : Parts) → h.xs ≡ outline.Cons (outline.Step line) ys → Outlined code h.writes h.known (Some h.end_line) loop ys → Ready code bodies t at locals loop_todo more
    to_loop ys is there = step_to code t at locals more left h bodies locals (outline.Step line) ys ys loop_todo is (refl, refl) (record {
      known = h.known;
      end_line = h.end_line;
      left = loop;
      todo_is = loop_is;
      outlined = there;
      agrees = h.agrees;
      scoped = h.scoped;
    })

    for_acted : (first_part : Stmts) → IsFirst h.writes first_part → First code h.writes (known_end h.writes h.known first_part) (Some h.end_line) loop (outline.Step line) h.xs
        → Has (for_begun code.program s t locals loop_todo more (bare_stmts first_part))
    for_acted Nil ok first = moves code bodies s t at standing locals loop_todo more (to_loop first.0 first.1 first.2)
    for_acted (Cons (Assign l target e) Nil) ok first = assigned_ready code bodies s t at standing locals loop_todo more (to_loop first.0 first.1 first.2) target ok (evaluated code.program s locals e)
    for_acted (Cons (Declare l name e) Nil) ok first = declares left h (outline.Step line) first.0 first.1 (refl, refl) l name e loop loop_todo loop_is first.2
    for_acted ss ok first = absurd ok

  -- a function that bears locks is entered
  entered_acted : (line : ℕ) (target : Option Place) (name : List ℕ) (args : Exprs) (rest : Stmts) (h : Here code t at locals more (Cons (Call line target name args) rest))
      → (e : IsInner code h.writes h.known (Some h.end_line) rest line target name args h.xs) (o : Option (List ℤ)) → evaluated_all code.program s locals args ≡ o
      → Has (called s t (frame locals (bare.Cons (bare.Call target name args) (bare_stmts rest)) ∷ more) (Some (bare_function e.f)) o)
  entered_acted line target name args rest h e None is = tt
  entered_acted line target name args rest h e (Some values) is =
      let inner = writes_of code.program e.f in
      plainly code bodies s t at standing
      (Running (frame (calls.passed e.f.params values) (bare_stmts e.f.body) ∷ frame locals (bare.Cons (bare.Call target name args) (bare_stmts rest)) ∷ more))
      (At (outline.Cons (outline.Inner line e.context e.body) e.behind ∷ h.lefts)) (At (e.body ∷ e.behind ∷ h.lefts)) (
        e.body ∷ e.behind ∷ h.lefts,
        refl,
        inl (record {
          writes = inner;
          xs = e.body;
          lefts = e.behind ∷ h.lefts;
          left_is = refl;
          newest = record {
            known = passed inner e.f.params (constants_of h.known args);
            end_line = e.f.end_line;
            left = e.f.body;
            todo_is = refl;
            outlined = e.inside;
            agrees = passed_agrees code.program inner h.writes h.known s locals h.agrees h.scoped e.f.params args values is;
            scoped = record { unwritten = λ q there. passed_unwritten inner e.f.params (constants_of h.known args) q there; cells = fits.ints e.f };
          };
          callers = ((h.writes, e.target_in, behind code t at locals more (Cons (Call line target name args) rest) h h.known (λ q z e. e) rest e.behind e.rest_is), h.callers);
        }),
      )
      (h.is ∙ ap (λ z. At (z ∷ h.lefts)) e.is) (refl, refl)

  -- ---- a mutex that is resolved is the one at its place

  module _ (left : Stmts) (h : Here code t at locals more left) where
    runs_at : (place : Place) (r : ℕ) → resolved code.program h.known place ≡ Some r → mutex_at code.program s locals place ≡ Some r
    runs_at place r is = resolves_runs code.program h.writes h.known s locals h.agrees h.scoped place r is

    -- what comes first, with what stands behind it
    at_first : (x : Part) (ys : Parts) → h.xs ≡ outline.Cons x ys → at t ≡ At (outline.Cons x ys ∷ h.lefts)
    at_first x ys is = h.is ∙ ap (λ z. At (z ∷ h.lefts)) is

    -- where an arm comes next
    stands_arm : (todo : bare.Stmts) (ys : Parts) → HasOutline code h.writes locals todo ys → StandsAt code (Running (frame locals todo ∷ more)) (At (ys ∷ h.lefts))
    stands_arm todo ys there = (ys ∷ h.lefts, refl, inl (record { writes = h.writes; xs = ys; lefts = h.lefts; left_is = refl; newest = there; callers = h.callers }))

  -- what a create statement begins
  pub creates_as : (slot : Place) (name : List ℕ) (arg : Expr) → IsCreation code.program slot name arg → (u : ℕ) (f : bare.Function) (z : ℤ)
      → thread_in code.program slot ≡ Some u → function_named code.program name ≡ Some f → constant arg ≡ Some z
      → (writes : List (List ℕ)) × HasOutline code writes (calls.passed f.params (z ∷ [])) f.body (bodies u)
  creates_as slot name arg c u f z in_slot named value = fits.begins slot name arg c u f z (same_Some u (c.creation + 1) (sym in_slot ∙ c.thread)) named value

  -- a wait, at a condition that is there
  waits_if : (frames : List Frame) (r : ℕ) → ((c : ℕ) → Has (waited_by s t frames c r (slice_get s.owners r))) → (o : Option ℕ) → Has (waited s t frames o (Some r))
  waits_if frames r waits None = tt
  waits_if frames r waits (Some c) = waits c

  -- ---- each statement

  module _ (lengths : HasLengths code.program s) (within : t < thread_count code.program) where
    pub chain_acted : (left : Stmts) (h : Here code t at locals more left) → Shape code h.writes h.known (Some h.end_line) left h.xs → Has (acted_on code.program s t locals more (bare_stmts left))
    chain_acted Nil h shape = ended_below code bodies s t at standing h.end_line outline.Nil more h.lefts h.callers (at_first Nil h (outline.Leave h.end_line) outline.Nil shape) None
    chain_acted (Cons (Declare line name e) rest) h shape =
        declares (Cons (Declare line name e) rest) h (outline.Step line) shape.1.0 shape.1.1 (refl, refl) line name e rest (bare_stmts rest) refl shape.1.2
    chain_acted (Cons (Assign line target e) rest) h shape =
        assigned_ready code bodies s t at standing locals (bare_stmts rest) more
        (goes_past (Cons (Assign line target e) rest) h _ (without_weaker [] h.known) rest (outline.Step line) shape.1 (λ ys. (refl, refl))) target shape.0 (evaluated code.program s locals e)
    chain_acted (Cons (Read line target) rest) h shape =
        read_ready code bodies s t at standing locals (bare_stmts rest) more
        (goes_past (Cons (Read line target) rest) h _ (without_weaker [] h.known) rest (outline.Step line) shape.1 (λ ys. (refl, refl))) target shape.0
    chain_acted (Cons (Print line format args) rest) h shape =
        printed_ready code bodies s t at standing _ (moves code bodies s t at standing locals (bare_stmts rest) more
        (goes_past (Cons (Print line format args) rest) h _ (without_weaker [] h.known) rest (outline.Step line) shape.1 (λ ys. (refl, refl)))) format (evaluated_all code.program s locals args)
    chain_acted (Cons (InitMutex line place) rest) h shape =
        initialised_ready code bodies s t at standing _ (moves code bodies s t at standing locals (bare_stmts rest) more
        (goes_past (Cons (InitMutex line place) rest) h _ (without_weaker [] h.known) rest (outline.Step line) shape.1 (λ ys. (refl, refl)))) (mutex_at code.program s locals place)
    chain_acted (Cons (InitCond line place) rest) h shape =
        initialised_ready code bodies s t at standing _ (moves code bodies s t at standing locals (bare_stmts rest) more
        (goes_past (Cons (InitCond line place) rest) h _ (without_weaker [] h.known) rest (outline.Step line) shape.1 (λ ys. (refl, refl)))) (condition_at code.program s locals place)
    chain_acted (Cons (Signal line cond) rest) h shape =
        signalled_ready code bodies s t at standing _ (moves code bodies s t at standing locals (bare_stmts rest) more
        (goes_past (Cons (Signal line cond) rest) h _ (without_weaker [] h.known) rest (outline.Step line) shape.1 (λ ys. (refl, refl)))) (condition_at code.program s locals cond)
    chain_acted (Cons (Broadcast line cond) rest) h shape =
        broadcast_ready code bodies s t at standing _ (moves code bodies s t at standing locals (bare_stmts rest) more
        (goes_past (Cons (Broadcast line cond) rest) h _ (without_weaker [] h.known) rest (outline.Step line) shape.1 (λ ys. (refl, refl)))) (condition_at code.program s locals cond)
    chain_acted (Cons (Create line slot name arg) rest) h shape =
        created_ready code bodies s t at standing _ (moves code bodies s t at standing locals (bare_stmts rest) more
        (goes_past (Cons (Create line slot name arg) rest) h _ (without_weaker [] h.known) rest (outline.Step line) shape.1 (λ ys. (refl, refl))))
        (thread_in code.program slot) (function_named code.program name) (constant arg) (creates_as slot name arg shape.0)
    chain_acted (Cons (Join line slot) rest) h shape =
        joined_ready code bodies s t at standing _ (moves code bodies s t at standing locals (bare_stmts rest) more
        (goes_past (Cons (Join line slot) rest) h h.known (λ q z e. e) rest (outline.Join line) shape (λ ys. (refl, refl)))) (thread_in code.program slot)
    chain_acted (Cons (If line test a b) rest) h shape =
        if_ready code bodies s t at standing locals (bare_stmts rest) more (bare_stmts a) (bare_stmts b)
        (step_to code t at locals more (Cons (If line test a b) rest) h bodies locals (outline.Branch line shape.0 shape.1) shape.4.0 (joined shape.0 shape.4.0) _ shape.4.1 (inl (refl, refl))
        (first_arm (Cons (If line test a b) rest) h a b rest shape.0 shape.4.0 shape.2 shape.4.2))
        (step_to code t at locals more (Cons (If line test a b) rest) h bodies locals (outline.Branch line shape.0 shape.1) shape.4.0 (joined shape.1 shape.4.0) _ shape.4.1 (inr (refl, refl))
        (second_arm (Cons (If line test a b) rest) h a b rest shape.1 shape.4.0 shape.3 shape.4.2))
        (evaluated code.program s locals test)
    chain_acted (Cons (While line test a) rest) h shape =
        let loop : Stmts = Cons (While line test a) rest in
        let part : Part = outline.Loop line shape.0 in
        let twice = without_twice (declared_all a) h.known in
        while_ready code bodies s t at standing locals (bare_stmts rest) more test (bare_stmts a)
        (step_to code t at locals more loop h bodies locals part shape.2.0 (joined shape.0 (outline.Cons part shape.2.0)) _ shape.2.1 (inl (refl, refl))
        (arm loop h (known_in h.known a) (known_in h.known a) (without_weaker (declared_all a) h.known) a loop shape.0 (outline.Cons part shape.2.0) shape.1
        (next (While line test a) part (loops line test (forgets (known_in h.known a) twice shape.1)) (forgets (known_in h.known a) twice shape.2.2))
        (without_end h.writes (declared_all a) h.known a (λ q e. e))))
        (goes_past loop h (known_in h.known a) (without_weaker (declared_all a) h.known) rest part shape.2 (λ ys. inr (refl, refl)))
        (evaluated code.program s locals test)
    chain_acted (Cons (For line first_part test step body) rest) h shape =
        for_acted (Cons (For line first_part test step body) rest) h line test step body rest first_part shape.0 shape.1
    chain_acted (Cons (Call line target name args) rest) h (inl plain) =
        quiet_called code bodies fits s t at standing locals more target name args (bare_stmts rest) (h.xs ∷ h.lefts) h.is plain.0.0
        (stays_whole code t at locals more (Cons (Call line target name args) rest) h) (function_named code.program name) refl (evaluated_all code.program s locals args)
    chain_acted (Cons (Call line target name args) rest) h (inr e) =
        subst (λ fo. Has (called s t (frame locals (bare.Cons (bare.Call target name args) (bare_stmts rest)) ∷ more) fo (evaluated_all code.program s locals args))) (sym (fits.same name (e.place, e.f) e.named))
        (entered_acted line target name args rest h e (evaluated_all code.program s locals args) refl)
    chain_acted (Cons (Return line e) rest) h shape =
        returned_ready code bodies s t at standing more
        (ended_below code bodies s t at standing line shape.0 more h.lefts h.callers (at_first (Cons (Return line e) rest) h (outline.Leave line) shape.0 shape.1)) (evaluated_if_any code.program s locals e)
    chain_acted (Cons (Lock line place) rest) h shape =
        subst (λ o. Has (locked s t (frame locals (bare_stmts rest) ∷ more) o)) (sym (runs_at (Cons (Lock line place) rest) h place shape.0 shape.1))
        (locked_here code bodies s t at standing lengths (frame locals (bare_stmts rest) ∷ more) shape.0 (At (outline.Cons (outline.Acquire line shape.0) shape.2.0 ∷ h.lefts)) (At (shape.2.0 ∷ h.lefts))
        (at_first (Cons (Lock line place) rest) h (outline.Acquire line shape.0) shape.2.0 shape.2.1) (refl, refl) (stands_past (Cons (Lock line place) rest) h rest shape.2.0 shape.2.2))
    chain_acted (Cons (Unlock line place) rest) h shape =
        subst (λ o. Has (unlocked s t (frame locals (bare_stmts rest) ∷ more) o)) (sym (runs_at (Cons (Unlock line place) rest) h place shape.0 shape.1))
        (unlocked_here code bodies s t at standing lengths (frame locals (bare_stmts rest) ∷ more) shape.0 (At (outline.Cons (outline.Release line shape.0) shape.2.0 ∷ h.lefts)) (At (shape.2.0 ∷ h.lefts))
        (at_first (Cons (Unlock line place) rest) h (outline.Release line shape.0) shape.2.0 shape.2.1) (refl, refl) (stands_past (Cons (Unlock line place) rest) h rest shape.2.0 shape.2.2))
    chain_acted (Cons (TryLock line place a b) rest) h shape =
        let left : Stmts = Cons (TryLock line place a b) rest in
        let part : Part = outline.Try line shape.0 shape.1 shape.2 in
        subst (λ o. Has (tried s t (frame locals (bare.before (bare_stmts a) (bare_stmts rest)) ∷ more) (frame locals (bare.before (bare_stmts b) (bare_stmts rest)) ∷ more) o))
        (sym (runs_at left h place shape.0 shape.3))
        (tried_here code bodies s t at standing lengths _ _ shape.0 (At (outline.Cons part shape.6.0 ∷ h.lefts)) (At (joined shape.1 shape.6.0 ∷ h.lefts)) (At (joined shape.2 shape.6.0 ∷ h.lefts))
        (at_first left h part shape.6.0 shape.6.1) (inl (refl, refl)) (stands_arm left h _ _ (first_arm left h a b rest shape.1 shape.6.0 shape.4 shape.6.2))
        (inr (refl, refl)) (stands_arm left h _ _ (second_arm left h a b rest shape.2 shape.6.0 shape.5 shape.6.2)))
    chain_acted (Cons (Wait line cond place takes) rest) h shape =
        let left : Stmts = Cons (Wait line cond place takes) rest in
        let taken : List ℕ = map (monitor_resource code.program) takes in
        subst (λ o. Has (waited s t (frame locals (bare.Cons (bare.Wait cond place takes) (bare_stmts rest)) ∷ more) (condition_at code.program s locals cond) o))
        (sym (runs_at left h place shape.0 shape.1))
        (waits_if (frame locals (bare.Cons (bare.Wait cond place takes) (bare_stmts rest)) ∷ more) shape.0
        (λ c. waited_here code bodies s t at standing lengths (frame locals (bare.Cons (bare.Wait cond place takes) (bare_stmts rest)) ∷ more) c shape.0
        (At (outline.Cons (outline.Wait line shape.0 taken) shape.2.0 ∷ h.lefts)) (Asleep shape.0 taken (shape.2.0 ∷ h.lefts))
        (at_first left h (outline.Wait line shape.0 taken) shape.2.0 shape.2.1) (refl, refl)
        (shape.2.0 ∷ h.lefts, refl, ((h.writes, behind code t at locals more left h h.known (λ q z e. e) rest shape.2.0 shape.2.2), h.callers)))
        (condition_at code.program s locals cond))
    chain_acted (Cons (Take line k) rest) h shape =
        taken_here code bodies s t at standing lengths within (Running (frame locals (bare_stmts rest) ∷ more)) k
        (At (outline.Cons (outline.Acquire line (monitor_resource code.program k)) shape.0 ∷ h.lefts)) (At (shape.0 ∷ h.lefts))
        (at_first (Cons (Take line k) rest) h (outline.Acquire line (monitor_resource code.program k)) shape.0 shape.1) (refl, refl)
        (stands_past (Cons (Take line k) rest) h rest shape.0 shape.2) (slice_get code.program.monitors k)
    chain_acted (Cons (Give line k) rest) h shape =
        given_here code bodies s t at standing lengths within (frame locals (bare_stmts rest) ∷ more) k
        (At (outline.Cons (outline.Release line (monitor_resource code.program k)) shape.0 ∷ h.lefts)) (At (shape.0 ∷ h.lefts))
        (at_first (Cons (Give line k) rest) h (outline.Release line (monitor_resource code.program k)) shape.0 shape.1) (refl, refl)
        (stands_past (Cons (Give line k) rest) h rest shape.0 shape.2)
