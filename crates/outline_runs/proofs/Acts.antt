-- Acts of one thread, whichever frames it goes on with.
use Rattle.std.proofs.Common.{◌≡◌, ℕ, zero, suc, ◌<◌, Bool, true, false, List, ◌∷◌, Option, Some, None, refl, ap, ◌∙◌}
use Rattle.std.specs.Prelude.{ℤ, ◌==◌, nat_lt, sum, slice_get, slice_set, if◌then◌else◌}
use Rattle.std.proofs.lemmas.Bool.{eqb-true}
use Rattle.c_tree.specs.Expressions.{Expr}
use Rattle.c_tree.specs.Values.{is_true}
use Rattle.c_tree.specs.Bare as bare
use Rattle.c_tree.specs.Numbering.{monitor_resource, thread_count}
use Rattle.c_meaning.specs.declared.Did.TheVariants as did
use Rattle.c_meaning.specs.State.{Locals, Frame, Status, Running, Waiting, State, frame, goes_on, with_status}
use Rattle.c_meaning.specs.Outcome.{Outcome, NotEnabled, Undefined, Done}
use Rattle.c_meaning.specs.Branching.{branched, looped}
use Rattle.c_meaning.specs.Calls.{frame_ended, returned}
use Rattle.c_meaning.specs.Locks.{held_by, holding, locked, locked_by, tried, tried_by, unlocked, unlocked_by, taken, given, given_from}
use Rattle.c_meaning.specs.Waits.{waited_by}
use Rattle.edges.specs.declared.EdgeOp.TheVariants as op
use Rattle.outlines.specs.Outline.{Parts}
use Rattle.outlines.specs.Moves.{Position, MovesTo}
use Rattle.contexts.specs.Outlined.{Code}
use Rattle.step_effects.specs.Effects.{OnDone}
use Rattle.reached_states.specs.Lengths.{HasLengths}
use Rattle.outline_runs.specs.Standing.{StandsAt, Standing}
use Rattle.outline_runs.proofs.Holdings.{locked_more, unlocked_less, taken_more, given_less}
use Rattle.outline_runs.proofs.Goings.{Moved, plainly, acquires, tries, releases}
use Rattle.outline_runs.proofs.Ready.{Ready, moves}

module _ (code : Code) (bodies : ℕ → Parts) (s : State) (t : ℕ) (at : ℕ → Position) (standing : Standing code s at) where
  abbrev Has : Outcome → Type 0
  Has o = OnDone o (Moved code bodies s at)

  -- ---- what a test picks

  picked : (locals : Locals) (more : List Frame) (a b : bare.Stmts) → Ready code bodies t at locals a more → Ready code bodies t at locals b more → (c : Bool)
      → Moved code bodies s at (goes_on s t (frame locals (if c then a else b) ∷ more))
  picked locals more a b ga gb true = moves code bodies s t at standing locals a more ga
  picked locals more a b ga gb false = moves code bodies s t at standing locals b more gb

  pub if_ready : (locals : Locals) (rest : bare.Stmts) (more : List Frame) (a b : bare.Stmts) → Ready code bodies t at locals (bare.before a rest) more → Ready code bodies t at locals (bare.before b rest) more
      → (o : Option ℤ) → Has (branched s t locals rest more a b o)
  if_ready locals rest more a b ga gb None = tt
  if_ready locals rest more a b ga gb (Some z) = by (is_true z)
    where
      by : (c : Bool) → Moved code bodies s at (goes_on s t (frame locals (bare.before (if c then a else b) rest) ∷ more))
      by true = moves code bodies s t at standing locals (bare.before a rest) more ga
      by false = moves code bodies s t at standing locals (bare.before b rest) more gb

  pub while_ready : (locals : Locals) (rest : bare.Stmts) (more : List Frame) (test : Expr) (body : bare.Stmts) → Ready code bodies t at locals (bare.before body (bare.Cons (bare.While test body) rest)) more
      → Ready code bodies t at locals rest more → (o : Option ℤ) → Has (looped s t locals rest more test body o)
  while_ready locals rest more test body ga gb None = tt
  while_ready locals rest more test body ga gb (Some z) = picked locals more (bare.before body (bare.Cons (bare.While test body) rest)) rest ga gb (is_true z)

  -- ---- returns

  pub returned_ready : (more : List Frame) → ((result : Option ℤ) → Has (frame_ended code.program s t more result)) → (o : Option (Option ℤ)) → Has (returned code.program s t more o)
  returned_ready more ends None = tt
  returned_ready more ends (Some result) = ends result

  -- ---- mutexes

  module _ (lengths : HasLengths code.program s) where
    pub locked_here : (frames : List Frame) (r : ℕ) (x y : Position) → at t ≡ x → MovesTo (bodies t) x (op.Acquire r) y → StandsAt code (Running frames) y → Has (locked s t frames (Some r))
    locked_here frames r x y is edge there = by (slice_get s.owners r) refl
      where
        by : (o : Option (Option ℕ)) → slice_get s.owners r ≡ o → Has (locked_by s t frames r o)
        by None e = tt
        by (Some (Some owner)) e = tt
        by (Some None) e =
            let next : State = record (goes_on s t frames) { owners = slice_set s.owners r (Some t) } in
            acquires code bodies s t at standing next (Running frames) x y r refl there is edge (locked_more code.program s lengths t r next e refl refl)

    pub tried_here : (taken_arm busy_arm : List Frame) (r : ℕ) (x y z : Position) → at t ≡ x → MovesTo (bodies t) x (op.Try r) y → StandsAt code (Running taken_arm) y
        → MovesTo (bodies t) x op.Plain z → StandsAt code (Running busy_arm) z → Has (tried s t taken_arm busy_arm (Some r))
    tried_here taken_arm busy_arm r x y z is edge there other_edge other = by (slice_get s.owners r) refl
      where
        by : (o : Option (Option ℕ)) → slice_get s.owners r ≡ o → Has (tried_by s t taken_arm busy_arm r o)
        by None e = tt
        by (Some (Some owner)) e = plainly code bodies s t at standing (Running busy_arm) x z other is other_edge
        by (Some None) e =
            let next : State = record (goes_on s t taken_arm) { owners = slice_set s.owners r (Some t) } in
            tries code bodies s t at standing next (Running taken_arm) x y r refl there is edge (locked_more code.program s lengths t r next e refl refl)

    -- the thread owns the mutex that it releases
    owned : (r owner : ℕ) → slice_get s.owners r ≡ Some (Some owner) → (owner == t) ≡ true → slice_get s.owners r ≡ Some (Some t)
    owned r owner e same = e ∙ ap (λ n. Some (Some n)) (eqb-true owner t same)

    pub unlocked_here : (frames : List Frame) (r : ℕ) (x y : Position) → at t ≡ x → MovesTo (bodies t) x (op.Release r) y → StandsAt code (Running frames) y → Has (unlocked s t frames (Some r))
    unlocked_here frames r x y is edge there = by (slice_get s.owners r) refl
      where
        go : (owner : ℕ) → slice_get s.owners r ≡ Some (Some owner) → (b : Bool) → (owner == t) ≡ b
            → Has (if b then Done (did.Unlock r) (record (goes_on s t frames) { owners = slice_set s.owners r None }) else Undefined)
        go owner e false same = tt
        go owner e true same =
            let next : State = record (goes_on s t frames) { owners = slice_set s.owners r None } in
            releases code bodies s t at standing next (Running frames) x y r refl there is edge (unlocked_less code.program s lengths t r next (owned r owner e same) refl refl)

        by : (o : Option (Option ℕ)) → slice_get s.owners r ≡ o → Has (unlocked_by s t frames r o)
        by None e = tt
        by (Some None) e = tt
        by (Some (Some owner)) e = go owner e (owner == t) refl

    pub waited_here : (frames : List Frame) (c r : ℕ) (x y : Position) → at t ≡ x → MovesTo (bodies t) x (op.Release r) y → StandsAt code (Waiting c r frames) y
        → Has (waited_by s t frames c r (slice_get s.owners r))
    waited_here frames c r x y is edge there = by (slice_get s.owners r) refl
      where
        go : (owner : ℕ) → slice_get s.owners r ≡ Some (Some owner) → (b : Bool) → (owner == t) ≡ b
            → Has (if b then Done (did.Wait r) (record (with_status s t (Waiting c r frames)) { owners = slice_set s.owners r None }) else Undefined)
        go owner e false same = tt
        go owner e true same =
            let next : State = record (with_status s t (Waiting c r frames)) { owners = slice_set s.owners r None } in
            releases code bodies s t at standing next (Waiting c r frames) x y r refl there is edge (unlocked_less code.program s lengths t r next (owned r owner e same) refl refl)

        by : (o : Option (Option ℕ)) → slice_get s.owners r ≡ o → Has (waited_by s t frames c r o)
        by None e = tt
        by (Some None) e = tt
        by (Some (Some owner)) e = go owner e (owner == t) refl

    -- ---- monitors

    module _ (within : t < thread_count code.program) where
      pub taken_here : (new : Status) (k : ℕ) (x y : Position) → at t ≡ x → MovesTo (bodies t) x (op.Acquire (monitor_resource code.program k)) y → StandsAt code new y
          → (capacity : Option ℕ) → Has (taken s t new k capacity (slice_get s.tokens k))
      taken_here new k x y is edge there capacity = by capacity (slice_get s.tokens k) refl
        where
          go : (row : List ℕ) → slice_get s.tokens k ≡ Some row → (b : Bool) → Has (if b then Done (did.Take k) (holding s t new k row (suc (held_by row t))) else NotEnabled)
          go row e false = tt
          go row e true =
              let next : State = holding s t new k row (suc (held_by row t)) in
              acquires code bodies s t at standing next new x y (monitor_resource code.program k) refl there is edge (taken_more code.program s lengths t within k row e next refl refl)

          by : (c : Option ℕ) (o : Option (List ℕ)) → slice_get s.tokens k ≡ o → Has (taken s t new k c o)
          by None o e = tt
          by (Some c) None e = tt
          by (Some c) (Some row) e = go row e (nat_lt (sum row) c)

      pub given_here : (frames : List Frame) (k : ℕ) (x y : Position) → at t ≡ x → MovesTo (bodies t) x (op.Release (monitor_resource code.program k)) y → StandsAt code (Running frames) y
          → Has (given s t frames k (slice_get s.tokens k))
      given_here frames k x y is edge there = by (slice_get s.tokens k) refl
        where
          go : (row : List ℕ) → slice_get s.tokens k ≡ Some row → (n : ℕ) → held_by row t ≡ n → Has (given_from s t frames k row n)
          go row e zero held = tt
          go row e (suc left) held =
              let next : State = holding s t (Running frames) k row left in
              releases code bodies s t at standing next (Running frames) x y (monitor_resource code.program k) refl there is edge (given_less code.program s lengths t within k row e left next held refl refl)

          by : (o : Option (List ℕ)) → slice_get s.tokens k ≡ o → Has (given s t frames k o)
          by None e = tt
          by (Some row) e = go row e (held_by row t) refl
