-- A thread that can go on: along its outline, or inside a function that bears no locks.
use Rattle.std.proofs.Common.{◌≡◌, ℕ, true, List, [], ◌∷◌, Option, Some, None, refl, subst, ◌⊎◌, inl, inr, arith}
use Rattle.std.specs.Prelude.{ℤ, ⊤, slice_get, option_map, option_and_then}
use Rattle.std.specs.FinMap as finite
use Rattle.c_tree.specs.Everywhere.{Everywhere}
use Rattle.c_tree.specs.Expressions.{Place}
use Rattle.c_tree.specs.Bare as bare
use Rattle.c_tree.specs.Numbering.{scalar_cell, element_cell}
use Rattle.c_meaning.specs.State.{Locals, Frame, Status, NotBegun, Running, Waiting, Reacquiring, Ended, State, frame, goes_on}
use Rattle.c_meaning.specs.Outcome.{Outcome}
use Rattle.c_meaning.specs.Places.{Target, Cell, Local, evaluated_if_any, target_at, target_at_index, scalar_target}
use Rattle.c_meaning.specs.Setting.{assigned, declared_local, read_into}
use Rattle.c_meaning.specs.Printing.{printed}
use Rattle.c_meaning.specs.Threads.{joined, joined_to}
use Rattle.c_meaning.specs.Locks.{initialised}
use Rattle.c_meaning.specs.Calls.{result_set}
use Rattle.outlines.specs.Outline.{Parts}
use Rattle.outlines.specs.Moves.{Position, At, MovesTo}
use Rattle.edges.specs.declared.EdgeOp.TheVariants as op
use Rattle.contexts.specs.Constants.{among}
use Rattle.contexts.specs.Outlined.{Code, IsTarget}
use Rattle.contexts.specs.Quiet.{IsQuiet}
use Rattle.contexts.proofs.Agreeing.{agrees_set}
use Rattle.step_effects.specs.Effects.{OnDone}
use Rattle.outline_runs.specs.Standing.{HasOutline, Callers, OverQuietCall, Stands, Standing}
use Rattle.outline_runs.proofs.Goings.{Moved, plainly, still}

-- the thread's next edge is plain, and then it has `todo` to do
pub record Next (code : Code) (bodies : ℕ → Parts) (t : ℕ) (at : ℕ → Position) (locals : Locals) (todo : bare.Stmts) (more : List Frame) : Type 0 where
  pub x : Position
  pub is : at t ≡ x
  pub ys : Parts
  pub lefts : List Parts
  pub edge : MovesTo (bodies t) x op.Plain (At (ys ∷ lefts))
  pub writes : List (List ℕ)
  pub outline : HasOutline code writes locals todo ys
  pub callers : Callers code more lefts

-- the thread stays at a call of a function that bears no locks
pub record Within (code : Code) (t : ℕ) (at : ℕ → Position) (todo : bare.Stmts) (more : List Frame) : Type 0 where
  pub left : List Parts
  pub is : at t ≡ At left
  pub quiet : Everywhere (IsQuiet code) todo
  pub over : OverQuietCall code more
  pub below : Stands code more left

abbrev pub Ready : Code → (ℕ → Parts) → ℕ → (ℕ → Position) → Locals → bare.Stmts → List Frame → Type 0
Ready code bodies t at locals todo more = Next code bodies t at locals todo more ⊎ Within code t at todo more

-- the target, where there is one, may be set
abbrev pub MaySet : (code : Code) (bodies : ℕ → Parts) (t : ℕ) (at : ℕ → Position) (locals : Locals) (todo : bare.Stmts) (more : List Frame) → Ready code bodies t at locals todo more → Option Place → Type 0
MaySet code bodies t at locals todo more (inl n) target = IsTarget n.writes target
MaySet code bodies t at locals todo more (inr w) target = ⊤

outline_set : (code : Code) (writes : List (List ℕ)) (locals : Locals) (todo : bare.Stmts) (xs : Parts) (name : List ℕ) (z : ℤ) → among writes name ≡ true → HasOutline code writes locals todo xs
    → HasOutline code writes (finite.insert locals name z) todo xs
outline_set code writes locals todo xs name z ok c = record {
  known = c.known;
  end_line = c.end_line;
  left = c.left;
  todo_is = c.todo_is;
  outlined = c.outlined;
  agrees = agrees_set c.known locals name z c.agrees (c.scoped.unwritten name ok);
  scoped = c.scoped;
}

-- a local that a target stands for has the target's name
local_name : (p : bare.Program) (s : State) (locals : Locals) (target : Place) (name : List ℕ) → target_at p s locals target ≡ Some (Local name) → target.name ≡ name
local_name p s locals target name e = by (evaluated_if_any p s locals target.index) e
  where
    scalar : (o : Option ℕ) → Some (scalar_target target.name o) ≡ Some (Local name) → target.name ≡ name
    scalar None e = grind arith
    scalar (Some cell) e = absurd (cc e)

    member : (o : Option ℕ) → option_map (λ cell. Cell cell) o ≡ Some (Local name) → target.name ≡ name
    member None e = absurd (cc e)
    member (Some cell) e = absurd (cc e)

    by : (o : Option (Option ℤ)) → option_and_then (target_at_index p target.name) o ≡ Some (Local name) → target.name ≡ name
    by None e = absurd (cc e)
    by (Some None) e = scalar (scalar_cell p target.name) e
    by (Some (Some i)) e = member (element_cell p target.name i) e

module _ (code : Code) (bodies : ℕ → Parts) (s : State) (t : ℕ) (at : ℕ → Position) (standing : Standing code s at) where
  abbrev Has : Outcome → Type 0
  Has o = OnDone o (Moved code bodies s at)

  module _ (locals : Locals) (todo : bare.Stmts) (more : List Frame) where
    ready_set : (g : Ready code bodies t at locals todo more) (target : Place) (name : List ℕ) (z : ℤ) → target.name ≡ name → MaySet code bodies t at locals todo more g (Some target)
        → Ready code bodies t at (finite.insert locals name z) todo more
    ready_set (inl n) target name z same ok = inl (record {
      x = n.x;
      is = n.is;
      ys = n.ys;
      lefts = n.lefts;
      edge = n.edge;
      writes = n.writes;
      outline = outline_set code n.writes locals todo n.ys name z (subst (λ q. among n.writes q ≡ true) same ok) n.outline;
      callers = n.callers;
    })
    ready_set (inr w) target name z same ok = inr w

    pub moves : Ready code bodies t at locals todo more → Moved code bodies s at (goes_on s t (frame locals todo ∷ more))
    moves (inl n) = plainly code bodies s t at standing (Running (frame locals todo ∷ more)) n.x (At (n.ys ∷ n.lefts))
        (n.ys ∷ n.lefts, refl, inl (record { writes = n.writes; xs = n.ys; lefts = n.lefts; left_is = refl; newest = n.outline; callers = n.callers })) n.is n.edge
    moves (inr w) = still code bodies s t at standing (Running (frame locals todo ∷ more)) (w.left, w.is, inr (w.quiet, w.over, w.below))

  module _ (locals : Locals) (todo : bare.Stmts) (more : List Frame) (g : Ready code bodies t at locals todo more) where
    sets_local : (target : Place) (name : List ℕ) (z : ℤ) → target.name ≡ name → MaySet code bodies t at locals todo more g (Some target)
        → Moved code bodies s at (goes_on s t (frame (finite.insert locals name z) todo ∷ more))
    sets_local target name z same ok = moves (finite.insert locals name z) todo more (ready_set locals todo more g target name z same ok)

    assigns : (target : Place) → MaySet code bodies t at locals todo more g (Some target) → (o : Option Target) (z : Option ℤ) → target_at code.program s locals target ≡ o
        → Has (assigned s t locals todo more o z)
    assigns target ok (Some (Cell cell)) (Some z) is = moves locals todo more g
    assigns target ok (Some (Local name)) (Some z) is = sets_local target name z (local_name code.program s locals target name is) ok
    assigns target ok (Some (Cell cell)) None is = tt
    assigns target ok (Some (Local name)) None is = tt
    assigns target ok None z is = tt

    pub assigned_ready : (target : Place) → MaySet code bodies t at locals todo more g (Some target) → (z : Option ℤ) → Has (assigned s t locals todo more (target_at code.program s locals target) z)
    assigned_ready target ok z = assigns target ok (target_at code.program s locals target) z refl

    pub result_ready : (target : Option Place) (result : Option ℤ) → MaySet code bodies t at locals todo more g target → Has (result_set code.program s t locals todo more target result)
    result_ready None result ok = moves locals todo more g
    result_ready (Some target) result ok = assigned_ready target ok result

    reads : (target : Place) → MaySet code bodies t at locals todo more g (Some target) → (o : Option Target) (input : List ℤ) → target_at code.program s locals target ≡ o
        → Has (read_into s t locals todo more o input)
    reads target ok (Some (Cell cell)) (z ∷ input) is = moves locals todo more g
    reads target ok (Some (Local name)) (z ∷ input) is = sets_local target name z (local_name code.program s locals target name is) ok
    reads target ok (Some (Cell cell)) [] is = moves locals todo more g
    reads target ok (Some (Local name)) [] is = moves locals todo more g
    reads target ok None input is = tt

    pub read_ready : (target : Place) → MaySet code bodies t at locals todo more g (Some target) → Has (read_into s t locals todo more (target_at code.program s locals target) s.input)
    read_ready target ok = reads target ok (target_at code.program s locals target) s.input refl

  -- a declaration
  pub declared_ready : (locals : Locals) (todo : bare.Stmts) (more : List Frame) (name : List ℕ) (o : Option (Option ℤ))
      → ((z : ℤ) → o ≡ Some (Some z) → Ready code bodies t at (finite.insert locals name z) todo more) → (o ≡ Some None → Ready code bodies t at (finite.remove locals name) todo more)
      → Has (declared_local s t locals todo more name o)
  declared_ready locals todo more name None set removed = tt
  declared_ready locals todo more name (Some None) set removed = moves (finite.remove locals name) todo more (removed refl)
  declared_ready locals todo more name (Some (Some z)) set removed = moves (finite.insert locals name z) todo more (set z refl)

  -- what goes on as it stands
  module _ (frames : List Frame) (goes : Moved code bodies s at (goes_on s t frames)) where
    pub printed_ready : (format : List ℕ) (o : Option (List ℤ)) → Has (printed s t frames format o)
    printed_ready format None = tt
    printed_ready format (Some values) = goes

    pub initialised_ready : (o : Option ℕ) → Has (initialised s t frames o)
    initialised_ready None = tt
    initialised_ready (Some object) = goes

    pub joined_ready : (o : Option ℕ) → Has (joined s t frames o)
    joined_ready None = tt
    joined_ready (Some u) = by (slice_get s.threads u)
      where
        by : (o : Option Status) → Has (joined_to s t frames u o)
        by None = tt
        by (Some NotBegun) = tt
        by (Some (Running fs)) = tt
        by (Some (Waiting c m fs)) = tt
        by (Some (Reacquiring m ks fs)) = tt
        by (Some Ended) = goes
