-- What a thread wants is the resource of its next edge.
use Rattle.std.proofs.Common.{◌≡◌, ℕ, List, [], ◌∷◌, map, Option, Some, None, refl, sym, ap, ◌∙◌, subst, inl, inr}
use Rattle.std.specs.Prelude.{IsTrue, slice_get, option_map}
use Rattle.std.proofs.lemmas.Bool.{eq-eqb}
use Rattle.std.proofs.lemmas.Option.{same_Some}
use Rattle.c_tree.specs.Bare as bare
use Rattle.c_tree.specs.Everywhere.{Everywhere}
use Rattle.c_tree.specs.Numbering.{monitor_resource}
use Rattle.c_tree.specs.Lined.{Stmts, Nil, Cons, Lock, Take, bare_stmts}
use Rattle.c_meaning.specs.State.{Locals, Frame, Status, NotBegun, Running, Waiting, Reacquiring, Ended, State}
use Rattle.c_meaning.specs.Stuck.{monitor_at, acquired, needed_again, wanted}
use Rattle.edges.specs.declared.EdgeOp.{EdgeOp}
use Rattle.edges.specs.declared.EdgeOp.TheVariants as op
use Rattle.edges.specs.Ops.{blocks}
use Rattle.outlines.specs.Outline as outline
use Rattle.outlines.specs.Outline.{Part, Parts}
use Rattle.outlines.specs.Moves.{Position, At, Woken, MovesTo}
use Rattle.contexts.specs.Outlined.{Code}
use Rattle.contexts.specs.Quiet.{IsQuiet}
use Rattle.contexts.specs.Shape.{Shape}
use Rattle.contexts.proofs.Runs.{resolves_runs}
use Rattle.outline_runs.specs.Standing.{Stands, StandsIf}
use Rattle.outline_runs.specs.Laws.{WantedComesNext}
use Rattle.outline_runs.proofs.Here.{Here, shape_of, here_of}

-- an edge from here waits for the resource
abbrev pub Waits : Parts → Position → ℕ → Type 0
Waits body x r = (does : EdgeOp) × (y : Position) × MovesTo body x does y × IsTrue (blocks does r)

monitor_is : (p : bare.Program) (k r : ℕ) → monitor_at p k ≡ Some r → monitor_resource p k ≡ r
monitor_is p k r e = by (slice_get p.monitors k) e
  where
    by : (o : Option ℕ) → option_map (λ capacity. monitor_resource p k) o ≡ Some r → monitor_resource p k ≡ r
    by None e = absurd (cc e)
    by (Some capacity) e = same_Some (monitor_resource p k) r e

module _ (code : Code) (s : State) (t r : ℕ) (body : Parts) (at : ℕ → Position) where
  -- the part that comes first takes it
  acquires : (locals : Locals) (more : List Frame) (left : Stmts) (h : Here code t at locals more left) (line q : ℕ) (ys : Parts) → h.xs ≡ outline.Cons (outline.Acquire line q) ys → q ≡ r → Waits body (at t) r
  acquires locals more left h line q ys is same = (
    op.Acquire q,
    At (ys ∷ h.lefts),
    subst (λ z. MovesTo body z (op.Acquire q) (At (ys ∷ h.lefts))) (sym (h.is ∙ ap (λ z. At (z ∷ h.lefts)) is)) (refl, refl),
    eq-eqb q r same,
  )

  chain_wants : (locals : Locals) (more : List Frame) (left : Stmts) (h : Here code t at locals more left) → Shape code h.writes h.known (Some h.end_line) left h.xs
      → acquired code.program s locals (bare_stmts left) ≡ Some r → Waits body (at t) r
  chain_wants locals more Nil h shape e = absurd (cc e)
  chain_wants locals more (Cons (Lock line place) rest) h shape e =
      let runs = resolves_runs code.program h.writes h.known s locals h.agrees h.scoped place shape.0 shape.1 in
      acquires locals more (Cons (Lock line place) rest) h line shape.0 shape.2.0 shape.2.1 (same_Some shape.0 r (sym runs ∙ e))
  chain_wants locals more (Cons (Take line k) rest) h shape e =
      acquires locals more (Cons (Take line k) rest) h line (monitor_resource code.program k) shape.0 shape.1 (monitor_is code.program k r e)
  chain_wants locals more (Cons act rest) h shape e = absurd (cc e)

  -- a function that bears no locks takes nothing
  quiet_wants : (locals : Locals) (todo : bare.Stmts) → Everywhere (IsQuiet code) todo → acquired code.program s locals todo ≡ Some r → ⊥
  quiet_wants locals bare.Nil q e = cc e
  quiet_wants locals (bare.Cons (bare.Lock place) rest) q e = q.0
  quiet_wants locals (bare.Cons (bare.Take k) rest) q e = q.0
  quiet_wants locals (bare.Cons act rest) q e = cc e

  frames_want : (frames : List Frame) (left : List Parts) → at t ≡ At left → Stands code frames left → wanted code.program s (Some (Running frames)) ≡ Some r → Waits body (at t) r
  frames_want [] left is there e = absurd there
  frames_want (f ∷ fs) left is (inl c) e =
      chain_wants f.locals fs c.newest.left (here_of code t at f fs left is c) (shape_of code c.writes f.locals f.todo c.xs c.newest).shape
      (ap (acquired code.program s f.locals) c.newest.todo_is ∙ e)
  frames_want (f ∷ fs) left is (inr q) e = absurd (quiet_wants f.locals f.todo q.0 e)

  again_wants : (m : ℕ) (takes : List ℕ) (left : List Parts) → at t ≡ Woken m (map (monitor_resource code.program) takes) left → needed_again code.program m takes ≡ Some r → Waits body (at t) r
  again_wants m [] left is e = (
    op.Reacquire m,
    At left,
    subst (λ z. MovesTo body z (op.Reacquire m) (At left)) (sym is) (refl, refl),
    eq-eqb m r (same_Some m r e),
  )
  again_wants m (k ∷ takes) left is e =
      let next : Position = Woken m (map (monitor_resource code.program) takes) left in (
        op.Acquire (monitor_resource code.program k),
        next,
        subst (λ z. MovesTo body z (op.Acquire (monitor_resource code.program k)) next) (sym is) (refl, refl),
        eq-eqb (monitor_resource code.program k) r (monitor_is code.program k r e),
      )

  status_wants : (o : Option Status) → StandsIf code o (at t) → wanted code.program s o ≡ Some r → Waits body (at t) r
  status_wants None there e = absurd (cc e)
  status_wants (Some NotBegun) there e = absurd (cc e)
  status_wants (Some Ended) there e = absurd (cc e)
  status_wants (Some (Waiting c m frames)) there e = absurd (cc e)
  status_wants (Some (Running frames)) there e = frames_want frames there.0 there.1 there.2 e
  status_wants (Some (Reacquiring m takes frames)) there e = again_wants m takes there.0 there.1 e

pub wanted_comes_next : WantedComesNext
wanted_comes_next code s u r body x there e = status_wants code s u r body (λ v. x) (slice_get s.threads u) there e
