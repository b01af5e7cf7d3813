-- A running thread whose newest frame has an outline, and what stands behind its first statement.
use Rattle.std.proofs.Common.{◌≡◌, ℕ, List, [], ◌∷◌, Option, Some, refl, ap, ◌∙◌, inl}
use Rattle.std.specs.Prelude.{ℤ}
use Rattle.c_tree.specs.Bare as bare
use Rattle.c_tree.specs.Lined.{Stmts, bare_stmts}
use Rattle.c_meaning.specs.State.{Locals, Frame, Ended, State, frame}
use Rattle.c_meaning.specs.Calls.{call_ended, frame_ended}
use Rattle.edges.specs.declared.EdgeOp.TheVariants as op
use Rattle.outlines.specs.Outline as outline
use Rattle.outlines.specs.Outline.{Part, Parts}
use Rattle.outlines.specs.Moves.{Position, At, Over, PartMoves}
use Rattle.contexts.specs.Constants.{Constants}
use Rattle.contexts.specs.Agreeing.{Agrees, IsScoped}
use Rattle.contexts.specs.Outlined.{Code, Outlined}
use Rattle.contexts.specs.Shape.{Shaped}
use Rattle.contexts.proofs.Agreeing.{weaker_agrees, weaker_scoped}
use Rattle.contexts.proofs.Inverts.{inverts}
use Rattle.step_effects.specs.Effects.{OnDone}
use Rattle.outline_runs.specs.Standing.{HasOutline, BehindCall, Callers, HaveOutlines, Stands, Standing}
use Rattle.outline_runs.proofs.Goings.{Moved, plainly}
use Rattle.outline_runs.proofs.Ready.{Ready, result_ready}

-- it has these statements to do; what is known of them is what their outline asks for
pub record Here (code : Code) (t : ℕ) (at : ℕ → Position) (locals : Locals) (more : List Frame) (left : Stmts) : Type 0 where
  pub writes : List (List ℕ)
  pub known : Constants
  pub end_line : ℕ
  pub xs : Parts
  pub lefts : List Parts
  pub is : at t ≡ At (xs ∷ lefts)
  pub agrees : Agrees known locals
  pub scoped : IsScoped code.program writes known
  pub whole : HasOutline code writes locals (bare_stmts left) xs
  pub callers : Callers code more lefts

abbrev pub shape_of : (code : Code) (writes : List (List ℕ)) (locals : Locals) (todo : bare.Stmts) (xs : Parts) (c : HasOutline code writes locals todo xs) → Shaped code writes c.known (Some c.end_line) c.left xs
shape_of code writes locals todo xs c = inverts code writes c.known (Some c.end_line) c.left xs c.outlined

abbrev pub here_of : (code : Code) (t : ℕ) (at : ℕ → Position) (f : Frame) (fs : List Frame) (left : List Parts) → at t ≡ At left → (c : HaveOutlines code f fs left) → Here code t at f.locals fs c.newest.left
here_of code t at f fs left is c =
    let sh = shape_of code c.writes f.locals f.todo c.xs c.newest in
    record {
      writes = c.writes;
      known = sh.less;
      end_line = c.newest.end_line;
      xs = c.xs;
      lefts = c.lefts;
      is = is ∙ ap At c.left_is;
      agrees = weaker_agrees sh.less c.newest.known f.locals sh.weaker c.newest.agrees;
      scoped = weaker_scoped code.program c.writes sh.less c.newest.known sh.weaker c.newest.scoped;
      whole = record {
        known = c.newest.known;
        end_line = c.newest.end_line;
        left = c.newest.left;
        todo_is = refl;
        outlined = c.newest.outlined;
        agrees = c.newest.agrees;
        scoped = c.newest.scoped;
      };
      callers = c.callers;
    }

module _ (code : Code) (t : ℕ) (at : ℕ → Position) (locals : Locals) (more : List Frame) (left : Stmts) (h : Here code t at locals more left) where
  -- the edge of the part that comes first leads to what stands behind it
  abbrev pub step_to : (bodies : ℕ → Parts) (locals' : Locals) (x : Part) (ys zs : Parts) (todo : bare.Stmts) → h.xs ≡ outline.Cons x ys → PartMoves x ys h.lefts op.Plain (At (zs ∷ h.lefts))
      → HasOutline code h.writes locals' todo zs → Ready code bodies t at locals' todo more
  step_to bodies locals' x ys zs todo e edge behind = inl (record {
    x = At (outline.Cons x ys ∷ h.lefts);
    is = h.is ∙ ap (λ z. At (z ∷ h.lefts)) e;
    ys = zs;
    lefts = h.lefts;
    edge = edge;
    writes = h.writes;
    outline = behind;
    callers = h.callers;
  })

  -- statements with an outline where no more is known than here
  pub behind : (less : Constants) → ((name : List ℕ) (z : ℤ) → less name ≡ Some z → h.known name ≡ Some z) → (rest : Stmts) (ys : Parts) → Outlined code h.writes less (Some h.end_line) rest ys
      → HasOutline code h.writes locals (bare_stmts rest) ys
  behind less weaker rest ys there = record {
    known = less;
    end_line = h.end_line;
    left = rest;
    todo_is = refl;
    outlined = there;
    agrees = weaker_agrees less h.known locals weaker h.agrees;
    scoped = weaker_scoped code.program h.writes less h.known weaker h.scoped;
  }

  -- the frames as they stand, for a call and a wait that stay
  pub stays_whole : Stands code (frame locals (bare_stmts left) ∷ more) (h.xs ∷ h.lefts)
  stays_whole = inl (record { writes = h.writes; xs = h.xs; lefts = h.lefts; left_is = refl; newest = h.whole; callers = h.callers })

-- a function's end, in the last frame and over another one
pub ended_below : (code : Code) (bodies : ℕ → Parts) (s : State) (t : ℕ) (at : ℕ → Position) → Standing code s at → (line : ℕ) (ys : Parts) (more : List Frame) (lefts : List Parts) → Callers code more lefts
    → at t ≡ At (outline.Cons (outline.Leave line) ys ∷ lefts) → (result : Option ℤ) → OnDone (frame_ended code.program s t more result) (Moved code bodies s at)
ended_below code bodies s t at standing line ys [] [] callers is result =
    plainly code bodies s t at standing Ended (At (outline.Cons (outline.Leave line) ys ∷ [])) Over refl is (refl, refl)
ended_below code bodies s t at standing line ys [] (zs ∷ lefts) callers is result = absurd callers
ended_below code bodies s t at standing line ys (f ∷ fs) [] callers is result = absurd callers
ended_below code bodies s t at standing line ys (f ∷ fs) (zs ∷ lefts) callers is result = over f.locals f.todo callers.0
  where
    over : (locals : Locals) (todo : bare.Stmts) → BehindCall code locals todo zs → OnDone (call_ended code.program s t locals fs result todo) (Moved code bodies s at)
    over locals (bare.Cons (bare.Call target name args) rest) behind_call = result_ready code bodies s t at standing locals rest fs
        (inl (record {
          x = At (outline.Cons (outline.Leave line) ys ∷ zs ∷ lefts);
          is = is;
          ys = zs;
          lefts = lefts;
          edge = (refl, refl);
          writes = behind_call.0;
          outline = behind_call.2;
          callers = callers.1;
        })) target result behind_call.1
    over locals todo behind_call = absurd behind_call
