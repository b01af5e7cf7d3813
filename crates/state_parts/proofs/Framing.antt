-- Frames of a program's calls, by their functions and names.
use Rattle.std.proofs.Common.{◌≡◌, ◌≤◌, ◌++◌, ℕ, zero, suc, List, [], ◌∷◌, Some, None, sym, ap, ◌∙◌, subst, ⊎_elim}
use Rattle.std.specs.Prelude.{slice_get, slice_set}
use Rattle.c_meaning.proofs.Reading.{read_after}
use Rattle.std.proofs.lemmas.Option.{same_Some}
use Rattle.c_tree.specs.declared.program.Program.{Program}
use Rattle.c_tree.specs.declared.program.Function.{Function}
use Rattle.c_tree.specs.Bare.{Stmt, Stmts, Cons}
use Rattle.c_meaning.specs.State as run
use Rattle.c_frames.specs.Names.{shown_function}
use Rattle.c_frames.specs.Frames.{frame_of, todo_of, locals_in, IsPlaced, HasValues}
use Rattle.c_frames.specs.Positions.{IsSettled, Descends}
use Rattle.c_frames.specs.Heights.{height}
use Rattle.c_frames.specs.declared.frames.Frame.{Frame}
use Rattle.c_frames.specs.declared.names.LocalNames.{LocalNames}
use Rattle.state_parts.specs.declared.tables.Tables.{Tables}
use Rattle.state_parts.specs.Threads.{framed, frame_in}
use Rattle.state_parts.specs.Valid.{IsFrameIn, AreFramesIn}

pub frame_is : (p : Program) (tables : Tables) (x : Frame) (f : Function) (names : LocalNames) → slice_get p.functions x.function ≡ Some f → slice_get tables.names.items x.function ≡ Some names
    → frame_in p tables x ≡ frame_of (shown_function f) names x
frame_is p tables x f names ef en = ap (λ g. framed g (slice_get tables.names.items x.function) x) ef ∙ ap (λ n. framed (Some f) n x) en

pub same_function : (p : Program) (tables : Tables) (x : Frame) (f : Function) (is : IsFrameIn p tables x) → slice_get p.functions x.function ≡ Some f → is.function ≡ f
same_function p tables x f is ef = same_Some is.function f (sym is.is_function ∙ ef)

pub placed : (p : Program) (tables : Tables) (x : Frame) (f : Function) → IsFrameIn p tables x → slice_get p.functions x.function ≡ Some f → IsPlaced (shown_function f) x
placed p tables x f is ef = let P : Function → Type 0 = λ g. IsPlaced (shown_function g) x in subst P (same_function p tables x f is ef) is.valid.placed

-- a frame that has moved in its function is still one
pub still_frame : (p : Program) (tables : Tables) (x y : Frame) (f : Function) → IsFrameIn p tables x → slice_get p.functions x.function ≡ Some f → IsPlaced (shown_function f) y
    → y.values ≡ x.values → y.function ≡ x.function → IsFrameIn p tables y
still_frame p tables x y f is ef at values same = record {
  function = f;
  names = is.names;
  is_function = ap (slice_get p.functions) same ∙ ef;
  are_names = ap (slice_get tables.names.items) same ∙ is.are_names;
  valid = record { placed = at; values = subst (λ v. HasValues is.names (record x { values = v })) (sym values) is.valid.values };
}

pub moved : (p : Program) (tables : Tables) (x y : Frame) (f : Function) (todo : Stmts) → IsFrameIn p tables x → slice_get p.functions x.function ≡ Some f → todo_of (shown_function f) y ≡ todo
    → y.values ≡ x.values → y.function ≡ x.function → frame_in p tables y ≡ run.frame (frame_in p tables x).locals todo
moved p tables x y f todo is ef now values same =
    frame_is p tables y f is.names (ap (slice_get p.functions) same ∙ ef) (ap (slice_get tables.names.items) same ∙ is.are_names)
    ∙ ap (run.frame (locals_in is.names y)) now
    ∙ ap (λ l. run.frame l todo) (ap (λ v. locals_in is.names (record x { values = v })) values ∙ ap (λ x. x.locals) (sym (frame_is p tables x f is.names ef is.are_names)))

pub todo_is : (p : Program) (tables : Tables) (x : Frame) (f : Function) → IsFrameIn p tables x → slice_get p.functions x.function ≡ Some f
    → (frame_in p tables x).todo ≡ todo_of (shown_function f) x
todo_is p tables x f is ef = ap (λ x. x.todo) (frame_is p tables x f is.names ef is.are_names)

-- a frame goes on from its first statement
pub goes : (p : Program) (tables : Tables) (x y : Frame) (f : Function) (next : Stmt → Stmts → Stmts) → IsFrameIn p tables x → slice_get p.functions x.function ≡ Some f
    → ((s : Stmt) (rest : Stmts) → todo_of (shown_function f) x ≡ Cons s rest → todo_of (shown_function f) y ≡ next s rest) → y.values ≡ x.values → y.function ≡ x.function
    → (s : Stmt) (rest : Stmts) → (frame_in p tables x).todo ≡ Cons s rest → frame_in p tables y ≡ run.frame (frame_in p tables x).locals (next s rest)
goes p tables x y f next is ef to values same s rest e =
    moved p tables x y f (next s rest) is ef (to s rest (sym (todo_is p tables x f is ef) ∙ e)) values same

-- the function of a frame is there
pub no_function : (p : Program) (tables : Tables) (x : Frame) → IsFrameIn p tables x → slice_get p.functions x.function ≡ None → ⊥
no_function p tables x is none = cc (sym none ∙ is.is_function)

-- one of the frames changes
pub frames_set : (p : Program) (tables : Tables) (frames : List Frame) (k : ℕ) (y : Frame) → AreFramesIn p tables frames → IsFrameIn p tables y → AreFramesIn p tables (slice_set frames k y)
frames_set p tables frames k y are is = λ j x e. ⊎_elim
    (λ here. subst (IsFrameIn p tables) (sym here.1) is)
    (λ other. are j x other.1)
    (read_after frames k y j x e)

-- a frame whose locals have changed is still one
pub frame_set : (p : Program) (tables : Tables) (x y : Frame) (names : LocalNames) → IsFrameIn p tables x → slice_get tables.names.items x.function ≡ Some names → HasValues names y
    → y.at ≡ x.at → y.function ≡ x.function → IsFrameIn p tables y
frame_set p tables x y names is en values place same = record {
  function = is.function;
  names = names;
  is_function = ap (slice_get p.functions) same ∙ is.is_function;
  are_names = ap (slice_get tables.names.items) same ∙ en;
  valid = record {
    placed = record {
      settled = subst (λ at. IsSettled (shown_function is.function).body at) (sym place) is.valid.placed.settled;
      descends = subst (λ at. Descends (shown_function is.function).body at.entered.items) (sym place) is.valid.placed.descends;
      room = subst (λ at. height (shown_function is.function).body ≤ at.entered.capacity) (sym place) is.valid.placed.room;
    };
    values = values;
  };
}

-- a frame more
pub frames_more : (p : Program) (tables : Tables) (frames : List Frame) (y : Frame) → AreFramesIn p tables frames → IsFrameIn p tables y → AreFramesIn p tables (frames ++ y ∷ [])
frames_more p tables [] y are is zero x e = subst (IsFrameIn p tables) (same_Some y x e) is
frames_more p tables [] y are is (suc k) x e = absurd (cc e)
frames_more p tables (z ∷ frames) y are is zero x e = are zero x e
frames_more p tables (z ∷ frames) y are is (suc k) x e = frames_more p tables frames y (λ j w h. are (suc j) w h) is k x e
