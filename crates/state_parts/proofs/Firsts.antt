-- The statement that comes first in a frame.
use Rattle.std.proofs.Common.{◌≡◌, Bool, Some, sym, ap, ◌∙◌}
use Rattle.std.specs.Prelude.{slice_get}
use Rattle.c_tree.specs.Bare.{Stmt, Cons}
use Rattle.c_tree.specs.declared.program.Program.{Program}
use Rattle.c_tree.specs.declared.program.Function.{Function}
use Rattle.c_frames.specs.Frames.{IsNext}
use Rattle.c_frames.specs.Names.{shown_function, SetsAmong}
use Rattle.c_frames.specs.Positions.{first_of, rest_at}
use Rattle.c_frames.specs.declared.frames.Frame.{Frame}
use Rattle.c_frames.proofs.EverywhereNext.{everywhere_next, sets_among}
use Rattle.state_parts.specs.Small.{IsSmall}
use Rattle.state_parts.specs.Valid.{IsFrameIn, AreTablesOf}
use Rattle.state_parts.specs.First.{OfEach, Stands}
use Rattle.state_parts.specs.declared.tables.Tables.{Tables}
use Rattle.state_parts.proofs.Deeper.{deeper}
use Rattle.state_parts.proofs.Framing.{todo_is}

pub stands_of : (p : Program) (tables : Tables) (x : Frame) (f : Function) (s : Stmt) (begun : Bool) → AreTablesOf p tables → IsFrameIn p tables x → slice_get p.functions x.function ≡ Some f
    → IsNext (shown_function f) x s → begun ≡ x.at.begun → Stands p tables x s begun
stands_of p tables x f s begun are is ef next same = record {
  rest = rest_at (shown_function f).body x.at;
  first = todo_is p tables x f is ef ∙ next.first ∙ ap (λ b. Cons (first_of b s) (rest_at (shown_function f).body x.at)) (sym same);
  small = everywhere_next (OfEach IsSmall) (shown_function f) x s next (deeper IsSmall (shown_function f).body (are.small x.function f ef));
  sets = λ names en. everywhere_next (OfEach (SetsAmong names)) (shown_function f) x s next
      (deeper (SetsAmong names) (shown_function f).body (sets_among (shown_function f) names (are.names x.function f names ef en)));
}
