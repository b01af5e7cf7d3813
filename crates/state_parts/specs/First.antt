-- The statement that comes first in a frame.
use Rattle.std.specs.Prelude.{◌≡◌, Bool, Some, slice_get, ⊤}
use Rattle.c_tree.specs.Bare.{Stmt, Stmts, Nil, Cons}
use Rattle.c_tree.specs.declared.program.Program.{Program}
use Rattle.c_meaning.specs.Shown.{shown_stmt}
use Rattle.c_tree.specs.Everywhere.{EverywhereInside}
use Rattle.c_frames.specs.Names.{SetsAmong}
use Rattle.c_frames.specs.Positions.{first_of}
use Rattle.c_frames.specs.declared.frames.Frame.{Frame}
use Rattle.c_frames.specs.declared.names.LocalNames.{LocalNames}
use Rattle.state_parts.specs.Small.{IsSmall}
use Rattle.state_parts.specs.Threads.{frame_in}
use Rattle.state_parts.specs.declared.first.First.{First}
use Rattle.state_parts.specs.declared.first.First.TheVariants.{Nothing, End, At}
use Rattle.state_parts.specs.declared.tables.Tables.{Tables}

-- a fact of a statement, and of those inside it
abbrev pub OfEach : (Stmt → Type 0) → Stmt → Type 0
OfEach P s = P s × EverywhereInside P s

-- what holds of the names of a frame
abbrev pub NamesHave : Tables → Frame → (LocalNames → Type 0) → Type 0
NamesHave tables x P = (names : LocalNames) → slice_get tables.names.items x.function ≡ Some names → P names

-- a statement of the text comes first in a frame: itself, or the loop of a `for` whose first part is done
pub record Stands (p : Program) (tables : Tables) (x : Frame) (s : Stmt) (begun : Bool) : Type 0 where
  pub rest : Stmts
  pub first : (frame_in p tables x).todo ≡ Cons (first_of begun s) rest
  pub small : OfEach IsSmall s
  pub sets : NamesHave tables x (λ names. OfEach (SetsAmong names) s)

abbrev pub IsFirst : Program → Tables → Frame → First → Type 0
IsFirst p tables x Nothing = ⊥
IsFirst p tables x End = (frame_in p tables x).todo ≡ Nil
IsFirst p tables x (At s begun) = Stands p tables x (shown_stmt s.now) begun

-- the numbers of what comes first are small
abbrev pub IsSmallFirst : First → Type 0
IsSmallFirst (At s begun) = OfEach IsSmall (shown_stmt s.now)
IsSmallFirst Nothing = ⊤
IsSmallFirst End = ⊤
