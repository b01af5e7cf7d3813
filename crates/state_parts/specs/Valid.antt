-- What holds of the tables, the frames and the threads of a state, as the code keeps them.
use Rattle.std.specs.Prelude.{◌≡◌, ℕ, List, length, Some, slice_get}
use Rattle.c_tree.specs.declared.program.Program as tree
use Rattle.c_tree.specs.declared.program.Function as function
use Rattle.c_meaning.specs.Shown.{shown}
use Rattle.c_frames.specs.Names.{shown_function, NamesOf}
use Rattle.c_frames.specs.Frames.{IsFrame}
use Rattle.c_frames.specs.declared.frames.Frame.{Frame}
use Rattle.c_frames.specs.declared.names.LocalNames.{LocalNames}
use Rattle.c_places.specs.Numbers.{AreNumbersOf}
use Rattle.c_tree.specs.Everywhere.{Everywhere}
use Rattle.state_parts.specs.Small.{IsSmall}
use Rattle.state_parts.specs.declared.threads.Thread.{Thread}
use Rattle.state_parts.specs.declared.tables.Tables.{Tables}

-- the tables are those of the program
pub record AreTablesOf (p : tree.Program) (tables : Tables) : Type 0 where
  pub numbers : AreNumbersOf (shown p) tables.numbers
  pub each : length tables.names.items ≡ length p.functions
  pub names : (k : ℕ) (f : function.Function) (names : LocalNames) → slice_get p.functions k ≡ Some f → slice_get tables.names.items k ≡ Some names → NamesOf (shown_function f) names
  pub small : (k : ℕ) (f : function.Function) → slice_get p.functions k ≡ Some f → Everywhere IsSmall (shown_function f).body

-- a frame is one of its function, with its names
pub record IsFrameIn (p : tree.Program) (tables : Tables) (x : Frame) : Type 0 where
  pub function : function.Function
  pub names : LocalNames
  pub is_function : slice_get p.functions x.function ≡ Some function
  pub are_names : slice_get tables.names.items x.function ≡ Some names
  pub valid : IsFrame (shown_function function) names x

abbrev pub AreFramesIn : tree.Program → Tables → List Frame → Type 0
AreFramesIn p tables frames = (k : ℕ) (x : Frame) → slice_get frames k ≡ Some x → IsFrameIn p tables x

abbrev pub AreThreadsIn : tree.Program → Tables → List Thread → Type 0
AreThreadsIn p tables threads = (t : ℕ) (thread : Thread) → slice_get threads t ≡ Some thread → AreFramesIn p tables thread.frames.items
