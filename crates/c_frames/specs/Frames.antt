-- What a frame of the code stands for.
use Rattle.std.specs.Prelude.{◌≡◌, ◌≤◌, length}
use Rattle.c_tree.specs.Bare as bare
use Rattle.c_tree.specs.Bare.{Stmt, Stmts, Cons, Function}
use Rattle.c_frames.specs.declared.frames.Frame.{Frame}
use Rattle.c_frames.specs.declared.frames.Arm.{Arm}
use Rattle.c_frames.specs.declared.frames.Arm.TheVariants.{Then, Else, Body}
use Rattle.c_frames.specs.declared.names.LocalNames.{LocalNames}
use Rattle.c_meaning.specs.State as meaning
use Rattle.c_meaning.specs.State.{Locals}
use Rattle.c_tree.specs.Bare.{before}
use Rattle.c_meaning.specs.Branching.{loop_of}
use Rattle.c_frames.specs.Heights.{height}
use Rattle.c_frames.specs.LocalValues.{locals_of}
use Rattle.c_frames.specs.Names.{names_in}
use Rattle.c_frames.specs.Positions.{todo_at, first_of, rest_at, StandsAt, IsSettled, Descends}

-- the statements that are still to do
abbrev pub todo_of : Function → Frame → Stmts
todo_of f frame = todo_at f.body frame.at

-- the values of the locals that have one
abbrev pub locals_in : LocalNames → Frame → Locals
locals_in names frame = locals_of (names_in names) frame.values.items

-- the frame as it is meant
abbrev pub frame_of : Function → LocalNames → Frame → meaning.Frame
frame_of f names frame = meaning.frame (locals_in names frame) (todo_of f frame)

-- a frame stands at a statement of a function or at its end, and has room for each list that it may enter
pub record IsPlaced (f : Function) (frame : Frame) : Type 0 where
  pub settled : IsSettled f.body frame.at
  pub descends : Descends f.body frame.at.entered.items
  pub room : height f.body ≤ frame.at.entered.capacity

-- a frame has a place for the value of each name
abbrev pub HasValues : LocalNames → Frame → Type 0
HasValues names frame = length frame.values.items ≡ length (names_in names)

-- a frame is one of a call of a function
pub record IsFrame (f : Function) (names : LocalNames) (frame : Frame) : Type 0 where
  pub placed : IsPlaced f frame
  pub values : HasValues names frame

-- a statement comes next: itself, or the loop of a `for` whose first part is done
pub record IsNext (f : Function) (frame : Frame) (s : Stmt) : Type 0 where
  pub stands : StandsAt f.body frame.at s
  pub first : todo_of f frame ≡ Cons (first_of frame.at.begun s) (rest_at f.body frame.at)

-- what is done where a list of a statement is picked, by a test or by what a trylock finds, where `rest` stands behind that statement
abbrev pub picked : Arm → Stmt → Stmts → Stmts
picked Then (bare.If test then_arm else_arm) rest = before then_arm rest
picked Else (bare.If test then_arm else_arm) rest = before else_arm rest
picked Then (bare.TryLock place taken busy) rest = before taken rest
picked Else (bare.TryLock place taken busy) rest = before busy rest
picked Body (bare.While test body) rest = before body (Cons (bare.While test body) rest)
picked Body (bare.For first_part test step body) rest = before body (before step (Cons (loop_of test step body) rest))
picked arm s rest = rest
