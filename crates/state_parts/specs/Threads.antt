-- What the threads of a state stand for.
use Rattle.std.specs.Prelude.{List, map, drop, reverse, Some, None, slice_get}
use Rattle.std.specs.declared.option.Option.{Option}
use Rattle.std.specs.FinMap as finite
use Rattle.c_tree.specs.Bare as bare
use Rattle.c_tree.specs.declared.program.Program as tree
use Rattle.c_tree.specs.declared.program.Function as function
use Rattle.c_meaning.specs.State as run
use Rattle.c_meaning.specs.Waits.{takes_of}
use Rattle.c_frames.specs.Names.{shown_function}
use Rattle.c_frames.specs.Frames.{frame_of}
use Rattle.c_frames.specs.declared.frames.Frame.{Frame}
use Rattle.c_frames.specs.declared.names.LocalNames.{LocalNames}
use Rattle.state_parts.specs.declared.threads.Doing.{Doing}
use Rattle.state_parts.specs.declared.threads.Doing.TheVariants.{NotBegun, Running, Waiting, Reacquiring, Ended}
use Rattle.state_parts.specs.declared.threads.Thread.{Thread}
use Rattle.state_parts.specs.declared.tables.Tables.{Tables}

-- a frame of a function with names
abbrev pub framed : Option function.Function → Option LocalNames → Frame → run.Frame
framed (Some f) (Some names) x = frame_of (shown_function f) names x
framed (Some f) None x = run.frame finite.empty bare.Nil
framed None names x = run.frame finite.empty bare.Nil

abbrev pub frame_in : tree.Program → Tables → Frame → run.Frame
frame_in p tables x = framed (slice_get p.functions x.function) (slice_get tables.names.items x.function) x

-- the frames of a thread, the newest first
abbrev pub frames_in : tree.Program → Tables → List Frame → List run.Frame
frames_in p tables frames = map (frame_in p tables) (reverse frames)

abbrev pub status_with : Doing → List run.Frame → run.Status
status_with NotBegun frames = run.NotBegun
status_with Running frames = run.Running frames
status_with (Waiting condition mutex) frames = run.Waiting condition mutex frames
status_with (Reacquiring mutex taken) frames = run.Reacquiring mutex (drop taken (takes_of frames)) frames
status_with Ended frames = run.Ended

abbrev pub status_of : tree.Program → Tables → Thread → run.Status
status_of p tables thread = status_with thread.doing (frames_in p tables thread.frames.items)
