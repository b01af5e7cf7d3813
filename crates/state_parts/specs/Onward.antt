-- Where a frame goes on.
use Rattle.std.specs.Prelude.{true}
use Rattle.c_tree.specs.Bare.{Stmt, Stmts, Cons}
use Rattle.c_frames.specs.Positions.{first_of}
use Rattle.c_frames.specs.Frames.{picked}
use Rattle.state_parts.specs.declared.frames.Onward.{Onward}
use Rattle.state_parts.specs.declared.frames.Onward.TheVariants.{Past, Into, Loop}

-- what is still to do, where a statement stood before the rest
abbrev pub onward : Onward → Stmt → Stmts → Stmts
onward Past s rest = rest
onward (Into arm) s rest = picked arm s rest
onward Loop s rest = Cons (first_of true s) rest
