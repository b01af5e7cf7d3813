use Rattle.std.proofs.Common.{◌≡◌, max}
use Rattle.c_frames.specs.Heights.{height}
use Rattle.c_frames.specs.Positions.{from}
use Rattle.c_meaning.specs.Shown.{shown_body}
use Rattle.c_frames.proofs.heights.+height.Given as goal

-- the height so far and that of what is left give the height of all
abbrev pub invariant-height-loop-s : goal.invariant-height-loop-s
invariant-height-loop-s l = max l.high (height (from l.s-index (shown_body l.ss))) ≡ height (shown_body l.ss)
