use Rattle.std.proofs.Common.{◌≡◌, drop}
use Rattle.c_meaning.specs.Shown.{shown_body}
use Rattle.c_frames.specs.Positions.{inside}
use Rattle.c_frames.proofs.positions.inside.Given as goal

-- what is still to be entered leads to the same list
abbrev pub invariant-loop-q : goal.invariant-loop-q
invariant-loop-q l = inside (shown_body l.list) (drop l.q-index l.at) ≡ inside (shown_body l.fn.body) l.at
