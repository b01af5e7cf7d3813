use Rattle.std.proofs.Common.{◌≡◌, ◌≤◌, length}
use Rattle.c_meaning.specs.Shown.{shown_body}
use Rattle.c_frames.specs.Positions.{todo_at, weight, Descends}
use Rattle.c_frames.proofs.positions.Standing.settle.Given as goal

-- what is still to do is the same, and there is room for what is put back
abbrev pub invariant-loop-self : goal.invariant-loop-self
invariant-loop-self l =
    (todo_at (shown_body l.body) l.self ≡ todo_at (shown_body l.fn.body) l.fn.self)
    × (l.self.entered.capacity ≡ l.fn.self.entered.capacity) × (length l.self.entered.items ≤ l.fn.self.entered.capacity)
    × (Descends (shown_body l.fn.body) l.fn.self.entered.items → Descends (shown_body l.body) l.self.entered.items)

abbrev pub decreases-loop-self : goal.decreases-loop-self
decreases-loop-self l = weight l.self.entered.items
