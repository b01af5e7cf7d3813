use Rattle.std.proofs.Common.{◌≡◌, ◌++◌, drop}
use Rattle.context_walk.specs.Shown.{shown_items}
use Rattle.context_walk.proofs.Pushes.{left_items}
use Rattle.context_walk.proofs.items.+items.Given as goal

-- what is pushed and what is left make the whole
abbrev pub invariant-push_items-loop-s : goal.invariant-push_items-loop-s
invariant-push_items-loop-s l = shown_items l.out.items ++ left_items (drop l.s-index l.ss) ≡ shown_items l.fn.out.items ++ left_items l.ss
