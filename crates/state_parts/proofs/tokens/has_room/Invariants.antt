use Rattle.std.proofs.Common.{◌≡◌, ◌-◌, take, sum}
use Rattle.state_parts.proofs.tokens.has_room.Given as goal

-- what is left beyond the tokens so far
abbrev pub invariant-loop-held : goal.invariant-loop-held
invariant-loop-held l = l.left ≡ l.capacity - sum (take l.held-index l.row)
