use Rattle.std.proofs.Common.{ℕ, List, take}
use Rattle.outline_pieces.specs.declared.pieces.Piece.{Piece}
use Rattle.outline_pieces.specs.Taken.{HasTaken}
use Rattle.outline_pieces.proofs.Taking.{up_to}
use Rattle.outline_pieces.proofs.builder.Builder.wait.Given as goal

abbrev pub invariant-loop-monitor : goal.invariant-loop-monitor
invariant-loop-monitor l =
    (m n : ℕ) (ps : List Piece) → HasTaken m n l.fn.self ps → HasTaken m n l.self (up_to ps l.line l.resource (take l.monitor-index l.takes))
