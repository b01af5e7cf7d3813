use Rattle.std.specs.Prelude.{map, take}
use Rattle.schedule_texts.specs.Inputs.{AreNumbers}
use Rattle.schedule_texts.proofs.input.read_input.Given as goal

-- the words of the lines so far are numbers, with these values
abbrev pub invariant-loop-k : goal.invariant-loop-k
invariant-loop-k l = AreNumbers (take l.k (map (λ line. line.now) l.line-items)) l.input
