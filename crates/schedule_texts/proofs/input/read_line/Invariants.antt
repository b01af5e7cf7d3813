use Rattle.std.specs.Prelude.{map, take}
use Rattle.schedule_texts.specs.Inputs.{HaveValues}
use Rattle.schedule_texts.proofs.input.read_line.Given as goal

-- the words among the pieces so far are numbers, and their values were added
abbrev pub invariant-loop-word : goal.invariant-loop-word
invariant-loop-word l = HaveValues (take l.word-index (map (λ word. word.now) l.word-items)) l.initial.input l.input
