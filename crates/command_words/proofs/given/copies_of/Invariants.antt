use Rattle.std.proofs.Common.{◌≡◌, map, take}
use Rattle.command_words.specs.Tasks.{texts}
use Rattle.command_words.proofs.given.copies_of.Given as goal

abbrev pub invariant-loop-word : goal.invariant-loop-word
invariant-loop-word l = texts l.copies.items ≡ map (λ w. w.now) (take l.word-index l.words)
