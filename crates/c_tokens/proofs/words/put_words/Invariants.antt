use Rattle.std.proofs.Common.{◌≡◌, ℕ, List, drop}
use Rattle.c_tokens.specs.Known.{found, latest}
use Rattle.c_tokens.proofs.words.put_words.Given as goal

-- what is left to put leads to what is put in all
abbrev pub invariant-loop-word : goal.invariant-loop-word
invariant-loop-word l = (name : List ℕ) → latest (drop l.word-index l.words) (found l.known name) name ≡ latest l.words (found l.fn.known name) name
