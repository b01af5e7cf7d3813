-- What a writer holds after one more write.
use Rattle.std.proofs.Common.{◌≡◌, ℕ, ◌+◌, ◌-◌, List, ◌++◌, length, take, drop, Some, None, sym, ap, ◌∙◌, arith}
use Rattle.std.specs.Prelude.{Option}
use Rattle.std.specs.Io.KnownBytes.{Appends}
use Rattle.std.proofs.lemmas.List.{append_assoc, take_all, length-drop}
use Rattle.std.proofs.Math.Seq.{take-add}

-- the slice from a place on is all that is left
rest_all : (written : ℕ) (bytes : List ℕ) → take (length bytes - written) (drop written bytes) ≡ drop written bytes
rest_all written bytes = take_all (length bytes - written) (drop written bytes) (rw (length-drop written bytes) (omega arith))

-- a write of the rest took so many bytes more
pub appends_more : (old between new : Option (List ℕ)) (bytes : List ℕ) (written count : ℕ)
    → Appends old between (take written bytes) → Appends between new (take count (take (length bytes - written) (drop written bytes)))
    → Appends old new (take (written + count) bytes)
appends_more None between new bytes written count first second = tt
appends_more (Some xs) None new bytes written count first second = absurd first
appends_more (Some xs) (Some ys) None bytes written count first second = absurd second
appends_more (Some xs) (Some ys) (Some zs) bytes written count first second =
    second
    ∙ ap (λ rest. ys ++ take count rest) (rest_all written bytes)
    ∙ ap (λ so_far. so_far ++ take count (drop written bytes)) first
    ∙ append_assoc xs (take written bytes) (take count (drop written bytes))
    ∙ ap (λ all. xs ++ all) (sym (take-add written count bytes))
