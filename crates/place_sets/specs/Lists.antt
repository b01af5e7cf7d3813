-- Sets of places that are kept as lists.
use Rattle.std.specs.Prelude.{◌≡◌, ℕ, ◌<◌, ◌≤◌, Bool, false, ◌==◌, List, All}
use Rattle.std.specs.List.{list_any}
use Rattle.std.proofs.Common.{arith}
use Rattle.std.proofs.lemmas.List.Folds.{list_any_none}
use Rattle.std.proofs.lemmas.Bool.Decides.{nat_tests}

-- whether a place stands in the list
abbrev pub stands_in : List ℕ → ℕ → Bool
stands_in places place = list_any (λ other. other == place) places

-- no place from the size on stands in a list of places below it
pub absent_above : (places : List ℕ) (size place : ℕ) → All (λ other. other < size) places → size ≤ place → stands_in places place ≡ false
absent_above places size place below above =
    list_any_none (λ other. other == place) places (λ k d within. let less = below k d within in grind (arith, nat_tests))
