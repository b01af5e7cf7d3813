-- The layouts of lists of parts are parted, and those of numbers.
use Rattle.std.proofs.Common.{ℕ, suc, List, [], ◌∷◌, ◌++◌, codes, map, refl, sym, subst, arith, append_assoc}
use Rattle.std.specs.Prelude.{◌≤◌, All}
use Rattle.std.specs.Fmt.{decimal}
use Rattle.c_lexer.specs.declared.token.Sign.TheVariants as s
use Rattle.c_lexer.specs.Words.{largest}
use Rattle.c_layout.specs.Layout.{Item, text, number, sign}
use Rattle.c_layout.specs.Laws.{Stops, goes_on}
use Rattle.c_canonical.specs.Expressions.{followed, separated, numeral}
use Rattle.c_canonical.proofs.Parts.{Joins, joins_append, nothing, number_then, sign_then, free_then, gap_then, Quiet, quiet_stops, minus_before}
use Rattle.c_canonical.proofs.ExpressionParts.{number_stops}

-- ---- lists

pub all_head : {X : Type 0} (P : X → Type 0) (x : X) (xs : List X) → All P (x ∷ xs) → P x
all_head P x xs h = h 0 x (omega arith)

pub all_tail : {X : Type 0} (P : X → Type 0) (x : X) (xs : List X) → All P (x ∷ xs) → All P xs
all_tail P x xs h = λ k d l. h (suc k) d (omega arith)

-- Each item of a list joins before what doesn't go on a word.
abbrev pub Each : {X : Type 0} → (X → Type 0) → (X → List Item) → Type 0
Each {X} P item = (x : X) (rest : List ℕ) → P x → Quiet rest → Joins (item x) rest

pub followed_quiet : {X : Type 0} (item : X → List Item) (xs : List X) (rest : List ℕ) → Quiet rest → Quiet (text (followed (map item xs)) ++ rest)
followed_quiet item [] rest q = q
followed_quiet item (x ∷ xs) rest q = refl

pub followed_joins : {X : Type 0} (P : X → Type 0) (item : X → List Item) → Each P item → (xs : List X) (rest : List ℕ) → All P xs → Quiet rest → Joins (followed (map item xs)) rest
followed_joins P item each [] rest f q = nothing rest
followed_joins P item each (x ∷ xs) rest f q =
    free_then s.Comma (λ c. refl) _ rest (gap_then (codes " ") _ rest refl
    (joins_append (item x) (followed (map item xs)) rest (each x _ (all_head P x xs f) (followed_quiet item xs rest q)) (followed_joins P item each xs rest (all_tail P x xs f) q)))

pub separated_joins : {X : Type 0} (P : X → Type 0) (item : X → List Item) → Each P item → (xs : List X) (rest : List ℕ) → All P xs → Quiet rest → Joins (separated (map item xs)) rest
separated_joins P item each [] rest f q = nothing rest
separated_joins P item each (x ∷ xs) rest f q =
    joins_append (item x) (followed (map item xs)) rest (each x _ (all_head P x xs f) (followed_quiet item xs rest q)) (followed_joins P item each xs rest (all_tail P x xs f) q)

-- ---- numbers

pub numeral_joins : (n : ℕ) (rest : List ℕ) → n ≤ largest → Quiet rest → Joins (numeral n) rest
numeral_joins n rest f q = number_then n [] rest f (quiet_stops rest q) (nothing rest)

-- behind a minus sign
pub minus_joins : (n : ℕ) (rest : List ℕ) → n ≤ largest → Quiet rest → Joins (sign s.Minus ∷ number n ∷ []) rest
minus_joins n rest f q =
    sign_then s.Minus _ rest (subst (Stops (goes_on s.Minus)) (sym (append_assoc (decimal n) [] rest)) (number_stops s.Minus n ([] ++ rest) minus_before f)) (numeral_joins n rest f q)
