-- Rows of tokens, when one of them is written, and lists that are made of others.
use Rattle.std.proofs.Common.{◌≡◌, ℕ, suc, ◌+◌, ◌<◌, ◌≤◌, List, length, map, Option, Some, None, option_map, refl, sym, ap, ◌∙◌, ⊎_elim, arith}
use Rattle.std.specs.Prelude.{slice_get, slice_set, sum}
use Rattle.std.proofs.lemmas.Bool.{cases_lt}
use Rattle.std.proofs.lemmas.List.{length-set, set_past}
use Rattle.std.proofs.lemmas.List.Sums.{sum_by-set}
use Rattle.std.proofs.lemmas.Option.{same_Some, slice_get-map, unwrap_or-slice_get}
use Rattle.c_meaning.specs.Locks.{held_by}
use Rattle.c_meaning.proofs.Reading.{read_after}

-- an element of a list that another one was made of
pub made_of : {A B : Type 0} (f : A → B) (xs : List A) (k : ℕ) (y : B) → slice_get (map f xs) k ≡ Some y → (x : A) × (slice_get xs k ≡ Some x) × (f x ≡ y)
made_of {A = A} {B = B} f xs k y e = by (slice_get xs k) refl (sym (slice_get-map f xs k) ∙ e)
  where
    by : (o : Option A) → slice_get xs k ≡ o → option_map f o ≡ Some y → (x : A) × (slice_get xs k ≡ Some x) × (f x ≡ y)
    by None at same = absurd (cc same)
    by (Some x) at same = (x, at, same_Some (f x) y same)

-- ---- how many tokens a row has, behind a write

written_row : (row : List ℕ) (t held : ℕ) → t < length row → sum (slice_set row t held) + held_by row t ≡ sum row + held
written_row row t held within =
    ap (λ n. sum (slice_set row t held) + n) (unwrap_or-slice_get row t 0) ∙ sum_by-set (λ n. n) row t held 0 within

-- a token more, where one was free
pub take_fits : (row : List ℕ) (t capacity : ℕ) → sum row < capacity → sum (slice_set row t (suc (held_by row t))) ≤ capacity
take_fits row t capacity free = ⊎_elim
    (λ within. let e = written_row row t (suc (held_by row t)) within in omega (arith, e, free))
    (λ past. let e = ap sum (set_past row t (suc (held_by row t)) past) in omega (arith, e, free))
    (cases_lt t (length row))

-- a token less, where one was held
pub give_fits : (row : List ℕ) (t left capacity : ℕ) → held_by row t ≡ suc left → sum row ≤ capacity → sum (slice_set row t left) ≤ capacity
give_fits row t left capacity held fits = ⊎_elim
    (λ within. let e = written_row row t left within in omega (arith, e, held, fits))
    (λ past. let e = ap sum (set_past row t left past) in omega (arith, e, fits))
    (cases_lt t (length row))

-- ---- a row behind a write, and what it was

pub record WasRow (rows : List (List ℕ)) (k : ℕ) (row : List ℕ) : Type 0 where
  pub old : List ℕ
  pub there : slice_get rows k ≡ Some old
  pub same : length row ≡ length old

pub was_same : (rows : List (List ℕ)) (k : ℕ) (row : List ℕ) → slice_get rows k ≡ Some row → WasRow rows k row
was_same rows k row there = record { old = row; there = there; same = refl }

pub was_written : (rows : List (List ℕ)) (monitor t held : ℕ) (row : List ℕ) → slice_get rows monitor ≡ Some row → (k : ℕ) (new : List ℕ)
    → slice_get (slice_set rows monitor (slice_set row t held)) k ≡ Some new → WasRow rows k new
was_written rows monitor t held row there k new e = ⊎_elim
    (λ here. record { old = row; there = ap (slice_get rows) here.0 ∙ there; same = ap length here.1 ∙ length-set row t held })
    (λ other. was_same rows k new other.1)
    (read_after rows monitor (slice_set row t held) k new e)
