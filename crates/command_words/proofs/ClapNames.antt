-- A word that begins with `--`, parted at its first `=`.
use Rattle.std.proofs.Common.{◌≡◌, ℕ, suc, ◌+◌, Bool, true, false, not, cond, ◌||◌, List, [], ◌∷◌, ◌++◌, take, drop, refl, sym, ap, ◌∙◌, arith, bytes_eq}
use Rattle.std.specs.Prelude.{◌==◌}
use Rattle.std.specs.List.{before_first, after_first, position_or_len}
use Rattle.std.proofs.lemmas.Bool.{eqb-true}
use Rattle.std.proofs.lemmas.List.{take-append-drop}
use Rattle.std.proofs.lemmas.Slice.Eq.{bytes_eq-Decides}
use Rattle.clap.specs.Lexer.{has_byte}

abbrev is_equals : ℕ → Bool
is_equals x = x == 61

one_more : (k : ℕ) → 1 + k ≡ suc k
one_more k = omega arith

two_more : (k : ℕ) → suc (k + 1) ≡ suc k + 1
two_more k = omega arith

pub no_equals : (xs : List ℕ) → has_byte 61 xs ≡ false → before_first (λ x. x == 61) xs ≡ xs
no_equals [] none = refl
no_equals (x ∷ xs) none = by (x == 61) none (no_equals xs)
  where
    by : (b : Bool) → (b || has_byte 61 xs) ≡ false → (has_byte 61 xs ≡ false → before_first (λ y. y == 61) xs ≡ xs)
        → take (cond (not b) (1 + position_or_len (λ y. y == 61) xs) 0) (x ∷ xs) ≡ x ∷ xs
    by true e rest = absurd (cc e)
    by false e rest = ap (λ (n : ℕ). take n (x ∷ xs)) (one_more (position_or_len (λ y. y == 61) xs)) ∙ ap (λ (zs : List ℕ). x ∷ zs) (rest e)

pub at_equals : (xs : List ℕ) → has_byte 61 xs ≡ true → xs ≡ before_first (λ x. x == 61) xs ++ 61 ∷ after_first (λ x. x == 61) xs
at_equals [] some = absurd (cc some)
at_equals (x ∷ xs) some = by (x == 61) refl some (at_equals xs)
  where
    by : (b : Bool) → (x == 61) ≡ b → (b || has_byte 61 xs) ≡ true → (has_byte 61 xs ≡ true → xs ≡ before_first (λ y. y == 61) xs ++ 61 ∷ after_first (λ y. y == 61) xs)
        → x ∷ xs ≡ take (cond (not b) (1 + position_or_len (λ y. y == 61) xs) 0) (x ∷ xs) ++ 61 ∷ drop (cond (not b) (1 + position_or_len (λ y. y == 61) xs) 0 + 1) (x ∷ xs)
    by true is e rest = ap (λ (y : ℕ). y ∷ xs) (eqb-true x 61 is)
    by false is e rest =
        ap (λ (zs : List ℕ). x ∷ zs) (rest e)
        ∙ ap (λ (n : ℕ). x ∷ (take (position_or_len (λ y. y == 61) xs) xs ++ 61 ∷ drop n (x ∷ xs))) (two_more (position_or_len (λ y. y == 61) xs))
        ∙ sym (ap (λ (n : ℕ). take n (x ∷ xs) ++ 61 ∷ drop (n + 1) (x ∷ xs)) (one_more (position_or_len (λ y. y == 61) xs)))

pub same_bytes : (xs ys : List ℕ) → bytes_eq xs ys ≡ true → xs ≡ ys
same_bytes xs ys e = (bytes_eq-Decides xs ys).0 e

pub bytes_same : (xs ys : List ℕ) → xs ≡ ys → bytes_eq xs ys ≡ true
bytes_same xs ys e = (bytes_eq-Decides xs ys).1 e

-- a text that begins with these bytes
pub begun : (n : ℕ) (xs front : List ℕ) → bytes_eq (take n xs) front ≡ true → xs ≡ front ++ drop n xs
begun n xs front e = sym (take-append-drop n xs) ∙ ap (λ (zs : List ℕ). zs ++ drop n xs) (same_bytes (take n xs) front e)
