-- What is in scope after a name is brought in.
use Rattle.std.proofs.Common.{◌≡◌, ℕ, Bool, true, false, ◌||◌, cond, List, [], ◌∷◌, ◌++◌, refl, ap, ◌∙◌, bytes_eq}
use Rattle.std.specs.List.{list_any}
use Rattle.std.proofs.lemmas.Slice.Eq.{bytes_eq-Decides}
use denote.Ref.{Bor}

-- the same bytes
abbrev pub alike : Bor (List ℕ) → Bor (List ℕ) → Bool
alike x y = bytes_eq x.now y.now

abbrev has : List (Bor (List ℕ)) → List ℕ → Bool
has keys name = list_any (λ key. bytes_eq name key.now) keys

with_last : (keys : List (Bor (List ℕ))) (key : Bor (List ℕ)) (n : List ℕ) → has (keys ++ key ∷ []) n ≡ (bytes_eq n key.now || has keys n)
with_last [] key n = refl
with_last (k ∷ keys) key n = ap (λ b. bytes_eq n k.now || b) (with_last keys key n) ∙ swapped (bytes_eq n k.now) (bytes_eq n key.now) (has keys n)
  where
    swapped : (a b c : Bool) → (a || (b || c)) ≡ (b || (a || c))
    swapped true true c = refl
    swapped true false c = refl
    swapped false b c = refl

there : (keys : List (Bor (List ℕ))) (key : Bor (List ℕ)) (n : List ℕ) → has keys key.now ≡ true → has keys n ≡ (bytes_eq n key.now || has keys n)
there keys key n h = go (bytes_eq n key.now) refl
  where
    go : (b : Bool) → bytes_eq n key.now ≡ b → has keys n ≡ (bytes_eq n key.now || has keys n)
    go true e = rw e (ap (has keys) ((bytes_eq-Decides n key.now).0 e) ∙ h)
    go false e = rw e refl

pub entered : (keys : List (Bor (List ℕ))) (key : Bor (List ℕ)) (n : List ℕ) → has (cond (has keys key.now) keys (keys ++ key ∷ [])) n ≡ (bytes_eq n key.now || has keys n)
entered keys key n = go (has keys key.now) refl
  where
    go : (b : Bool) → has keys key.now ≡ b → has (cond (has keys key.now) keys (keys ++ key ∷ [])) n ≡ (bytes_eq n key.now || has keys n)
    go true e = rw e (there keys key n e)
    go false e = rw e (with_last keys key n)
