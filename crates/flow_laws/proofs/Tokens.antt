-- The tokens of the resources of a program.
use Rattle.std.proofs.Common.{◌≡◌, ℕ, zero, suc, ◌-◌, ◌<◌, ◌≤◌, Bool, true, false, List, [], ◌∷◌, ◌++◌, length, length-append, replicate, refl, sym, ap, ◌∙◌, arith}
use Rattle.std.specs.Prelude.{if◌then◌else◌, nat_lt, slice_get, slice_index, unwrap_or}
use Rattle.std.proofs.lemmas.Bool.{ltb-true, ltb-false}
use Rattle.std.proofs.lemmas.List.{length-replicate}
use Rattle.c_tree.specs.Lined.{Program, bare_program}
use Rattle.c_tree.specs.Numbering.{mutex_count, resource_count}
use Rattle.reached_states.specs.Counts.{tokens_of}
use Rattle.flow_laws.specs.Nets.{tokens_in}
use Rattle.flow_laws.specs.Laws.{TokensAreOfResources}

-- a number of a list, or 0 behind its end
number_at : (xs : List ℕ) (k : ℕ) → slice_index xs k ≡ unwrap_or (slice_get xs k) 0
number_at [] k = refl
number_at (x ∷ xs) zero = refl
number_at (x ∷ xs) (suc k) = number_at xs k

one_first : (n : ℕ) (xs : List ℕ) (r : ℕ) → r < n → slice_index (replicate n 1 ++ xs) r ≡ 1
one_first zero xs r lt = absurd (omega (arith, lt))
one_first (suc n) xs zero lt = refl
one_first (suc n) xs (suc r) lt = one_first n xs r (omega (arith, lt))

other_behind : (n : ℕ) (xs : List ℕ) (r : ℕ) → n ≤ r → slice_index (replicate n 1 ++ xs) r ≡ slice_index xs (r - n)
other_behind zero xs r le = let same : r ≡ r - 0 = omega arith in ap (slice_index xs) same
other_behind (suc n) xs zero le = absurd (omega (arith, le))
other_behind (suc n) xs (suc r) le =
    let same : r - n ≡ suc r - suc n = omega arith in
    other_behind n xs r (omega (arith, le)) ∙ ap (slice_index xs) same

pub as_many_tokens : (p : Program) → length (tokens_in p) ≡ resource_count (bare_program p)
as_many_tokens p =
    let both = length-append {A = ℕ} (replicate (mutex_count (bare_program p)) 1) p.monitors in
    let first = length-replicate {A = ℕ} (mutex_count (bare_program p)) 1 in
    omega (arith, both, first)

pub tokens_are : (p : Program) (r : ℕ) → slice_index (tokens_in p) r ≡ tokens_of (bare_program p) r
tokens_are p r = by (mutex_count (bare_program p)) (nat_lt r (mutex_count (bare_program p))) refl
  where
    by : (m : ℕ) (b : Bool) → nat_lt r m ≡ b → slice_index (replicate m 1 ++ p.monitors) r ≡ (if nat_lt r m then 1 else unwrap_or (slice_get p.monitors (r - m)) 0)
    by m true e =
        let tokens = ap (λ b. if b then 1 else unwrap_or (slice_get p.monitors (r - m)) 0) e in
        one_first m p.monitors r (ltb-true r m e) ∙ sym tokens
    by m false e =
        let tokens = ap (λ b. if b then 1 else unwrap_or (slice_get p.monitors (r - m)) 0) e in
        other_behind m p.monitors r (ltb-false r m e) ∙ number_at p.monitors (r - m) ∙ sym tokens

pub tokens_of_resources : TokensAreOfResources
tokens_of_resources p = (as_many_tokens p, tokens_are p)
