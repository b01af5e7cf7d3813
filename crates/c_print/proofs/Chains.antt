-- Bytes that are added one after another, and what they make together.
use Rattle.std.proofs.Common.{◌≡◌, ℕ, List, ◌++◌, refl, sym, ◌∙◌, ap, append_assoc}

-- two
pub chain2 : (old first second a b all : List ℕ) → first ≡ old ++ a → second ≡ first ++ b → all ≡ a ++ b → second ≡ old ++ all
chain2 old first second a b all p q whole = q ∙ ap (λ x. x ++ b) p ∙ append_assoc old a b ∙ ap (λ x. old ++ x) (sym whole)

-- three
pub chain3 : (old first second third a b c all : List ℕ) → first ≡ old ++ a → second ≡ first ++ b → third ≡ second ++ c → all ≡ a ++ (b ++ c) → third ≡ old ++ all
chain3 old first second third a b c all p0 p1 p2 whole =
    chain2 old second third (a ++ b) c all (chain2 old first second a b (a ++ b) p0 p1 refl) p2 (whole ∙ sym (append_assoc a b c))

-- four
pub chain4 : (old first second third fourth a b c d all : List ℕ) → first ≡ old ++ a → second ≡ first ++ b → third ≡ second ++ c → fourth ≡ third ++ d → all ≡ a ++ (b ++ (c ++ d)) → fourth ≡ old ++ all
chain4 old first second third fourth a b c d all p0 p1 p2 p3 whole =
    chain3 old second third fourth (a ++ b) c d all (chain2 old first second a b (a ++ b) p0 p1 refl) p2 p3 (whole ∙ sym (append_assoc a b (c ++ d)))

-- five
pub chain5 : (old first second third fourth fifth a b c d e all : List ℕ) → first ≡ old ++ a → second ≡ first ++ b → third ≡ second ++ c → fourth ≡ third ++ d → fifth ≡ fourth ++ e → all ≡ a ++ (b ++ (c ++ (d ++ e))) → fifth ≡ old ++ all
chain5 old first second third fourth fifth a b c d e all p0 p1 p2 p3 p4 whole =
    chain4 old second third fourth fifth (a ++ b) c d e all (chain2 old first second a b (a ++ b) p0 p1 refl) p2 p3 p4 (whole ∙ sym (append_assoc a b (c ++ (d ++ e))))

-- six
pub chain6 : (old first second third fourth fifth sixth a b c d e f all : List ℕ) → first ≡ old ++ a → second ≡ first ++ b → third ≡ second ++ c → fourth ≡ third ++ d → fifth ≡ fourth ++ e → sixth ≡ fifth ++ f → all ≡ a ++ (b ++ (c ++ (d ++ (e ++ f)))) → sixth ≡ old ++ all
chain6 old first second third fourth fifth sixth a b c d e f all p0 p1 p2 p3 p4 p5 whole =
    chain5 old second third fourth fifth sixth (a ++ b) c d e f all (chain2 old first second a b (a ++ b) p0 p1 refl) p2 p3 p4 p5 (whole ∙ sym (append_assoc a b (c ++ (d ++ (e ++ f)))))

-- seven
pub chain7 : (old first second third fourth fifth sixth seventh a b c d e f g all : List ℕ) → first ≡ old ++ a → second ≡ first ++ b → third ≡ second ++ c → fourth ≡ third ++ d → fifth ≡ fourth ++ e → sixth ≡ fifth ++ f → seventh ≡ sixth ++ g → all ≡ a ++ (b ++ (c ++ (d ++ (e ++ (f ++ g))))) → seventh ≡ old ++ all
chain7 old first second third fourth fifth sixth seventh a b c d e f g all p0 p1 p2 p3 p4 p5 p6 whole =
    chain6 old second third fourth fifth sixth seventh (a ++ b) c d e f g all (chain2 old first second a b (a ++ b) p0 p1 refl) p2 p3 p4 p5 p6 (whole ∙ sym (append_assoc a b (c ++ (d ++ (e ++ (f ++ g))))))
