-- The first component that is too large is one set.
use Rattle.std.proofs.Common.{◌≡◌, ℕ, ◌<◌, ◌^◌, subst, ⊎_elim, arith}
use Rattle.std.proofs.lemmas.Bool.{cases_order}
use Rattle.net_laws.specs.Net.{Net}
use Rattle.net_laws.proofs.Masks.{same_mask}
use Rattle.candidates.specs.Components.{IsComponent, IsFirstLarge, HasSmallComponents}

-- where a component is too large, not all are small
pub not_small : (n : Net) (C : ℕ) → C < 2 ^ 64 → IsFirstLarge n C → HasSmallComponents n → ⊥
not_small n C below is small = omega (arith, is.large, small is.least is.named C below is.component)

earlier : (n : Net) (C D : ℕ) → C < 2 ^ 64 → (a : IsFirstLarge n C) (b : IsFirstLarge n D) → a.least < b.least → ⊥
earlier n C D below a b lt = omega (arith, a.large, b.first a.least lt C below a.component)

pub same_large : (n : Net) (C D : ℕ) → C < 2 ^ 64 → D < 2 ^ 64 → IsFirstLarge n C → IsFirstLarge n D → C ≡ D
same_large n C D c d a b =
    ⊎_elim
    (λ same.
    let of_D : IsComponent n b.least C = subst (λ r. IsComponent n r C) same a.component in
    same_mask C D c d (λ r on. (b.component r).1 ((of_D r).0 on)) (λ r on. (of_D r).1 ((b.component r).0 on)))
    (⊎_elim (λ less. absurd (earlier n C D c a b less)) (λ more. absurd (earlier n D C d b a more)))
    (cases_order a.least b.least)
