-- Components that are too large.
use Rattle.std.proofs.Common.{◌≡◌, ℕ, ◌≤◌, subst, ⊎_elim, arith}
use Rattle.std.specs.Int.RustNames.{count_ones}
use Rattle.std.proofs.lemmas.Bool.{cases_order}
use Rattle.net_laws.specs.Net.{Net}
use Rattle.candidates.specs.Components.{IsComponent, IsSmallAt, HasSmallComponents, IsFirstLarge}
use Rattle.candidates.proofs.Numbers.{part_same}

-- a resource has one component
pub component_same : (n : Net) (r C D : ℕ) → IsComponent n r C → IsComponent n r D → C ≡ D
component_same n r C D c d = part_same C D (λ s on. (d s).1 ((c s).0 on)) (λ s on. (c s).1 ((d s).0 on))

large_here : (n : Net) (C r : ℕ) → IsFirstLarge n C → IsComponent n r C → IsSmallAt n r → ⊥
large_here n C r is here small = omega (arith, is.large, small C is.below here)

pub large_not_small : (n : Net) (C : ℕ) → IsFirstLarge n C → HasSmallComponents n → ⊥
large_not_small n C is small = large_here n C is.least is is.component (small is.least is.named)

pub first_large_same : (n : Net) (C D : ℕ) → IsFirstLarge n C → IsFirstLarge n D → C ≡ D
first_large_same n C D c d =
    ⊎_elim
    (λ same. component_same n d.least C D (subst (λ r. IsComponent n r C) same c.component) d.component)
    (λ o. ⊎_elim
    (λ less. absurd (large_here n C c.least c c.component (d.first c.least less)))
    (λ less. absurd (large_here n D d.least d d.component (c.first d.least less)))
    o)
    (cases_order c.least d.least)

-- a resource is in a component with few members where that is the one that is looked at
pub small_at : (n : Net) (r C : ℕ) → IsComponent n r C → count_ones C ≤ 14 → IsSmallAt n r
small_at n r C is small D lt other = subst (λ x. count_ones x ≤ 14) (component_same n r C D is other) small
