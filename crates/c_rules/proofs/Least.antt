-- The least of breaks: by line, and at one line by the order of the rules.
use Rattle.std.proofs.Common.{◌≡◌, ℕ, ◌<◌, ◌≤◌, List, [], ◌∷◌, ◌⊎◌, inl, inr, refl, subst, arith}
use Rattle.c_rules.specs.declared.rule.Rule.{Rule}
use Rattle.c_rules.specs.Formed.{rank}
use Rattle.c_rules.proofs.Members.{In}

pub record Break : Type 0 where
  pub rule : Rule
  pub line : ℕ

-- it stands above the other, or at its line and no later in the order of the rules
abbrev pub Before : Break → Break → Type 0
Before a b = (a.line < b.line) ⊎ ((a.line ≡ b.line) × (rank a.rule ≤ rank b.rule))

either_first : (a b r s : ℕ) → ((a < b) ⊎ ((a ≡ b) × (r ≤ s))) ⊎ ((b < a) ⊎ ((b ≡ a) × (s ≤ r)))
either_first a b r s = grind arith

pub before_or_behind : (a b : Break) → Before a b ⊎ Before b a
before_or_behind a b = either_first a.line b.line (rank a.rule) (rank b.rule)

first_of_three : (a b c r s t : ℕ) → (a < b) ⊎ ((a ≡ b) × (r ≤ s)) → (b < c) ⊎ ((b ≡ c) × (s ≤ t)) → (a < c) ⊎ ((a ≡ c) × (r ≤ t))
first_of_three a b c r s t h k = grind arith

pub before_third : (a b c : Break) → Before a b → Before b c → Before a c
before_third a b c h k = first_of_three a.line b.line c.line (rank a.rule) (rank b.rule) (rank c.rule) h k

before_itself : (b : Break) → Before b b
before_itself b = inr (refl, omega arith)

-- there is none, or this one is there and before all others
pub data Leads : List Break → Type 0 where
  none : Leads []
  first : {bs : List Break} (b : Break) → In b bs → ((c : Break) → In c bs → Before b c) → Leads bs

-- a break in front of breaks with a first one
leads_with : (b : Break) (bs : List Break) (c : Break) → In c bs → ((d : Break) → In d bs → Before c d) → Before b c ⊎ Before c b → Leads (b ∷ bs)
leads_with b bs c i h (inl k) = first b (inl refl) λ d at. elim at [
  | inl e ↦ subst (Before b) e (before_itself b)
  | inr j ↦ before_third b c d k (h d j)
]
leads_with b bs c i h (inr k) = first c (inr i) λ d at. elim at [ inl e ↦ subst (Before c) e k | inr j ↦ h d j ]

leads_more : (b : Break) (bs : List Break) → Leads bs → Leads (b ∷ bs)
leads_more b [] none = first b (inl refl) λ d at. elim at [ inl e ↦ subst (Before b) e (before_itself b) | inr n ↦ absurd n ]
leads_more b bs (first c i h) = leads_with b bs c i h (before_or_behind b c)

pub leads : (bs : List Break) → Leads bs
leads [] = none
leads (b ∷ bs) = leads_more b bs (leads bs)
