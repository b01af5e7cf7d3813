-- What is noted of breaks is the first of them.
use Rattle.std.proofs.Common.{◌≡◌, ℕ, ◌<◌, ◌≤◌, ◌==◌, Bool, true, false, ◌&&◌, ◌||◌, List, [], ◌∷◌, ◌⊎◌, inl, inr, refl, sym, subst, arith, Some, None, nat_lt, nat_le}
use Rattle.std.specs.declared.option.Option.{Option}
use Rattle.c_rules.specs.Formed.{rank}
use Rattle.c_rules.proofs.Members.{In}
use Rattle.c_acts.specs.declared.first.Break.{Break}
use Rattle.c_acts.specs.First.{comes_first, noted_all}

-- it stands above the other, or at its line and no later in the order of the rules
abbrev pub Before : Break → Break → Type 0
Before a b = (a.line < b.line) ⊎ ((a.line ≡ b.line) × (rank a.rule ≤ rank b.rule))

tested : (a b r s : ℕ) → (nat_lt a b || (a == b) && nat_le r s) ≡ true → (a < b) ⊎ ((a ≡ b) × (r ≤ s))
tested a b r s e = grind arith

not_tested : (a b r s : ℕ) → (nat_lt a b || (a == b) && nat_le r s) ≡ false → (b < a) ⊎ ((b ≡ a) × (s ≤ r))
not_tested a b r s e = grind arith

third : (a b c r s t : ℕ) → (a < b) ⊎ ((a ≡ b) × (r ≤ s)) → (b < c) ⊎ ((b ≡ c) × (s ≤ t)) → (a < c) ⊎ ((a ≡ c) × (r ≤ t))
third a b c r s t h k = grind arith

pub before_third : (a b c : Break) → Before a b → Before b c → Before a c
before_third a b c h k = third a.line b.line c.line (rank a.rule) (rank b.rule) (rank c.rule) h k

pub before_itself : (b : Break) → Before b b
before_itself b = inr (refl, omega arith)

-- one of these is the first, at or before another one
pub record Leads (a : Break) (bs : List Break) (b : Break) : Type 0 where
  pub is : (a ≡ b) ⊎ In b bs
  pub before : Before b a
  pub first : (c : Break) → In c bs → Before b c

-- the first of what was found and of more
pub data Led (bs : List Break) : Option Break → Type 0 where
  none : bs ≡ [] → Led bs None
  one : (b : Break) → In b bs → ((c : Break) → In c bs → Before b c) → Led bs (Some b)

lead_more : (a x : Break) (bs : List Break) (t : Bool) → comes_first a x ≡ t → ((y : Break) → (b : Break) × (noted_all (Some y) bs ≡ Some b) × Leads y bs b)
    → (b : Break) × (noted_all (Some a) (x ∷ bs) ≡ Some b) × Leads a (x ∷ bs) b
lead_more a x bs true e more =
    let m = more a in
    let l = m.2 in
    let ax = tested a.line x.line (rank a.rule) (rank x.rule) e in (
      m.0,
      rw e m.1,
      record {
        is = elim l.is [ inl s ↦ inl s | inr h ↦ inr (inr h) ];
        before = l.before;
        first = λ c h. elim h [ inl s ↦ subst (Before m.0) s (before_third m.0 a x l.before ax) | inr k ↦ l.first c k ];
      },
    )
lead_more a x bs false e more =
    let m = more x in
    let l = m.2 in
    let xa = not_tested a.line x.line (rank a.rule) (rank x.rule) e in (
      m.0,
      rw e m.1,
      record {
        is = inr (elim l.is [ inl s ↦ inl s | inr h ↦ inr h ]);
        before = before_third m.0 x a l.before xa;
        first = λ c h. elim h [ inl s ↦ subst (Before m.0) s l.before | inr k ↦ l.first c k ];
      },
    )

lead : (a : Break) (bs : List Break) → (b : Break) × (noted_all (Some a) bs ≡ Some b) × Leads a bs b
lead a [] = (a, refl, record { is = inl refl; before = before_itself a; first = λ c h. absurd h })
lead a (x ∷ bs) = lead_more a x bs (comes_first a x) refl (λ y. lead y bs)

pub led : (bs : List Break) → Led bs (noted_all None bs)
led [] = none refl
led (x ∷ bs) =
    let m = lead x bs in
    let l = m.2 in
    subst (Led (x ∷ bs)) (sym m.1) (one m.0 l.is (λ c h. elim h [ inl s ↦ subst (Before m.0) s l.before | inr k ↦ l.first c k ]))
