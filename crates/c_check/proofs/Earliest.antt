-- The declaration on the least line.
use Rattle.std.proofs.Common.{◌≡◌, ℕ, ◌≤◌, Bool, true, false, cond, List, [], ◌∷◌, ◌++◌, inl, inr, refl, ap, ◌∙◌, subst, arith, Some, None, nat_le, max}
use Rattle.std.specs.declared.option.Option.{Option}
use Rattle.c_rules.specs.declared.rule.Rule.TheVariants.{Twice}
use Rattle.c_rules.specs.Declarations.{Declaration, earlier, earliest}
use Rattle.c_rules.proofs.Members.{In}
use Rattle.c_names.specs.Tables.{behind}
use Rattle.c_acts.specs.declared.first.Break.{Break}
use Rattle.c_acts.specs.First.{break}
use Rattle.c_acts.specs.Acts.{outer_clash}

-- there is none, or this one is there and on no later line than the others
pub data First (ds : List Declaration) : Option Declaration → Type 0 where
  none : ds ≡ [] → First ds None
  some : (d : Declaration) → In d ds → ((e : Declaration) → In e ds → d.line ≤ e.line) → First ds (Some d)

at_most : (a b : ℕ) → nat_le a b ≡ true → a ≤ b
at_most a b e = grind arith

at_least : (a b : ℕ) → nat_le a b ≡ false → b ≤ a
at_least a b e = grind arith

low : (a b c : ℕ) → a ≤ b → b ≤ c → a ≤ c
low a b c h k = omega arith

first_of_two : (d : Declaration) (ds : List Declaration) (e : Declaration) (t : Bool) → nat_le d.line e.line ≡ t → In e ds → ((c : Declaration) → In c ds → e.line ≤ c.line)
    → First (d ∷ ds) (Some (cond t d e))
first_of_two d ds e true f i h = some d (inl refl) (λ c at. elim at [ inl s ↦ subst (λ x. d.line ≤ x.line) s (omega arith) | inr k ↦ low d.line e.line c.line (at_most d.line e.line f) (h c k) ])
first_of_two d ds e false f i h = some e (inr i) (λ c at. elim at [ inl s ↦ subst (λ x. e.line ≤ x.line) s (at_least d.line e.line f) | inr k ↦ h c k ])

first_more : (d : Declaration) (ds : List Declaration) (o : Option Declaration) → First ds o → First (d ∷ ds) (Some (earlier d o))
first_more d ds None (none e) = some d (inl refl) (λ c at. elim at [ inl s ↦ subst (λ x. d.line ≤ x.line) s (omega arith) | inr k ↦ absurd (subst (In c) e k) ])
first_more d ds (Some e) (some c i h) = first_of_two d ds c (nat_le d.line c.line) refl i h

pub firsts : (ds : List Declaration) → First ds (earliest ds)
firsts [] = none refl
firsts (d ∷ ds) = first_more d ds (earliest ds) (firsts ds)

-- what a clash with the first of some declarations is noted as
pub data Clash (ds : List Declaration) (line : ℕ) (b : Break) : Type 0 where
  clash : (d : Declaration) → In d ds → break Twice (max d.line line) ≡ b → Clash ds line b

clash_with : (ds : List Declaration) (o : Option Declaration) (line : ℕ) (b : Break) → First ds o → In b (outer_clash o line) → Clash ds line b
clash_with ds None line b f h = absurd h
clash_with ds (Some d) line b (some c i first) (inl e) = clash c i e
clash_with ds (Some d) line b (some c i first) (inr n) = absurd n

pub clash_of : (ds : List Declaration) (line : ℕ) (b : Break) → In b (outer_clash (earliest ds) line) → Clash ds line b
clash_of ds line b h = clash_with ds (earliest ds) line b (firsts ds) h

-- a clash with any of them is noted, at a line that is no later
pub data Noted (ds : List Declaration) (line later : ℕ) : Type 0 where
  noted : (d : Declaration) → In (break Twice (max d.line line)) (outer_clash (earliest ds) line) → max d.line line ≤ later → Noted ds line later

low_max : (a b c : ℕ) → a ≤ b → max a c ≤ max b c
low_max a b c h = omega arith

noted_with : (ds : List Declaration) (o : Option Declaration) (e : Declaration) (line : ℕ) → First ds o → o ≡ earliest ds → In e ds → Noted ds line (max e.line line)
noted_with ds None e line (none f) s i = absurd (subst (In e) f i)
noted_with ds (Some c) e line (some d j h) s i =
    noted d (subst (λ x. In (break Twice (max d.line line)) (outer_clash x line)) s (inl refl)) (low_max d.line e.line line (h e i))

pub noted_of : (ds : List Declaration) (e : Declaration) (line : ℕ) → In e ds → Noted ds line (max e.line line)
noted_of ds e line i = noted_with ds (earliest ds) e line (firsts ds) refl i

-- ---- one more declaration

not_above : (a b c : ℕ) → nat_le a b ≡ false → nat_le b c ≡ false → nat_le a c ≡ true → ⊥
not_above a b c e f g = let h = at_least a b e in let k = at_least b c f in let l = at_most a c g in grind (arith, e)

all_above : (a b c : ℕ) → nat_le a b ≡ true → nat_le b c ≡ true → nat_le a c ≡ false → ⊥
all_above a b c e f g = let h = at_most a b e in let k = at_most b c f in grind (arith, g)

step : (x d e : Declaration) (s t u : Bool) → nat_le x.line e.line ≡ s → nat_le e.line d.line ≡ t → nat_le x.line d.line ≡ u → earlier x (Some (behind (Some e) d)) ≡ behind (Some (earlier x (Some e))) d
step x d e true true true a b c = rw (b, a, c) refl
step x d e true true false a b c = absurd (all_above x.line e.line d.line a b c)
step x d e true false u a b c = rw (b, a) refl
step x d e false true u a b c = rw (b, a) (rw b refl)
step x d e false false true a b c = absurd (not_above x.line e.line d.line a b c)
step x d e false false false a b c = rw (b, a, c) (rw b refl)

one_step : (x d : Declaration) (o : Option Declaration) → earlier x (Some (behind o d)) ≡ behind (Some (earlier x o)) d
one_step x d None = refl
one_step x d (Some e) = step x d e (nat_le x.line e.line) (nat_le e.line d.line) (nat_le x.line d.line) refl refl refl

pub earliest_last : (ds : List Declaration) (d : Declaration) → earliest (ds ++ d ∷ []) ≡ Some (behind (earliest ds) d)
earliest_last [] d = refl
earliest_last (x ∷ ds) d = ap (λ o. Some (earlier x o)) (earliest_last ds d) ∙ ap Some (one_step x d (earliest ds))
