-- What is noted of declarations outside functions, and what is broken by them.
use Rattle.std.proofs.Common.{◌≡◌, ℕ, ◌≤◌, Bool, true, false, List, [], ◌∷◌, ◌++◌, inl, inr, map, refl, sym, ap, ◌∙◌, subst, arith, max, bytes_eq, append-nil, append_assoc}
use Rattle.std.specs.declared.option.Option.{Option}
use Rattle.std.proofs.lemmas.List.Elements.{filter-append}
use Rattle.std.proofs.lemmas.Slice.Eq.{bytes_eq-Decides}
use Rattle.c_tree.specs.declared.program.Mode.{Mode}
use Rattle.c_rules.specs.declared.rule.Rule.TheVariants.{Reserved, Twice}
use Rattle.c_rules.specs.Declarations.{Declaration, named, earliest}
use Rattle.c_rules.specs.Naming.{is_taken_for, outer_pairs}
use Rattle.c_rules.proofs.Members.{In, in_append_left, in_append_right, in_append_cases, in_map, in_filter, from_map, from_filter, Image, image}
use Rattle.c_acts.specs.declared.first.Break.{Break}
use Rattle.c_acts.specs.First.{break, break_if}
use Rattle.c_acts.specs.Acts.{outer_clash}
use Rattle.c_check.specs.Outer.{declaration_breaks, one_joined, all_joined, outer_breaks}
use Rattle.c_check.proofs.Firsts.{Before}
use Rattle.c_check.proofs.Where.{in_if, from_if}
use Rattle.c_check.proofs.Outers.{same_told}
use Rattle.c_check.proofs.Earliest.{Clash, clash, clash_of, Noted, noted, noted_of, earliest_last}

-- what these declarations tell
abbrev pub told : List Declaration → List ℕ → Option Declaration
told ds name = earliest (named name ds)

told_last : (before : List Declaration) (d : Declaration) (name : List ℕ) → one_joined (told before) d name ≡ told (before ++ d ∷ []) name
told_last before d name = go (bytes_eq d.name name) refl ∙ sym (ap earliest (filter-append (λ x. bytes_eq x.name name) before (d ∷ [])))
  where
    go : (t : Bool) → bytes_eq d.name name ≡ t → one_joined (told before) d name ≡ earliest (named name before ++ named name (d ∷ []))
    go true e = rw e (sym (earliest_last (named name before) d))
    go false e = rw e (sym (ap earliest (append-nil (named name before))))

pub told_more : (before : List Declaration) (d : Declaration) → one_joined (told before) d ≡ told (before ++ d ∷ [])
told_more before d = same_told (one_joined (told before) d) (told (before ++ d ∷ [])) (told_last before d)

pub all_told : (before ds : List Declaration) → all_joined (told before) ds ≡ told (before ++ ds)
all_told before [] = ap told (sym (append-nil before))
all_told before (d ∷ ds) = ap (λ x. all_joined x ds) (told_more before d) ∙ all_told (before ++ d ∷ []) ds ∙ ap told (append_assoc before (d ∷ []) ds)

same_way : (a b : List ℕ) → bytes_eq a b ≡ true → bytes_eq b a ≡ true
same_way a b e = (bytes_eq-Decides b a).1 (sym ((bytes_eq-Decides a b).0 e))

-- ---- what is noted is broken

pub pair_in : (xs : List Declaration) (e d : Declaration) (rest : List Declaration) → In e xs → bytes_eq e.name d.name ≡ true → In (max e.line d.line) (outer_pairs (xs ++ d ∷ rest))
pair_in [] e d rest i same = absurd i
pair_in (x ∷ xs) e d rest (inl is) same =
    subst (λ y. In (max y.line d.line) (outer_pairs (x ∷ xs ++ d ∷ rest))) is
    (in_append_left (map (λ y. max x.line y.line) (named x.name (xs ++ d ∷ rest))) (outer_pairs (xs ++ d ∷ rest)) (max x.line d.line)
    (in_map (λ (y : Declaration). max x.line y.line) (named x.name (xs ++ d ∷ rest)) d
    (in_filter (λ y. bytes_eq y.name x.name) (xs ++ d ∷ rest) d (in_append_right xs (d ∷ rest) d (inl refl)) (same_way x.name d.name (subst (λ y. bytes_eq y.name d.name ≡ true) (sym is) same)))))
pair_in (x ∷ xs) e d rest (inr i) same = in_append_right (map (λ y. max x.line y.line) (named x.name (xs ++ d ∷ rest))) (outer_pairs (xs ++ d ∷ rest)) (max e.line d.line) (pair_in xs e d rest i same)

pub data OuterBreak (mode : Mode) (all : List Declaration) (b : Break) : Type 0 where
  kept : (d : Declaration) → In d all → is_taken_for mode d.name d.thing ≡ true → break Reserved d.line ≡ b → OuterBreak mode all b
  twice : (line : ℕ) → In line (outer_pairs all) → break Twice line ≡ b → OuterBreak mode all b

clash_broken : (mode : Mode) (before : List Declaration) (d : Declaration) (rest : List Declaration) (b : Break) → Clash (named d.name before) d.line b → OuterBreak mode (before ++ d ∷ rest) b
clash_broken mode before d rest b (clash e i eq) = let k = from_filter (λ x. bytes_eq x.name d.name) before e i in twice (max e.line d.line) (pair_in before e d rest k.0 k.1) eq

pub outer_sound : (mode : Mode) (before ds : List Declaration) (b : Break) → In b (outer_breaks mode (told before) ds) → OuterBreak mode (before ++ ds) b
outer_sound mode before [] b h = absurd h
outer_sound mode before (d ∷ ds) b h = elim (in_append_cases (declaration_breaks mode (told before) d) (outer_breaks mode (one_joined (told before) d) ds) b h) [
  | inl k ↦ elim (in_append_cases (break_if (is_taken_for mode d.name d.thing) Reserved d.line) (outer_clash (told before d.name) d.line) b k) [
    | inl q ↦ let r = from_if _ Reserved d.line b q in kept d (in_append_right before (d ∷ ds) d (inl refl)) r.0 r.1
    | inr q ↦ clash_broken mode before d ds b (clash_of (named d.name before) d.line b q)
  ]
  | inr k ↦ subst (λ all. OuterBreak mode all b) (append_assoc before (d ∷ []) ds)
      (outer_sound mode (before ++ d ∷ []) ds b (subst (λ x. In b (outer_breaks mode x ds)) (told_more before d) k))
]

-- ---- what is broken is noted, or something before it

pub kept_noted : (mode : Mode) (before : List ℕ → Option Declaration) (ds : List Declaration) (d : Declaration) → In d ds → is_taken_for mode d.name d.thing ≡ true
    → In (break Reserved d.line) (outer_breaks mode before ds)
kept_noted mode before [] d i e = absurd i
kept_noted mode before (x ∷ ds) d (inl is) e =
    in_append_left (declaration_breaks mode before x) (outer_breaks mode (one_joined before x) ds) (break Reserved d.line)
    (in_append_left (break_if (is_taken_for mode x.name x.thing) Reserved x.line) (outer_clash (before x.name) x.line) (break Reserved d.line)
    (subst (λ y. In (break Reserved y.line) (break_if (is_taken_for mode x.name x.thing) Reserved x.line)) is
    (in_if (is_taken_for mode x.name x.thing) Reserved x.line (subst (λ y. is_taken_for mode y.name y.thing ≡ true) (sym is) e))))
kept_noted mode before (x ∷ ds) d (inr i) e = in_append_right (declaration_breaks mode before x) (outer_breaks mode (one_joined before x) ds) (break Reserved d.line) (kept_noted mode (one_joined before x) ds d i e)

-- a break that is noted at or before this one
pub data Covered (w : List Break) (b : Break) : Type 0 where
  covered : (c : Break) → In c w → Before c b → Covered w b

pub covered_right : (v w : List Break) (b : Break) → Covered w b → Covered (v ++ w) b
covered_right v w b (covered c i h) = covered c (in_append_right v w c i) h

pub covered_left : (v w : List Break) (b : Break) → Covered v b → Covered (v ++ w) b
covered_left v w b (covered c i h) = covered c (in_append_left v w c i) h

pub sooner : (a b : ℕ) → a ≤ b → Before (break Twice a) (break Twice b)
sooner a b h = grind arith

clash_noted : (mode : Mode) (before : List Declaration) (x : Declaration) (later : ℕ) → Noted (named x.name before) x.line later → Covered (declaration_breaks mode (told before) x) (break Twice later)
clash_noted mode before x later (noted d i h) =
    covered (break Twice (max d.line x.line)) (in_append_right (break_if (is_taken_for mode x.name x.thing) Reserved x.line) (outer_clash (told before x.name) x.line) (break Twice (max d.line x.line)) i)
    (sooner (max d.line x.line) later h)

pair_noted : (mode : Mode) (before ds : List Declaration) (e d : Declaration) → In e before → In d ds → bytes_eq e.name d.name ≡ true
    → Covered (outer_breaks mode (told before) ds) (break Twice (max e.line d.line))
pair_noted mode before [] e d i j same = absurd j
pair_noted mode before (x ∷ ds) e d i (inl is) same =
    covered_left (declaration_breaks mode (told before) x) (outer_breaks mode (one_joined (told before) x) ds) (break Twice (max e.line d.line))
    (subst (λ y. Covered (declaration_breaks mode (told before) x) (break Twice (max e.line y.line))) is
    (clash_noted mode before x (max e.line x.line)
    (noted_of (named x.name before) e x.line (in_filter (λ y. bytes_eq y.name x.name) before e i (subst (λ y. bytes_eq e.name y.name ≡ true) (sym is) same)))))
pair_noted mode before (x ∷ ds) e d i (inr j) same =
    covered_right (declaration_breaks mode (told before) x) (outer_breaks mode (one_joined (told before) x) ds) (break Twice (max e.line d.line))
    (subst (λ y. Covered (outer_breaks mode y ds) (break Twice (max e.line d.line))) (sym (told_more before x))
    (pair_noted mode (before ++ x ∷ []) ds e d (in_append_left before (x ∷ []) e i) j same))

pair_of : (mode : Mode) (before : List Declaration) (x : Declaration) (ds : List Declaration) (line : ℕ) → Image (λ (e : Declaration). max x.line e.line) (named x.name ds) line
    → Covered (outer_breaks mode (told (before ++ x ∷ [])) ds) (break Twice line)
pair_of mode before x ds line (image e i is) =
    let k = from_filter (λ y. bytes_eq y.name x.name) ds e i in
    subst (λ n. Covered (outer_breaks mode (told (before ++ x ∷ [])) ds) (break Twice n)) is
    (pair_noted mode (before ++ x ∷ []) ds x e (in_append_right before (x ∷ []) x (inl refl)) k.0 (same_way e.name x.name k.1))

pub pairs_noted : (mode : Mode) (before ds : List Declaration) (line : ℕ) → In line (outer_pairs ds) → Covered (outer_breaks mode (told before) ds) (break Twice line)
pairs_noted mode before [] line h = absurd h
pairs_noted mode before (x ∷ ds) line h =
    covered_right (declaration_breaks mode (told before) x) (outer_breaks mode (one_joined (told before) x) ds) (break Twice line)
    (subst (λ y. Covered (outer_breaks mode y ds) (break Twice line)) (sym (told_more before x))
    (elim (in_append_cases (map (λ e. max x.line e.line) (named x.name ds)) (outer_pairs ds) line h) [
      | inl k ↦ pair_of mode before x ds line (from_map (λ (e : Declaration). max x.line e.line) (named x.name ds) line k)
      | inr k ↦ pairs_noted mode (before ++ x ∷ []) ds line k
    ]))
