-- The create statements of a list by their numbers.
use Rattle.std.proofs.Common.{Bool, List, ap, arith, cond, false, inl, inr, length, not, refl, subst, suc, sym, true, zero, ℕ, ◌++◌, ◌+◌, ◌∙◌, ◌∷◌, ◌≡◌}
use Rattle.std.specs.Prelude.{None, Some, map, nat_lt, position, slice_get}
use Rattle.std.specs.List.{position_or_len}
use Rattle.c_tree.specs.Lined.{Cons, Create, Function, Nil, Stmt, Stmts, bare_stmts}
use Rattle.c_tree.specs.Expressions.{Expr, Place}
use Rattle.c_tree.specs.Numbering.{Creation, creations_of, same_slot}
use Rattle.c_rules.specs.Sites.{Site, declared, inner_site, inside, own_site, sites_from}
use Rattle.c_rules.specs.Threads.{creates_in}
use Rattle.c_rules.proofs.Members.{Image, In, from_map, image, in_append_cases, in_append_right}
use Rattle.rule_facts.proofs.Fixing.{FixedCreate}
use Rattle.rule_facts.proofs.Tests.{none_any}

-- what stands before a list stands before each of its statements
pub before_in : (f : ℕ × Function) (before : List Stmt) (scope : List (List ℕ)) (ss : Stmts) (x : Site) → In x (sites_from f before scope ss) → (b : Stmt) → In b before → In b x.before
before_in f before scope Nil x at b h = absurd at
before_in f before scope (Cons s rest) x at b h =
    elim (in_append_cases (map (inner_site f before s) (inside scope s)) (own_site f before scope s ∷ sites_from f (s ∷ before) (declared s ++ scope) rest) x at) [
      | inl k ↦ of (from_map (inner_site f before s) (inside scope s) x k)
      | inr k ↦ elim k [
        | inl e ↦ subst (λ (z : Site). In b z.before) e h
        | inr l ↦ before_in f (s ∷ before) (declared s ++ scope) rest x l b (inr h)
      ]
    ]
  where
    of : Image (inner_site f before s) (inside scope s) x → In b x.before
    of (image y among e) = subst (λ (z : Site). In b z.before) e h

-- ---- positions

zero_below : (n : ℕ) → nat_lt 0 (suc n) ≡ true
zero_below n = grind arith

one_below : (n len : ℕ) → nat_lt n len ≡ true → nat_lt (1 + n) (suc len) ≡ true
one_below n len h = grind arith

where_some : (b : Bool) (n k : ℕ) → cond b (Some n) None ≡ Some k → (b ≡ true) × (n ≡ k)
where_some true n k e = (refl, cc e)
where_some false n k e = absurd (cc e)

one_and : (n k : ℕ) → n ≡ k → 1 + n ≡ suc k
one_and n k e = omega arith

first_position : {X : Type 0} (test : X → Bool) (x : X) (xs : List X) → test x ≡ true → position test (x ∷ xs) ≡ Some 0
first_position test x xs e =
    ap (λ b. cond (nat_lt (cond (not b) (1 + position_or_len test xs) 0) (suc (length xs))) (Some (cond (not b) (1 + position_or_len test xs) 0)) None) e
    ∙ ap (λ b. cond b (Some 0) None) (zero_below (length xs))

later_position : {X : Type 0} (test : X → Bool) (x : X) (xs : List X) (k : ℕ) → test x ≡ false → position test xs ≡ Some k → position test (x ∷ xs) ≡ Some (suc k)
later_position test x xs k e h =
    let n = position_or_len test xs in
    let w = where_some (nat_lt n (length xs)) n k h in
    ap (λ b. cond (nat_lt (cond (not b) (1 + n) 0) (suc (length xs))) (Some (cond (not b) (1 + n) 0)) None) e
    ∙ (ap (λ b. cond b (Some (1 + n)) None) (one_below n (length xs) w.0) ∙ ap (λ m. Some m) (one_and n k w.1))

-- ---- the site of a creation

pub data CreationSite (f : ℕ × Function) (before : List Stmt) (scope : List (List ℕ)) (ss : Stmts) (c : Creation) : Type 0 where
  creation_site : (x : Site) (line : ℕ) → In x (sites_from f before scope ss) → x.own ≡ true → x.stmt ≡ Create line c.slot c.function c.arg → CreationSite f before scope ss c

site_later : (f : ℕ × Function) (before : List Stmt) (scope : List (List ℕ)) (s : Stmt) (rest : Stmts) (c : Creation) → CreationSite f (s ∷ before) (declared s ++ scope) rest c → CreationSite f before scope (Cons s rest) c
site_later f before scope s rest c (CreationSite.creation_site x line at own is) =
    CreationSite.creation_site x line (in_append_right (map (inner_site f before s) (inside scope s)) (own_site f before scope s ∷ sites_from f (s ∷ before) (declared s ++ scope) rest) x (inr at)) own is

site_here : (f : ℕ × Function) (before : List Stmt) (scope : List (List ℕ)) (s : Stmt) (rest : Stmts) (k : ℕ) (c : Creation) → slice_get (creations_of (bare_stmts (Cons s rest))) k ≡ Some c
    → ((j : ℕ) → slice_get (creations_of (bare_stmts rest)) j ≡ Some c → CreationSite f (s ∷ before) (declared s ++ scope) rest c) → CreationSite f before scope (Cons s rest) c
site_here f before scope (Create line slot name arg) rest zero c e later =
    let self = own_site f before scope (Create line slot name arg) in
    let equal : record { slot = slot; function = name; arg = arg } ≡ c = cc e in
    CreationSite.creation_site self line (inl refl) refl (ap (λ (d : Creation). Create line d.slot d.function d.arg) equal)
site_here f before scope (Create line slot name arg) rest (suc k) c e later = site_later f before scope (Create line slot name arg) rest c (later k e)
site_here f before scope s rest k c e later = site_later f before scope s rest c (later k e)

pub site_of_creation : (f : ℕ × Function) (before : List Stmt) (scope : List (List ℕ)) (ss : Stmts) (k : ℕ) (c : Creation) → slice_get (creations_of (bare_stmts ss)) k ≡ Some c → CreationSite f before scope ss c
site_of_creation f before scope Nil k c e = absurd (cc e)
site_of_creation f before scope (Cons s rest) k c e = site_here f before scope s rest k c e (λ j d. site_of_creation f (s ∷ before) (declared s ++ scope) rest j c d)

-- ---- the first creation in a slot

-- each create statement of a list has a slot of its own
abbrev pub SlotsDiffer : ℕ × Function → List Stmt → List (List ℕ) → Stmts → Type 0
SlotsDiffer f before scope ss =
    (x : Site) (line : ℕ) (slot : Place) (name : List ℕ) (arg : Expr) → In x (sites_from f before scope ss) → x.stmt ≡ Create line slot name arg → FixedCreate x slot

nth_here : (f : ℕ × Function) (before : List Stmt) (scope : List (List ℕ)) (s : Stmt) (rest : Stmts) (k : ℕ) (c : Creation) → slice_get (creations_of (bare_stmts (Cons s rest))) k ≡ Some c
    → SlotsDiffer f before scope (Cons s rest)
    → ((j : ℕ) → slice_get (creations_of (bare_stmts rest)) j ≡ Some c → position (λ (d : Creation). same_slot d.slot c.slot) (creations_of (bare_stmts rest)) ≡ Some j)
    → position (λ (d : Creation). same_slot d.slot c.slot) (creations_of (bare_stmts (Cons s rest))) ≡ Some k
nth_here f before scope (Create line slot name arg) rest zero c e differ later =
    let self = own_site f before scope (Create line slot name arg) in
    let first : Creation = record { slot = slot; function = name; arg = arg } in
    let equal : first ≡ c = cc e in
    let fixed_one = differ self line slot name arg (inl refl) refl in
    subst (λ (d : Creation). position (λ (b : Creation). same_slot b.slot d.slot) (creations_of (bare_stmts (Cons (Create line slot name arg) rest))) ≡ Some 0) equal
    (first_position (λ (b : Creation). same_slot b.slot slot) first (creations_of (bare_stmts rest)) fixed_one.itself)
nth_here f before scope (Create line slot name arg) rest (suc k) c e differ later =
    later_position (λ (b : Creation). same_slot b.slot c.slot) (record { slot = slot; function = name; arg = arg }) (creations_of (bare_stmts rest)) k
    (by (site_of_creation f (Create line slot name arg ∷ before) scope rest k c e)) (later k e)
  where
    by : CreationSite f (Create line slot name arg ∷ before) scope rest c → same_slot slot c.slot ≡ false
    by (CreationSite.creation_site x l at own is) =
        none_any (creates_in c.slot) x.before (differ x l c.slot c.function c.arg (inr at) is).first (Create line slot name arg)
        (before_in f (Create line slot name arg ∷ before) scope rest x at (Create line slot name arg) (inl refl))
nth_here f before scope s rest k c e differ later = later k e

pub nth_first : (f : ℕ × Function) (before : List Stmt) (scope : List (List ℕ)) (ss : Stmts) (k : ℕ) (c : Creation) → slice_get (creations_of (bare_stmts ss)) k ≡ Some c → SlotsDiffer f before scope ss
    → position (λ (d : Creation). same_slot d.slot c.slot) (creations_of (bare_stmts ss)) ≡ Some k
nth_first f before scope Nil k c e differ = absurd (cc e)
nth_first f before scope (Cons s rest) k c e differ =
    nth_here f before scope s rest k c e differ (λ j d. nth_first f (s ∷ before) (declared s ++ scope) rest j c d
    (λ x line slot name arg at is. differ x line slot name arg (in_append_right (map (inner_site f before s) (inside scope s)) (own_site f before scope s ∷ sites_from f (s ∷ before) (declared s ++ scope) rest) x (inr at)) is))

-- ---- the number of a create statement

-- the number of a create statement of a list
pub data Numbered (ss : Stmts) (c : Creation) : Type 0 where
  numbered_as : (k : ℕ) → slice_get (creations_of (bare_stmts ss)) k ≡ Some c → Numbered ss c

number_later : (s : Stmt) (rest : Stmts) (c : Creation) → Numbered rest c → Numbered (Cons s rest) c
number_later (Create line slot name arg) rest c (Numbered.numbered_as k e) = Numbered.numbered_as (suc k) e
number_later s rest c (Numbered.numbered_as k e) = Numbered.numbered_as k e

pub number_of_create : (f : ℕ × Function) (before : List Stmt) (scope : List (List ℕ)) (ss : Stmts) (x : Site) (line : ℕ) (slot : Place) (name : List ℕ) (arg : Expr) → In x (sites_from f before scope ss) → x.own ≡ true
    → x.stmt ≡ Create line slot name arg → Numbered ss (record { slot = slot; function = name; arg = arg })
number_of_create f before scope Nil x line slot name arg at own is = absurd at
number_of_create f before scope (Cons s rest) x line slot name arg at own is =
    elim (in_append_cases (map (inner_site f before s) (inside scope s)) (own_site f before scope s ∷ sites_from f (s ∷ before) (declared s ++ scope) rest) x at) [
      | inl k ↦ absurd (of (from_map (inner_site f before s) (inside scope s) x k))
      | inr k ↦ elim k [
        | inl e ↦ subst (λ t. Numbered (Cons t rest) (record { slot = slot; function = name; arg = arg })) (sym (ap (λ (z : Site). z.stmt) e ∙ is)) (Numbered.numbered_as 0 refl)
        | inr l ↦ number_later s rest (record { slot = slot; function = name; arg = arg }) (number_of_create f (s ∷ before) (declared s ++ scope) rest x line slot name arg l own is)
      ]
    ]
  where
    of : Image (inner_site f before s) (inside scope s) x → ⊥
    of (image y among e) = let k : false ≡ true = ap (λ (z : Site). z.own) e ∙ own in absurd (cc k)
