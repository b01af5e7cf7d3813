-- Tests of sites and of the members of lists, and lists of lines that are empty.
use Rattle.std.proofs.Common.{Bool, List, [], ap, false, inl, inr, refl, subst, sym, true, ℕ, ◌++◌, ◌||◌, ◌∙◌, ◌∷◌, ◌≡◌}
use Rattle.std.specs.Prelude.{Contains, filter, map}
use Rattle.std.specs.List.{list_any}
use Rattle.c_tree.specs.Lined.{Program, line_of}
use Rattle.c_rules.specs.Sites.{Site, lines_where, sites}
use Rattle.c_rules.proofs.Members.{Image, In, any_of, contains_of, from_filter, from_map, image, in_append_cases, in_append_left, in_append_right, in_filter, in_map, in_of}

pub any_none : {X : Type 0} (test : X → Bool) (xs : List X) → ((x : X) → In x xs → test x ≡ false) → list_any test xs ≡ false
any_none test [] free = refl
any_none test (x ∷ xs) free = ap (λ b. b || list_any test xs) (free x (inl refl)) ∙ any_none test xs (λ y at. free y (inr at))

pub none_any : {X : Type 0} (test : X → Bool) (xs : List X) → list_any test xs ≡ false → (x : X) → In x xs → test x ≡ false
none_any test xs e x at = go (test x) refl
  where
    go : (b : Bool) → test x ≡ b → test x ≡ false
    go false is = is
    go true is = let k = any_of test xs x at is in absurd (cc (k, e))

-- ---- sites

-- where there are none, no site passes
pub none_there : (test : Site → Bool) (p : Program) → ((line : ℕ) → Contains (lines_where test p) line → ⊥) → (y : Site) → In y (sites p) → test y ≡ false
none_there test p free y at = go (test y) refl
  where
    go : (b : Bool) → test y ≡ b → test y ≡ false
    go false e = e
    go true e = absurd (free (line_of y.stmt) (contains_of (lines_where test p) (line_of y.stmt)
        (in_map (λ (s : Site). line_of s.stmt) (filter test (sites p)) y (in_filter test (sites p) y at e))))

-- where no site passes, there are none
pub none_listed : (test : Site → Bool) (q : Program) → ((x : Site) → In x (sites q) → test x ≡ false) → (line : ℕ) → Contains (lines_where test q) line → ⊥
none_listed test q free line at = of (from_map (λ (s : Site). line_of s.stmt) (filter test (sites q)) line (in_of (lines_where test q) line at))
  where
    of : Image (λ (s : Site). line_of s.stmt) (filter test (sites q)) line → ⊥
    of (image x in_q e) =
        let k = from_filter test (sites q) x in_q in
        let f = free x k.0 in
        let t = k.1 in absurd (cc (f, t))

-- ---- lists of lines that are empty

abbrev pub NoLines : List ℕ → Type 0
NoLines xs = (line : ℕ) → In line xs → ⊥

pub no_lines : (xs : List ℕ) → ((line : ℕ) → Contains xs line → ⊥) → NoLines xs
no_lines xs free line at = free line (contains_of xs line at)

pub both : (xs ys : List ℕ) → NoLines xs → NoLines ys → NoLines (xs ++ ys)
both xs ys a b line at = elim (in_append_cases xs ys line at) [ inl h ↦ a line h | inr h ↦ b line h ]

pub first_part : (xs ys : List ℕ) → NoLines (xs ++ ys) → NoLines xs
first_part xs ys a line at = a line (in_append_left xs ys line at)

pub last_part : (xs ys : List ℕ) → NoLines (xs ++ ys) → NoLines ys
last_part xs ys a line at = a line (in_append_right xs ys line at)

-- a test that doesn't look at lines
pub same_lines : {A B : Type 0} (line : A → ℕ) (test : A → Bool) (bared : A → B) (other : B → Bool) → ((a : A) → test a ≡ other (bared a))
    → (xs ys : List A) → map bared xs ≡ map bared ys → NoLines (map line (filter test ys)) → NoLines (map line (filter test xs))
same_lines {A = A} {B = B} line test bared other so xs ys e free n at = of (from_map line (filter test xs) n at)
  where
    back : (x : A) → test x ≡ true → Image bared ys (bared x) → ⊥
    back x is (image y among same) =
        free (line y) (in_map line (filter test ys) y (in_filter test ys y among (so y ∙ (ap other same ∙ (sym (so x) ∙ is)))))

    of : Image line (filter test xs) n → ⊥
    of (image x among same) =
        let k = from_filter test xs x among in back x k.1 (from_map bared ys (bared x) (subst (In (bared x)) e (in_map bared xs x k.0)))
