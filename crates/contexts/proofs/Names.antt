-- Names among others, and what a list leaves known.
use Rattle.std.specs.Prelude.{◌≡◌, ℕ, Bool, true, false, ◌||◌, if◌then◌else◌, List, [], ◌∷◌, ◌++◌, bytes_eq, Some, None}
use Rattle.std.proofs.Common.{refl, ap, ◌∙◌}
use Rattle.c_tree.specs.Expressions.{Expr}
use Rattle.c_tree.specs.Lined.{Stmt, Stmts, Nil, Cons, Declare, While, For, bare_stmt, bare_stmts}
use Rattle.c_tree.specs.Bare as bare
use Rattle.contexts.specs.Constants.{Constants, Weaker, among, without, known_declared, known_after, known_end, before, declared, declared_all}

or_false : (a b : Bool) → (a || b) ≡ false → (a ≡ false) × (b ≡ false)
or_false true b e = absurd (cc e)
or_false false b e = (refl, e)

-- a name that is in none of two lists joined is in neither
pub in_neither : (q : List ℕ) (xs ys : List (List ℕ)) → among (xs ++ ys) q ≡ false → (among xs q ≡ false) × (among ys q ≡ false)
in_neither q [] ys e = (refl, e)
in_neither q (x ∷ xs) ys e =
    let parts = or_false (bytes_eq q x) (among (xs ++ ys) q) e in
    let later = in_neither q xs ys parts.1 in (ap (λ b. b || among xs q) parts.0 ∙ later.0, later.1)

pub in_none : (q : List ℕ) (xs ys : List (List ℕ)) → among xs q ≡ false → among ys q ≡ false → among (xs ++ ys) q ≡ false
in_none q [] ys ex ey = ey
in_none q (x ∷ xs) ys ex ey =
    let parts = or_false (bytes_eq q x) (among xs q) ex in ap (λ b. b || among (xs ++ ys) q) parts.0 ∙ in_none q xs ys parts.1 ey

pub in_first : (q : List ℕ) (xs ys : List (List ℕ)) → among xs q ≡ true → among (xs ++ ys) q ≡ true
in_first q [] ys e = absurd (cc e)
in_first q (x ∷ xs) ys e = by (bytes_eq q x) (λ there. in_first q xs ys there) e
  where
    by : (b : Bool) → (among xs q ≡ true → among (xs ++ ys) q ≡ true) → (b || among xs q) ≡ true → (b || among (xs ++ ys) q) ≡ true
    by true later e = refl
    by false later e = later e

pub in_second : (q : List ℕ) (xs ys : List (List ℕ)) → among ys q ≡ true → among (xs ++ ys) q ≡ true
in_second q [] ys e = e
in_second q (x ∷ xs) ys e = by (bytes_eq q x) (in_second q xs ys e)
  where
    by : (b : Bool) → among (xs ++ ys) q ≡ true → (b || among (xs ++ ys) q) ≡ true
    by true later = refl
    by false later = later

-- ---- what is known

pub without_weaker : (names : List (List ℕ)) (known : Constants) → Weaker (without names known) known
without_weaker names known name z e = by (among names name) e
  where
    by : (b : Bool) → (if b then None else known name) ≡ Some z → known name ≡ Some z
    by true e = absurd (cc e)
    by false e = e

-- what a statement doesn't declare stays known behind it
pub known_stays : (writes : List (List ℕ)) (known : Constants) (s : Stmt) (q : List ℕ) → among (declared s) q ≡ false → known_after writes known s q ≡ known q
known_stays writes known (Declare line name e) q other =
    ap (λ b. if b then known_declared writes known name e else known q) (or_false (bytes_eq q name) false other).0
known_stays writes known s q other = ap (λ b. if b then None else known q) other

pub end_stays : (writes : List (List ℕ)) (known : Constants) (a : Stmts) (q : List ℕ) → among (declared_all a) q ≡ false → known_end writes known a q ≡ known q
end_stays writes known Nil q other = refl
end_stays writes known (Cons s rest) q other =
    let parts = in_neither q (declared s) (declared_all rest) other in
    end_stays writes (known_after writes known s) rest q parts.1 ∙ known_stays writes known s q parts.0

-- what is known without the names that a list declares is known behind the list
pub without_end : (writes names : List (List ℕ)) (known : Constants) (a : Stmts) → ((q : List ℕ) → among names q ≡ false → among (declared_all a) q ≡ false)
    → Weaker (without names known) (known_end writes known a)
without_end writes names known a inside q z e = by (among names q) refl e
  where
    by : (b : Bool) → among names q ≡ b → (if b then None else known q) ≡ Some z → known_end writes known a q ≡ Some z
    by true is e = absurd (cc e)
    by false is e = end_stays writes known a q (inside q is) ∙ e

-- ---- a list before another

pub bare_before : (a rest : Stmts) → bare_stmts (before a rest) ≡ bare.before (bare_stmts a) (bare_stmts rest)
bare_before Nil rest = refl
bare_before (Cons s a) rest = ap (λ r. bare.Cons (bare_stmt s) r) (bare_before a rest)

pub end_before : (writes : List (List ℕ)) (known : Constants) (a rest : Stmts) → known_end writes known (before a rest) ≡ known_end writes (known_end writes known a) rest
end_before writes known Nil rest = refl
end_before writes known (Cons s a) rest = end_before writes (known_after writes known s) a rest

-- what is declared in neither of two lists isn't in both
pub none_before : (q : List ℕ) (a b : Stmts) → among (declared_all a) q ≡ false → among (declared_all b) q ≡ false → among (declared_all (before a b)) q ≡ false
none_before q Nil b ea eb = eb
none_before q (Cons s a) b ea eb =
    let parts = in_neither q (declared s) (declared_all a) ea in in_none q (declared s) (declared_all (before a b)) parts.0 (none_before q a b parts.1 eb)

-- what is known behind a `for` is known behind its first part and its loop
pub loop_grows : (writes : List (List ℕ)) (known : Constants) (line : ℕ) (first_part : Stmts) (test : Expr) (step body : Stmts)
    → Weaker (known_after writes known (For line first_part test step body)) (known_after writes (known_end writes known first_part) (While line test (before body step)))
loop_grows writes known line first_part test step body q z e = by (among (declared_all first_part ++ declared_all step ++ declared_all body) q) refl e
  where
    by : (c : Bool) → among (declared_all first_part ++ declared_all step ++ declared_all body) q ≡ c → (if c then None else known q) ≡ Some z
        → (if among (declared_all (before body step)) q then None else known_end writes known first_part q) ≡ Some z
    by true is e = absurd (cc e)
    by false is e =
        let parts = in_neither q (declared_all first_part ++ declared_all step) (declared_all body) is in
        let two = in_neither q (declared_all first_part) (declared_all step) parts.0 in
        ap (λ b. if b then None else known_end writes known first_part q) (none_before q body step parts.1 two.1) ∙ end_stays writes known first_part q two.0 ∙ e
