-- Where no name is declared that is known, a block leaves known what was.
use Rattle.std.specs.Prelude.{◌≡◌, ℕ, Bool, true, false, ◌||◌, if◌then◌else◌, List, [], ◌∷◌, ◌++◌, bytes_eq, None}
use Rattle.std.proofs.Common.{refl, ap, sym, ◌∙◌}
use Rattle.c_tree.specs.Lined.{Stmt, Declare}
use Rattle.contexts.specs.Constants.{Constants, among, without, known_declared, known_after, declared}
use Rattle.contexts.proofs.Names.{in_first, in_second}
use Rattle.context_items.specs.Unshadowed.{Disjoint, own_name}

-- none of these names is known
abbrev pub Fresh : Constants → List (List ℕ) → Type 0
Fresh known names = (q : List ℕ) → among names q ≡ true → known q ≡ None

pub same_constants : (a b : Constants) → ((q : List ℕ) → a q ≡ b q) → a ≡ b
same_constants a b same = λ i q. same q i

pub without_fresh : (known : Constants) (names : List (List ℕ)) → Fresh known names → without names known ≡ known
without_fresh known names fresh = same_constants (without names known) known (λ q. go q (among names q) refl)
  where
    go : (q : List ℕ) (b : Bool) → among names q ≡ b → (if b then None else known q) ≡ known q
    go q true is = sym (fresh q is)
    go q false is = refl

pub fresh_first : (known : Constants) (xs ys : List (List ℕ)) → Fresh known (xs ++ ys) → Fresh known xs
fresh_first known xs ys fresh q is = fresh q (in_first q xs ys is)

pub fresh_second : (known : Constants) (xs ys : List (List ℕ)) → Fresh known (xs ++ ys) → Fresh known ys
fresh_second known xs ys fresh q is = fresh q (in_second q xs ys is)

without_none : (known : Constants) (names : List (List ℕ)) (q : List ℕ) → known q ≡ None → without names known q ≡ None
without_none known names q none = go (among names q)
  where
    go : (b : Bool) → (if b then None else known q) ≡ None
    go true = refl
    go false = none

-- behind a statement, where it doesn't declare one of these names itself
pub fresh_after : (writes : List (List ℕ)) (known : Constants) (s : Stmt) (names : List (List ℕ)) → Disjoint (own_name s) names → Fresh known names → Fresh (known_after writes known s) names
fresh_after writes known (Declare line name e) names apart fresh q is = go (bytes_eq q name) refl
  where
    go : (b : Bool) → bytes_eq q name ≡ b → (if b then known_declared writes known name e else known q) ≡ None
    go true same = absurd (let here : among (name ∷ []) q ≡ true = ap (λ b. b || false) same in let bad : true ≡ false = sym is ∙ apart q here in cc bad)
    go false other = fresh q is
fresh_after writes known s names apart fresh q is = without_none known (declared s) q (fresh q is)
