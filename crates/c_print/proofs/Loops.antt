-- Loops that add the text of one item after another: what is added and what is left make the whole.
use Rattle.std.proofs.Common.{◌≡◌, ℕ, ◌+◌, ◌<◌, ◌≤◌, Bool, true, false, List, [], ◌∷◌, ◌++◌, length, get_or, drop, map, refl, sym, ◌∙◌, ap, arith, append_assoc, append-nil}
use Rattle.std.specs.Prelude.{◌&&◌}
use Rattle.std.specs.List.{flat_map}
use Rattle.std.proofs.lemmas.List.{drop_more, drop_all}
use Rattle.c_tree.specs.declared.stmt.Stmt as declared
use Rattle.c_tree.specs.Lined.{stmt_of, stmts_of, bare_stmt, bare_stmts}
use Rattle.c_canonical.specs.Statements.{is_if, is_chain}

-- one turn
pub turn_at : {X : Type 0} (T : List X → List ℕ) (xs : List X) (i : ℕ) (x d : X) (piece old now next : List ℕ) → i < length xs → x ≡ get_or xs i d
    → ((more : List X) → T (x ∷ more) ≡ piece ++ T more) → next ≡ now ++ piece → now ++ T (drop i xs) ≡ old → next ++ T (drop (i + 1) xs) ≡ old
turn_at T xs i x d piece old now next within is adds e h =
    let here : drop i xs ≡ x ∷ drop (i + 1) xs = drop_more xs i d within ∙ ap (λ y. y ∷ drop (i + 1) xs) (sym is) in
    ap (λ y. y ++ T (drop (i + 1) xs)) e ∙ append_assoc now piece (T (drop (i + 1) xs))
    ∙ ap (λ y. now ++ y) (sym (ap T here ∙ adds (drop (i + 1) xs))) ∙ h

pub turn : {X : Type 0} (T : List X → List ℕ) (xs : List X) (i : ℕ) (x : X) (piece old now next : List ℕ) → i < length xs → x ≡ get_or xs i x
    → ((more : List X) → T (x ∷ more) ≡ piece ++ T more) → next ≡ now ++ piece → now ++ T (drop i xs) ≡ old → next ++ T (drop (i + 1) xs) ≡ old
turn T xs i x piece old now next within is adds e h = turn_at T xs i x x piece old now next within is adds e h

-- the end
pub ended : {X : Type 0} (T : List X → List ℕ) (xs : List X) (i : ℕ) (old now : List ℕ) → length xs ≤ i → T [] ≡ [] → now ++ T (drop i xs) ≡ old → now ≡ old
ended T xs i old now all none h = sym (ap (λ y. now ++ y) (ap T (drop_all i xs all) ∙ none) ∙ append-nil now) ∙ h

-- two statements and more are no chain
pub long_chain : (ss : List declared.Stmt) → 2 ≤ length ss → false ≡ is_chain (bare_stmts (stmts_of ss))
long_chain [] h = absurd (omega arith)
long_chain (s ∷ []) h = absurd (omega arith)
long_chain (s ∷ t ∷ ss) h = by (is_if (bare_stmt (stmt_of s)))
  where
    by : (x : Bool) → false ≡ (x && false)
    by true = refl
    by false = refl

-- a list of what each item of another list gives
pub mapped : {A B C : Type 0} (f : B → List C) (g : A → B) (xs : List A) → flat_map f (map g xs) ≡ flat_map (λ x. f (g x)) xs
mapped f g [] = refl
mapped f g (x ∷ xs) = ap (λ ys. f (g x) ++ ys) (mapped f g xs)
