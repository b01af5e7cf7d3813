-- How many edges a point has.
use Rattle.std.proofs.Common.{◌≡◌, ◌≢◌, ℕ, suc, ◌+◌, ◌<◌, ◌≤◌, List, [], ◌∷◌, Bool, false, length, ◌==◌, refl, sym, ap, ◌∙◌, subst, ⊎_elim, arith}
use Rattle.std.specs.Prelude.{count_by, cond, nat_lt, IsFalse}
use Rattle.std.proofs.lemmas.Bool.{cases_eq, cond-true, cond-false, eq-eqb, le-ltb}
use Rattle.std.proofs.lemmas.Bool.Decides.{eqb_tells}
use Rattle.std.proofs.lemmas.List.Sums.{sum_by-cons}
use Rattle.edges.specs.declared.Edge.{Edge}
use Rattle.outlines.specs.Rows.{Way, Row, From, edge, edges_of, edges_from}

off : (i p : ℕ) → i ≢ p → (i == p) ≡ false
off i p ne = ⊎_elim (λ t. absurd (ne t.1)) (λ f. f.0) (eqb_tells i p)

module _ (p : ℕ) where
  abbrev leaves : Edge → Bool
  leaves e = e.from == p

  mine : (ws : List Way) (more : List Edge) → count_by leaves (edges_of p ws more) ≡ length ws + count_by leaves more
  mine [] more = omega arith
  mine (w ∷ ws) more =
      omega (arith, sum_by-cons (λ z. cond (leaves z) 1 0) (edge p w) (edges_of p ws more), cond-true {A = ℕ} (p == p) 1 0 (eq-eqb p p refl), mine ws more)

  others : (i : ℕ) (ws : List Way) (more : List Edge) → i ≢ p → count_by leaves (edges_of i ws more) ≡ count_by leaves more
  others i [] more ne = refl
  others i (w ∷ ws) more ne =
      omega (arith, sum_by-cons (λ z. cond (leaves z) 1 0) (edge i w) (edges_of i ws more), cond-false {A = ℕ} (i == p) 1 0 (off i p ne), others i ws more ne)

  after : (rs : List Row) (b : ℕ) → p < b → count_by leaves (edges_from b rs) ≡ 0
  after [] b lt = refl
  after (r ∷ rs) b lt =
      let ne : b ≢ p = λ e. omega (arith, e, lt) in
      others b r.ways (edges_from (suc b) rs) ne ∙ after rs (suc b) (omega (arith, lt))

  counted : (src : ℕ → Row) (rs : List Row) (b : ℕ) → From src b rs → b ≤ p → count_by leaves (edges_from b rs) ≤ length (src p).ways
  counted src [] b f le = omega arith
  counted src (r ∷ rs) b f le =
      ⊎_elim
      (λ e.
      let here : r.ways ≡ (src p).ways = ap (λ x. x.ways) (sym f.0) ∙ ap (λ x. (src x).ways) e in
      let all : count_by leaves (edges_of b r.ways (edges_from (suc b) rs)) ≡ length r.ways + count_by leaves (edges_from (suc b) rs) =
      subst (λ x. count_by leaves (edges_of x r.ways (edges_from (suc b) rs)) ≡ length r.ways + count_by leaves (edges_from (suc b) rs)) (sym e) (mine r.ways (edges_from (suc b) rs)) in
      omega (arith, all, after rs (suc b) (omega (arith, e)), ap (λ ws. length ws) here))
      (λ ne. omega (arith, others b r.ways (edges_from (suc b) rs) ne, counted src rs (suc b) f.1 (omega (arith, le, ne))))
      (cases_eq b p)

-- a point with one way has one edge
pub one_edge : (src : ℕ → Row) (rs : List Row) (p : ℕ) (w : Way) → From src 0 rs → (src p).ways ≡ w ∷ [] → IsFalse (nat_lt 1 (count_by (λ e. e.from == p) (edges_from 0 rs)))
one_edge src rs p w f is =
    let one : length (src p).ways ≡ 1 = ap (λ ws. length ws) is in
    le-ltb 1 (count_by (λ e. e.from == p) (edges_from 0 rs)) (omega (arith, counted p src rs 0 f (omega arith), one))
