-- Weights stay below the tokens of their set.
use Rattle.std.proofs.Common.{◌≡◌, ◌≢◌, ℕ, zero, suc, ◌+◌, ◌<◌, ◌≤◌, Bool, true, ◌&&◌, refl, sym, ap, ◌∙◌, subst, ⊎_elim, arith}
use Rattle.std.specs.Prelude.{IsTrue, nat_lt}
use Rattle.std.proofs.lemmas.Bool.{cases_Bool, cases_lt, cases_eq, and_parts, cond-true, cond-false, both_ways, eq-eqb, false≢true, false_from_ne_true, ltb-true}
use Rattle.edges.specs.declared.EdgeOp.{EdgeOp}
use Rattle.edges.specs.declared.EdgeOp.TheVariants.{Plain, Acquire, Try, Reacquire, Release}
use Rattle.edges.specs.declared.Edge.{Edge}
use Rattle.edges.specs.Ops.{takes, gives}
use Rattle.net_laws.specs.Net.{Net, IsNet, HasEdge, one}
use Rattle.net_laws.specs.Siphons.{InSiphon}
use Rattle.net_laws.specs.Candidates.{arc, Reaches, IsCandidate}
use Rattle.net_laws.specs.Lines.{total, tokens_of, held_of}
use Rattle.net_laws.proofs.Sums.{any_from}
use Rattle.net_laws.proofs.Least.{gives-takes, takes_some}
use Rattle.weight_laws.specs.Flow.{Path, IsFlow}
use Rattle.weight_laws.specs.Weights.{IsMarked, weight, is_quiet, Follows, IsMoved}
use Rattle.weight_laws.proofs.Along.{gives_some}

pub total_le : (k : ℕ) (R : ℕ → Bool) (f g : ℕ → ℕ) → ((r : ℕ) → r < k → R r ≡ true → f r ≤ g r) → total k R f ≤ total k R g
total_le zero R f g le = omega arith
total_le (suc k) R f g le =
    let before = total_le k R f g (λ r lt. le r (omega arith)) in
    ⊎_elim
    (λ on. omega (arith, before, le k (omega arith) on, cond-true (R k) (f k) 0 on, cond-true (R k) (g k) 0 on))
    (λ off. omega (arith, before, cond-false (R k) (f k) 0 off, cond-false (R k) (g k) 0 off))
    (cases_Bool (R k))

-- equal sums of terms that are at most the others have equal terms
total_full : (k : ℕ) (R : ℕ → Bool) (f g : ℕ → ℕ) → ((r : ℕ) → r < k → R r ≡ true → f r ≤ g r) → total k R g ≤ total k R f → (r : ℕ) → r < k → R r ≡ true → f r ≡ g r
total_full zero R f g le all r lt in_R = absurd (omega arith)
total_full (suc k) R f g le all r lt in_R =
    let small : (s : ℕ) → s < k → R s ≡ true → f s ≤ g s = λ s below. le s (omega arith) in
    let before = total_le k R f g small in
    ⊎_elim
    (λ on.
    let f_k = cond-true (R k) (f k) 0 on in
    let g_k = cond-true (R k) (g k) 0 on in
    let le_k = le k (omega arith) on in
    ⊎_elim
    (λ below. total_full k R f g small (omega (arith, all, f_k, g_k, le_k)) r below in_R)
    (λ last. let same : r ≡ k = omega arith in subst (λ x. f x ≡ g x) (sym same) (omega (arith, all, f_k, g_k, le_k, before)))
    (cases_lt r k))
    (λ off.
    let f_k = cond-false (R k) (f k) 0 off in
    let g_k = cond-false (R k) (g k) 0 off in
    ⊎_elim
    (λ below. total_full k R f g small (omega (arith, all, f_k, g_k)) r below in_R)
    (λ last. let same : r ≡ k = omega arith in absurd (both_ways (R k) off (subst (λ x. R x ≡ true) same in_R)))
    (cases_lt r k))
    (cases_Bool (R k))

term_le : (k : ℕ) (R : ℕ → Bool) (f : ℕ → ℕ) (r : ℕ) → r < k → R r ≡ true → f r ≤ total k R f
term_le zero R f r lt in_R = absurd (omega arith)
term_le (suc k) R f r lt in_R =
    ⊎_elim
    (λ below. omega (arith, term_le k R f r below in_R))
    (λ last. let same : r ≡ k = omega arith in
    omega (arith, cond-true (R k) (f k) 0 (subst (λ x. R x ≡ true) same in_R), ap f same))
    (cases_lt r k)

two_terms : (k : ℕ) (R : ℕ → Bool) (f : ℕ → ℕ) (r s : ℕ) → r < k → s < k → r ≢ s → R r ≡ true → R s ≡ true → f r + f s ≤ total k R f
two_terms zero R f r s lt below ne in_r in_s = absurd (omega arith)
two_terms (suc k) R f r s lt below ne in_r in_s =
    ⊎_elim
    (λ e. let here = cond-true (R k) (f k) 0 (subst (λ x. R x ≡ true) e in_r) in
    omega (arith, here, ap f e, term_le k R f s (omega arith) in_s))
    (λ r_ne. ⊎_elim
    (λ e. let here = cond-true (R k) (f k) 0 (subst (λ x. R x ≡ true) e in_s) in
    omega (arith, here, ap f e, term_le k R f r (omega arith) in_r))
    (λ s_ne. omega (arith, two_terms k R f r s (omega arith) (omega arith) ne in_r in_s))
    (cases_eq s k))
    (cases_eq r k)

-- from a point that holds all tokens of the set, the way out gives one back before it takes one
leads_out : (n : Net) → IsFlow n → (R : ℕ → Bool) → ((r : ℕ) → IsTrue (R r) → r < n.resources) → (r : ℕ) → IsTrue (R r) → (k p q : ℕ) → p < n.points → Path n p q k → ((s : ℕ) → n.held q s ≡ 0) → ((s : ℕ) → IsTrue (R s) → n.held p s ≡ n.tokens s) → InSiphon n R p
leads_out n flow R named r in_R zero p q lt path empty full =
    absurd (omega (arith, flow.net.filled r (named r in_R), full r in_R, subst (λ x. n.held x r ≡ 0) (sym path) (empty r)))
leads_out n flow R named r in_R (suc k) p q lt path empty full =
    let e = path.0 in
    let there = (flow.shaped.leads e path.1).1 in
    let here : (s : ℕ) → IsTrue (R s) → n.held e.from s ≡ n.tokens s = λ s in_s. ap (λ x. n.held x s) path.2 ∙ full s in_s in
    ⊎_elim
    (λ g. (0, (e, path.1, path.2, g)))
    (λ none. ⊎_elim
    (λ t. absurd (omega (arith, flow.net.accounts e t.0 path.1, here t.0 t.1, ap one t.2, ap one (none t.0 t.1), flow.fitting.fits e.to t.0 there (named t.0 t.1))))
    (λ free.
    let l = leads_out n flow R named r in_R k e.to q there path.3 empty
    (λ s in_s. omega (arith, flow.net.accounts e s path.1, here s in_s, ap one (free s in_s), ap one (none s in_s))) in
    (suc l.0, (e, path.1, path.2, free, l.1)))
    (takes_some e.op R))
    (gives_some e.op R)

pub below : (n : Net) (R S : ℕ → Bool) → IsFlow n → IsMarked n R S → ((r : ℕ) × IsTrue (R r)) → (p : ℕ) → p < n.points → weight n R S p < tokens_of n R
below n R S flow marked some p lt =
    let le : (r : ℕ) → r < n.resources → R r ≡ true → n.held p r ≤ n.tokens r = λ r named in_R. flow.fitting.fits p r lt named in
    let sum = total_le n.resources R (n.held p) n.tokens le in
    let least = term_le n.resources R n.tokens some.0 (marked.named some.0 some.1) some.1 in
    ⊎_elim
    (λ less. omega (arith, less))
    (λ all.
    let out = flow.ends p lt in
    let l = leads_out n flow R marked.named some.0 some.1 out.0 p out.1 lt out.2 out.3
    (λ s in_s. total_full n.resources R (n.held p) n.tokens le all s (marked.named s in_s) in_s) in
    omega (arith, sum, least, flow.net.filled some.0 (marked.named some.0 some.1), ap one ((marked.exact p).1 l)))
    (cases_lt (held_of n R p) (tokens_of n R))

pub follows_within : (n : Net) → IsFlow n → (k p q : ℕ) → p < n.points → Follows n p q k → q < n.points
follows_within n flow zero p q lt path = subst (λ x. x < n.points) path lt
follows_within n flow (suc k) p q lt path = follows_within n flow k path.0.to q (flow.shaped.leads path.0 path.1).1 path.4

pub moved_below : (n : Net) (R S : ℕ → Bool) (m : ℕ → ℕ) → IsFlow n → IsMarked n R S → IsMoved n R S m → ((r : ℕ) × IsTrue (R r)) → (p : ℕ) → p < n.points → m p < tokens_of n R
moved_below n R S m flow marked moved some p lt =
    let r = moved.met p in omega (arith, r.3, below n R S flow marked some r.1 (follows_within n flow r.0 p r.1 lt r.2))

first_arc : (n : Net) (R : ℕ → Bool) (a b k : ℕ) → IsTrue (R b) → Reaches n R a b k → (c : ℕ) × IsTrue (R c) × IsTrue (arc n a c)
first_arc n R a b zero in_b r = (b, in_b, r)
first_arc n R a b (suc k) in_b r = (r.0, r.1, r.2)

pub two : (n : Net) (R : ℕ → Bool) → IsFlow n → IsCandidate n R → 2 ≤ tokens_of n R
two n R flow candidate =
    let r = candidate.some.0 in
    let in_r = candidate.some.1 in
    let way = candidate.joined r r in_r in_r in
    let a = first_arc n R r r way.0 in_r way.1 in
    let s = a.0 in
    let x = any_from (λ e. nat_lt 0 (n.held e.from r) && takes e.op s) n.edges a.2 in
    let e = x.1 in
    let parts = and_parts _ _ x.3 in
    let has : HasEdge n e = (x.0, x.2) in
    let lt_r = candidate.named r in_r in
    let lt_s = candidate.named s a.1 in
    let held : 0 < n.held e.from r = ltb-true _ _ parts.0 in
    ⊎_elim
    (λ same.
    let took : takes e.op r ≡ true = subst (λ y. takes e.op y ≡ true) (sym same) parts.1 in
    omega (
      arith,
      held,
      flow.net.accounts e r has,
      ap one took,
      ap one (false_from_ne_true (gives e.op r) (λ g. gives-takes e.op r r g took)),
      flow.fitting.fits e.to r (flow.shaped.leads e has).1 lt_r,
      term_le n.resources R n.tokens r lt_r in_r,
    ))
    (λ ne. omega (arith, flow.net.filled r lt_r, flow.net.filled s lt_s, two_terms n.resources R n.tokens r s lt_r lt_s ne in_r a.1))
    (cases_eq r s)

-- where nothing is held, nothing is held behind an edge that takes nothing
empty_next : (n : Net) → IsNet n → (e : Edge) → HasEdge n e → (o : EdgeOp) → e.op ≡ o → IsTrue (is_quiet o) → ((r : ℕ) → n.held e.from r ≡ 0) → (r : ℕ) → n.held e.to r ≡ 0
empty_next n net e has Plain is quiet none r = omega (arith, net.accounts e r has, none r, ap (λ o. one (takes o r)) is, ap (λ o. one (gives o r)) is)
empty_next n net e has (Acquire q) is quiet none r = absurd (false≢true quiet)
empty_next n net e has (Try q) is quiet none r = absurd (false≢true quiet)
empty_next n net e has (Reacquire q) is quiet none r = absurd (false≢true quiet)
empty_next n net e has (Release q) is quiet none r =
    let gave : gives e.op q ≡ true = subst (λ o. gives o q ≡ true) (sym is) (eq-eqb q q refl) in
    absurd (omega (arith, net.accounts e q has, none q, ap one gave, ap (λ o. one (takes o q)) is))

-- a sum of nothing
pub total_none : (k : ℕ) (R : ℕ → Bool) (f : ℕ → ℕ) → ((r : ℕ) → f r ≡ 0) → total k R f ≡ 0
total_none zero R f none = refl
total_none (suc k) R f none =
    ⊎_elim
    (λ on. omega (arith, total_none k R f none, none k, cond-true (R k) (f k) 0 on))
    (λ off. omega (arith, total_none k R f none, cond-false (R k) (f k) 0 off))
    (cases_Bool (R k))

empty_path : (n : Net) (R S : ℕ → Bool) → IsNet n → (k p q : ℕ) → Follows n p q k → ((r : ℕ) → n.held p r ≡ 0) → weight n R S q ≡ 0
empty_path n R S net zero p q path none =
    omega (arith, total_none n.resources R (n.held q) (λ r. subst (λ x. n.held x r ≡ 0) path (none r)))
empty_path n R S net (suc k) p q path none =
    let e = path.0 in
    let quiet = (and_parts _ _ path.3).0 in
    empty_path n R S net k e.to q path.4 (empty_next n net e path.1 e.op refl quiet (λ r. subst (λ x. n.held x r ≡ 0) (sym path.2) (none r)))

pub empty : (n : Net) (R S : ℕ → Bool) (m : ℕ → ℕ) → IsNet n → IsMoved n R S m → (p : ℕ) → ((r : ℕ) → n.held p r ≡ 0) → m p ≡ 0
empty n R S m net moved p none = let r = moved.met p in sym r.3 ∙ empty_path n R S net r.0 p r.1 r.2 none
