-- What holds of counts along ways, and the net of threads with them.
use Rattle.std.proofs.Common.{◌≡◌, ℕ, zero, suc, ◌+◌, ◌-◌, ◌<◌, ◌≤◌, List, [], ◌∷◌, length, replicate, Some, refl, sym, ap, ◌∙◌, subst, ⊎_elim, arith}
use Rattle.std.specs.Prelude.{slice_index, slice_get, ◌==◌}
use Rattle.std.proofs.lemmas.Bool.Decides.{eqb_tells}
use Rattle.std.proofs.lemmas.List.{length-set, get_or-set_same, get_or-set_other, length-replicate}
use Rattle.edges.specs.declared.EdgeOp.{EdgeOp}
use Rattle.edges.specs.declared.EdgeOp.TheVariants as op
use Rattle.edges.specs.declared.Edge.{Edge}
use Rattle.edges.specs.Ops.{takes, gives}
use Rattle.net_laws.specs.Net.{Net, HasEdge, IsNet, one}
use Rattle.weight_laws.specs.Flow.{Path}
use Rattle.outlines.specs.Outline.{Thread}
use Rattle.outlines.specs.Rows.{Way, Joining, HasWay, row_at}
use Rattle.outlines.specs.Points.{all_rows, thread_end}
use Rattle.outline_laws.specs.Leading.{first_point}
use Rattle.outline_laws.specs.Reaching.{Goes}
use Rattle.outline_laws.specs.Nets.{IsLastFor}
use Rattle.outline_laws.proofs.Move.{threads_have_rows}
use Rattle.outline_laws.proofs.Numbers.{from_self, last_row, last_within, ends, ends_length}
use Rattle.outline_laws.proofs.Named.{OpBelow, all_below, op_below}
use Rattle.outline_laws.proofs.Reach.{points_are_reached}
use Rattle.outline_laws.proofs.Placed.{placed, rows_of, src_of, way_of, from_below, within, blocks_alone, takes_named, gives_named, paths_end, leads_within}
use Rattle.held_counts.specs.Counts.{raise, lower}
use Rattle.held_counts.specs.Held.{acted, IsAllowed, IsKept, BeginsWith}
use Rattle.held_counts.specs.Nets.{nothing_of, IsHeldNetOf, HasTokens, CountsAreOne}
use Rattle.held_counts.proofs.Kept.{Once, once_raise, once_lower}
use Rattle.held_counts.proofs.Whole.{walks_keep}

-- the number of a resource of which there is a token is in the list
index_in : (xs : List ℕ) (r : ℕ) → 0 < slice_index xs r → r < length xs
index_in [] r lt = absurd (omega (arith, lt))
index_in (x ∷ xs) zero lt = omega arith
index_in (x ∷ xs) (suc r) lt = omega (arith, index_in xs r lt)

pub all_none : (n r : ℕ) → slice_index (replicate n 0) r ≡ 0
all_none zero r = refl
all_none (suc n) zero = refl
all_none (suc n) (suc r) = all_none n r

raised : (here : List ℕ) (q r : ℕ) → q < length here → slice_index (raise here q) r ≡ slice_index here r + one (q == r)
raised here q r lt = ⊎_elim
    (λ t.
    let at_r : slice_index (raise here q) r ≡ slice_index here q + 1 = ap (λ x. slice_index (raise here q) x) (sym t.1) ∙ get_or-set_same here q (slice_index here q + 1) 0 lt in
    let same : slice_index here q ≡ slice_index here r = ap (λ x. slice_index here x) t.1 in
    let counted : one (q == r) ≡ 1 = ap (λ b. one b) t.0 in
    omega (arith, at_r, same, counted))
    (λ f.
    let at_r = get_or-set_other here q r (slice_index here q + 1) 0 (λ e. f.1 (sym e)) in
    let counted : one (q == r) ≡ 0 = ap (λ b. one b) f.0 in
    omega (arith, at_r, counted))
    (eqb_tells q r)

lowered : (here : List ℕ) (q r : ℕ) → 0 < slice_index here q → slice_index (lower here q) r + one (q == r) ≡ slice_index here r
lowered here q r has = ⊎_elim
    (λ t.
    let at_r : slice_index (lower here q) r ≡ slice_index here q - 1 = ap (λ x. slice_index (lower here q) x) (sym t.1) ∙ get_or-set_same here q (slice_index here q - 1) 0 (index_in here q has) in
    let same : slice_index here q ≡ slice_index here r = ap (λ x. slice_index here x) t.1 in
    let counted : one (q == r) ≡ 1 = ap (λ b. one b) t.0 in
    omega (arith, at_r, same, counted, has))
    (λ f.
    let at_r = get_or-set_other here q r (slice_index here q - 1) 0 (λ e. f.1 (sym e)) in
    let counted : one (q == r) ≡ 0 = ap (λ b. one b) f.0 in
    omega (arith, at_r, counted))
    (eqb_tells q r)

pub account : (m : ℕ) (does : EdgeOp) (here : List ℕ) (r : ℕ) → OpBelow (length here) does → IsAllowed m does here → slice_index (acted does here) r + one (gives does r) ≡ slice_index here r + one (takes does r)
account m op.Plain here r below may = refl
account m (op.Acquire q) here r below may = omega (arith, raised here q r below)
account m (op.Try q) here r below may = omega (arith, raised here q r below)
account m (op.Reacquire q) here r below may = omega (arith, raised here q r below)
account m (op.Release q) here r below may = omega (arith, lowered here q r may)

pub kept_length : (does : EdgeOp) (here : List ℕ) → length (acted does here) ≡ length here
kept_length op.Plain here = refl
kept_length (op.Acquire q) here = length-set here q (slice_index here q + 1)
kept_length (op.Try q) here = length-set here q (slice_index here q + 1)
kept_length (op.Reacquire q) here = length-set here q (slice_index here q + 1)
kept_length (op.Release q) here = length-set here q (slice_index here q - 1)

kept_once : (m : ℕ) (does : EdgeOp) (here : List ℕ) → IsAllowed m does here → Once m here → Once m (acted does here)
kept_once m op.Plain here may once = once
kept_once m (op.Acquire q) here may once = once_raise m here q once may
kept_once m (op.Try q) here may once = once_raise m here q once may
kept_once m (op.Reacquire q) here may once = once_raise m here q once may
kept_once m (op.Release q) here may once = once_lower m here q once

-- what ways keep holds at each point, where it holds at the first points
goes_on : (ths : List Thread) (P : ℕ → Type 0) → ((i : ℕ) (w : Way) → i < length (rows_of ths) → HasWay (src_of ths) i w → P i → P w.to) →
    (k p q : ℕ) → p < length (rows_of ths) → Goes (src_of ths) p q k → P p → P q
goes_on ths P step zero p q lt g at = subst (λ x. P x) g at
goes_on ths P step (suc k) p q lt g at = goes_on ths P step k g.0.to q (within ths p g.0 lt g.1) g.2 (step p g.0 lt g.1 at)

everywhere : (ths : List Thread) (P : ℕ → Type 0) → ((i : ℕ) (w : Way) → i < length (rows_of ths) → HasWay (src_of ths) i w → P i → P w.to) →
    ((u : ℕ) (th : Thread) → slice_get ths u ≡ Some th → P (first_point 0 ths 0 u)) → (p : ℕ) → p < length (rows_of ths) → P p
everywhere ths P step first p lt =
    let at = placed ths p lt in
    let begun = at.begun in
    let r = points_are_reached (src_of ths) at.number at.thread (first_point 0 ths 0 at.number) at.more at.stands p at.begun at.below in
    goes_on ths P step r.0 (first_point 0 ths 0 at.number) p (omega (arith, begun, lt)) r.1 (first at.number at.thread at.found)

pub counts_are_one : CountsAreOne
counts_are_one m nothing ths left right kept_l begins_l kept_r begins_r i lt =
    everywhere ths (λ p. left p ≡ right p)
    (λ p w below has same. (kept_l p below).account w has ∙ ap (λ c. acted w.op c) same ∙ sym ((kept_r p below).account w has))
    (λ u th is. begins_l u th is ∙ sym (begins_r u th is)) i lt

module _ (n : Net) (ths : List Thread) (counts : ℕ → List ℕ) (h : IsHeldNetOf n ths counts) where
  abbrev Kept : ℕ → Type 0
  Kept i = IsKept n.mutexes (nothing_of n) (src_of ths) counts i

  keeps : ((i : ℕ) → i < length (rows_of ths) → Kept i) × BeginsWith (nothing_of n) counts ths
  keeps = walks_keep n.mutexes (nothing_of n) ths (src_of ths) counts (from_self (rows_of ths)) h.counted h.whole (λ r lt. all_none n.resources r) h.accepted

  point_in : (p : ℕ) → p < n.points → p < length (rows_of ths)
  point_in p lt = let points = h.net.points in omega (arith, lt, points)

  pub counts_full : (p : ℕ) → p < n.points → length (counts p) ≡ n.resources
  counts_full p lt =
      everywhere ths (λ q. length (counts q) ≡ n.resources)
      (λ q w below has long. ap (λ c. length c) ((keeps.0 q below).account w has) ∙ kept_length w.op (counts q) ∙ long)
      (λ u th is. ap (λ c. length c) (keeps.1 u th is) ∙ length-replicate n.resources 0) p (point_in p lt)

  once_at : (p : ℕ) → p < n.points → Once n.mutexes (counts p)
  once_at p lt =
      everywhere ths (λ q. Once n.mutexes (counts q))
      (λ q w below has once. subst (λ c. Once n.mutexes c) (sym ((keeps.0 q below).account w has)) (kept_once n.mutexes w.op (counts q) ((keeps.0 q below).allowed w has) once))
      (λ u th is. subst (λ c. Once n.mutexes c) (sym (keeps.1 u th is)) (λ r below. omega (arith, all_none n.resources r))) p (point_in p lt)

  pub held_once : (p r : ℕ) → p < n.points → r < n.mutexes → n.held p r ≤ 1
  held_once p r lt below = omega (arith, h.held p r lt, once_at p lt r below)

  accounts : (e : Edge) (r : ℕ) → HasEdge n e → n.held e.to r + one (gives e.op r) ≡ n.held e.from r + one (takes e.op r)
  accounts e r has =
      let w = way_of n ths h.net e has in
      let below = from_below n ths h.net e has in
      let leads = leads_within n ths h.net e has in
      let k = keeps.0 e.from below in
      let named = op_below n.resources (src_of ths) (rows_of ths) 0 e.from w.way (all_below n.resources 0 ths 0 h.named) (from_self (rows_of ths)) w.begun w.below w.has in
      let fits = subst (λ x. OpBelow x w.way.op) (sym (counts_full e.from leads.0)) named in
      let acc = account n.mutexes w.way.op (counts e.from) r fits (k.allowed w.way w.has) in
      let at_to : counts e.to ≡ acted w.way.op (counts e.from) = ap (λ x. counts x.to) (sym w.is) ∙ k.account w.way w.has in
      let on_way : slice_index (counts e.to) r + one (gives w.way.op r) ≡ slice_index (counts e.from) r + one (takes w.way.op r) = ap (λ c. slice_index c r + one (gives w.way.op r)) at_to ∙ acc in
      let on_edge : slice_index (counts e.to) r + one (gives e.op r) ≡ slice_index (counts e.from) r + one (takes e.op r) =
      subst (λ x. slice_index (counts e.to) r + one (gives x r) ≡ slice_index (counts e.from) r + one (takes x r)) (ap (λ x. x.op) w.is) on_way in
      omega (arith, on_edge, h.held e.to r leads.1, h.held e.from r leads.0)

  pub is_net : HasTokens n → IsNet n
  is_net filled = record {
    accounts = accounts;
    sole = λ e f r has also same on. blocks_alone n ths h.net e f r has also same on;
    taken = λ e r has on. takes_named n ths h.net n.resources h.named e r has on;
    given = λ e r has on. gives_named n ths h.net n.resources h.named e r has on;
    filled = filled;
  }

  pub paths_let_go : (p : ℕ) → p < n.points → (k q : ℕ) × Path n p q k × ((r : ℕ) → n.held q r ≡ 0)
  paths_let_go p lt =
      let r = paths_end n ths h.net p lt in
      let last = r.3 in
      let stands = threads_have_rows (src_of ths) ths last.number last.thread (from_self (rows_of ths)) last.found in
      let within_q : r.1 < length (rows_of ths) = last_in p r.1 last in
      let ways = last_row (src_of ths) last.number last.thread (first_point 0 ths 0 last.number) stands.0 r.1 stands.1 (last.last ∙ omega arith) in
      let points = h.net.points in
      let none = (keeps.0 r.1 within_q).ends ways in
      (r.0, r.1, r.2, (λ s. h.held r.1 s (omega (arith, within_q, points)) ∙ ap (λ c. slice_index c s) none ∙ all_none n.resources s))
    where
      last_in : (p q : ℕ) → IsLastFor ths p q → q < length (rows_of ths)
      last_in p q last =
          let all = ends_length (rows_of ths) 0 in
          let end_at = last.last in
          let none : 0 + last.number ≡ last.number = omega arith in
          let within_all = subst (λ k. thread_end k last.thread (first_point 0 ths 0 last.number) ≤ ends (rows_of ths) 0) none (last_within 0 ths 0 last.number last.thread last.found) in
          omega (arith, all, end_at, within_all)

  pub joins_let_go : (p : ℕ) → p < n.points → (row_at (all_rows 0 ths 0) p).kind ≡ Joining → (r : ℕ) → n.held p r ≡ 0
  joins_let_go p lt is r = h.held p r lt ∙ ap (λ c. slice_index c r) ((keeps.0 p (point_in p lt)).joins is) ∙ all_none n.resources r
