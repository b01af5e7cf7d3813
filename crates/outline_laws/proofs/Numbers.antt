-- Which points are a thread's, and which edges rows have.
use Rattle.std.proofs.Common.{◌≡◌, ℕ, zero, suc, ◌+◌, ◌<◌, ◌≤◌, List, [], ◌∷◌, length, Some, ◌⊎◌, inl, inr, refl, sym, ap, ◌∙◌, subst, ⊎_elim, arith}
use Rattle.std.specs.Prelude.{slice_get}
use Rattle.std.proofs.lemmas.Bool.{cases_lt, cases_eq}
use Rattle.edges.specs.declared.Edge.{Edge}
use Rattle.outlines.specs.Outline.{Part, Parts, Step, Join, Acquire, Release, Wait, Try, Branch, Loop, Inner, Leave, Nil, Cons, Thread, live_all}
use Rattle.outlines.specs.Rows.{Way, Act, Row, row, HasWay, From, row_at, edge, edges_of, edges_from}
use Rattle.outlines.specs.Points.{rows, rows_all, end, end_all, head, takes_end, woken_rows, thread_rows, thread_end, all_rows}
use Rattle.outline_laws.specs.Leading.{first_point}
use Rattle.outline_laws.proofs.Lead.{behind_all}
use Rattle.outline_laws.proofs.Out.{grows_all}

-- the number behind these rows
abbrev pub ends : List Row → ℕ → ℕ
ends [] p = p
ends (r ∷ rs) p = ends rs (suc p)

pub ends_length : (rs : List Row) (p : ℕ) → ends rs p ≡ p + length rs
ends_length [] p = omega arith
ends_length (r ∷ rs) p = omega (arith, ends_length rs (suc p))

ends_woken : (u line r : ℕ) (cs : List ℕ) (p q : ℕ) (more : List Row) → ends (woken_rows u line r cs p q more) p ≡ ends more (suc (takes_end cs p))
ends_woken u line r [] p q more = refl
ends_woken u line r (c ∷ cs) p q more = ends_woken u line r cs (suc p) q more

mutual
  ends_rows : (u : ℕ) (x : Part) (p q back : ℕ) (more : List Row) → ends (rows u x p q back more) p ≡ ends more (end x p)
  ends_rows u (Step line) p q back more = refl
  ends_rows u (Join line) p q back more = refl
  ends_rows u (Acquire line r) p q back more = refl
  ends_rows u (Release line r) p q back more = refl
  ends_rows u (Wait line r cs) p q back more = ends_woken u line r cs (suc (suc p)) q more
  ends_rows u (Try line r a b) p q back more =
      ends_all u a (suc p) q back (rows_all u b (end_all a (suc p)) q back more) ∙ ends_all u b (end_all a (suc p)) q back more
  ends_rows u (Branch line a b) p q back more =
      ends_all u a (suc p) q back (rows_all u b (end_all a (suc p)) q back more) ∙ ends_all u b (end_all a (suc p)) q back more
  ends_rows u (Loop line body) p q back more = ends_all u body (suc p) p back more
  ends_rows u (Inner line f body) p q back more = ends_all u body (suc p) q q more
  ends_rows u (Leave line) p q back more = refl

  pub ends_all : (u : ℕ) (xs : Parts) (p q back : ℕ) (more : List Row) → ends (rows_all u xs p q back more) p ≡ ends more (end_all xs p)
  ends_all u Nil p q back more = refl
  ends_all u (Cons x xs) p q back more =
      ends_rows u x p (head xs (end x p) q) back (rows_all u xs (end x p) q back more) ∙ ends_all u xs (end x p) q back more

pub ends_thread : (u : ℕ) (th : Thread) (p : ℕ) (more : List Row) → ends (thread_rows u th p more) p ≡ ends more (thread_end u th p)
ends_thread zero th p more =
    let e = end_all (live_all th.body) p in
    ends_all 0 (live_all th.body) p e e (row 0 th.end_line Act [] ∷ more)
ends_thread (suc u) th p more =
    let e = end_all (live_all th.body) (suc p) in
    ends_all (suc u) (live_all th.body) (suc p) e e (row (suc u) th.end_line Act [] ∷ more)

-- each thread has a point
pub thread_grows : (u : ℕ) (th : Thread) (p : ℕ) → p < thread_end u th p
thread_grows zero th p = omega (arith, grows_all (live_all th.body) p)
thread_grows (suc u) th p = omega (arith, grows_all (live_all th.body) (suc p))

-- the thread of a point
pub record IsPointOf (t : ℕ) (ths : List Thread) (p i : ℕ) : Type 0 where
  pub number : ℕ
  pub thread : Thread
  pub found : slice_get ths number ≡ Some thread
  pub begun : first_point t ths p number ≤ i
  pub below : i < thread_end (t + number) thread (first_point t ths p number)

pub point_of : (t : ℕ) (ths : List Thread) (p i : ℕ) → p ≤ i → i < ends (all_rows t ths p) p → IsPointOf t ths p i
point_of t [] p i past lt = absurd (omega (arith, past, lt))
point_of t (th ∷ ths) p i past lt =
    let e = thread_end t th p in
    let tops = ends_thread t th p (all_rows (suc t) ths e) in
    let plus : t ≡ t + 0 = omega arith in
    ⊎_elim
    (λ mine. record { number = 0; thread = th; found = refl; begun = past; below = subst (λ k. i < thread_end k th p) plus mine })
    (λ over.
    let r = point_of (suc t) ths e i over (omega (arith, tops, lt)) in
    let later : suc t + r.number ≡ t + suc r.number = omega arith in
    record { number = suc r.number; thread = r.thread; found = r.found; begun = r.begun; below = subst (λ k. i < thread_end k r.thread (first_point (suc t) ths e r.number)) later r.below })
    (cases_lt i e)

-- where a thread ends, no more points than all begin behind it
pub last_within : (t : ℕ) (ths : List Thread) (p u : ℕ) (th : Thread) → slice_get ths u ≡ Some th → thread_end (t + u) th (first_point t ths p u) ≤ ends (all_rows t ths p) p
last_within t [] p u th is = absurd (cc is)
last_within t (x ∷ ths) p zero th is =
    let is' : Some x ≡ Some th = is in
    let same : x ≡ th = grind arith in
    let plus : t ≡ t + 0 = omega arith in
    let e = thread_end t x p in
    let tops = ends_thread t x p (all_rows (suc t) ths e) in
    let far = ends_length (all_rows (suc t) ths e) e in
    let le : thread_end t x p ≤ ends (all_rows t (x ∷ ths) p) p = omega (arith, tops, far) in
    subst (λ k. thread_end k th p ≤ ends (all_rows t (x ∷ ths) p) p) plus (subst (λ y. thread_end t y p ≤ ends (all_rows t (x ∷ ths) p) p) same le)
last_within t (x ∷ ths) p (suc u) th is =
    let e = thread_end t x p in
    let tops = ends_thread t x p (all_rows (suc t) ths e) in
    let r = last_within (suc t) ths e u th is in
    let later : suc t + u ≡ t + suc u = omega arith in
    let r2 = subst (λ k. thread_end k th (first_point (suc t) ths e u) ≤ ends (all_rows (suc t) ths e) e) later r in
    subst (λ m. thread_end (t + suc u) th (first_point (suc t) ths e u) ≤ m) (sym tops) r2

-- rows that src has from p on, with one more before them
from_more : (src : ℕ → Row) (rs : List Row) (p : ℕ) (r : Row) (has : List Row) → ((k : ℕ) → src (suc k) ≡ row_at has k) → From (row_at has) p rs → From src (suc p) rs
from_more src [] p r has same f = tt
from_more src (x ∷ rs) p r has same f = (same p ∙ f.0, from_more src rs (suc p) r has same f.1)

pub from_self : (rs : List Row) → From (row_at rs) 0 rs
from_self [] = tt
from_self (r ∷ rs) = (refl, from_more (row_at (r ∷ rs)) rs 0 r rs (λ k. refl) (from_self rs))

-- an edge is a way of the row of its point
pub record IsWayOf (src : ℕ → Row) (first last : ℕ) (e : Edge) : Type 0 where
  pub begun : first ≤ e.from
  pub below : e.from < last
  pub way : Way
  pub has : HasWay src e.from way
  pub is : edge e.from way ≡ e

edge_in : (p : ℕ) (ws : List Way) (more : List Edge) (k : ℕ) (e : Edge) → slice_get (edges_of p ws more) k ≡ Some e →
    ((j : ℕ) × (w : Way) × (slice_get ws j ≡ Some w) × (edge p w ≡ e)) ⊎ ((j : ℕ) × (slice_get more j ≡ Some e))
edge_in p [] more k e is = inr (k, is)
edge_in p (w ∷ ws) more zero e is =
    let is' : Some (edge p w) ≡ Some e = is in
    let same : edge p w ≡ e = grind arith in
    inl (0, w, refl, same)
edge_in p (w ∷ ws) more (suc k) e is =
    ⊎_elim
    (λ a. inl (suc a.0, a.1, a.2, a.3))
    (λ b. inr b)
    (edge_in p ws more k e is)

pub edge_way : (src : ℕ → Row) (rs : List Row) (p k : ℕ) (e : Edge) → From src p rs → slice_get (edges_from p rs) k ≡ Some e → IsWayOf src p (ends rs p) e
edge_way src [] p k e f is = absurd (cc is)
edge_way src (r ∷ rs) p k e f is =
    let far = ends_length rs (suc p) in
    ⊎_elim
    (λ a.
    let at_p : p ≡ e.from = ap (λ x. x.from) a.3 in
    let lt : p < ends rs (suc p) = omega (arith, far) in
    record {
      begun = omega (arith, at_p);
      below = subst (λ x. x < ends rs (suc p)) at_p lt;
      way = a.1;
      has = (a.0, ap (λ x. slice_get (src x).ways a.0) (sym at_p) ∙ ap (λ x. slice_get x.ways a.0) f.0 ∙ a.2);
      is = ap (λ x. edge x a.1) (sym at_p) ∙ a.3;
    })
    (λ b.
    let w = edge_way src rs (suc p) b.0 e f.1 b.1 in
    let begun = w.begun in
    record { begun = omega (arith, begun); below = w.below; way = w.way; has = w.has; is = w.is })
    (edge_in p r.ways (edges_from (suc p) rs) k e is)

way_in : (p : ℕ) (ws : List Way) (more : List Edge) (j : ℕ) (w : Way) → slice_get ws j ≡ Some w → (k : ℕ) × (slice_get (edges_of p ws more) k ≡ Some (edge p w))
way_in p [] more j w is = absurd (cc is)
way_in p (x ∷ ws) more zero w is =
    let is' : Some x ≡ Some w = is in
    let same : x ≡ w = grind arith in
    (0, ap (λ y. Some (edge p y)) same)
way_in p (x ∷ ws) more (suc j) w is = let r = way_in p ws more j w is in (suc r.0, r.1)

skipped : (p : ℕ) (ws : List Way) (more : List Edge) (k : ℕ) (e : Edge) → slice_get more k ≡ Some e → (j : ℕ) × (slice_get (edges_of p ws more) j ≡ Some e)
skipped p [] more k e is = (k, is)
skipped p (w ∷ ws) more k e is = let r = skipped p ws more k e is in (suc r.0, r.1)

-- and each way is an edge
pub way_edge : (src : ℕ → Row) (rs : List Row) (p i : ℕ) (w : Way) → From src p rs → p ≤ i → i < ends rs p → HasWay src i w → (k : ℕ) × (slice_get (edges_from p rs) k ≡ Some (edge i w))
way_edge src [] p i w f past lt has = absurd (omega (arith, past, lt))
way_edge src (r ∷ rs) p i w f past lt has =
    ⊎_elim
    (λ at_p.
    let r2 = way_in p r.ways (edges_from (suc p) rs) has.0 w (ap (λ x. slice_get x.ways has.0) (sym f.0) ∙ ap (λ x. slice_get (src x).ways has.0) (sym at_p) ∙ has.1) in
    (r2.0, r2.1 ∙ ap (λ x. Some (edge x w)) (sym at_p)))
    (λ ne.
    let r2 = way_edge src rs (suc p) i w f.1 (omega (arith, past, ne)) lt has in
    skipped p r.ways (edges_from (suc p) rs) r2.0 (edge i w) r2.1)
    (cases_eq i p)

-- the last point of a thread has no way out
pub last_row : (src : ℕ → Row) (u : ℕ) (th : Thread) (p : ℕ) (more : List Row) (e : ℕ) → From src p (thread_rows u th p more) → thread_end u th p ≡ suc e → (src e).ways ≡ []
last_row src zero th p more e f is =
    let last = end_all (live_all th.body) p in
    let here = behind_all src 0 (live_all th.body) p last last (row 0 th.end_line Act [] ∷ more) f in
    let same : last ≡ e = omega (arith, is) in
    ap (λ x. (src x).ways) (sym same) ∙ ap (λ r. r.ways) here.0
last_row src (suc u) th p more e f is =
    let last = end_all (live_all th.body) (suc p) in
    let here = behind_all src (suc u) (live_all th.body) (suc p) last last (row (suc u) th.end_line Act [] ∷ more) f.1 in
    let same : last ≡ e = omega (arith, is) in
    ap (λ x. (src x).ways) (sym same) ∙ ap (λ r. r.ways) here.0
