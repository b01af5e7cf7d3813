-- Threads begin at the first of their points, and move along the ways of their rows.
use Rattle.std.proofs.Common.{◌≡◌, ℕ, zero, suc, Bool, true, false, List, [], ◌∷◌, refl, sym, ap, ◌∙◌, subst, ⊎_elim, ◌+◌, arith}
use Rattle.std.specs.Prelude.{IsTrue, ◌||◌, slice_get, Some}
use Rattle.edges.specs.declared.EdgeOp.{EdgeOp}
use Rattle.edges.specs.declared.EdgeOp.TheVariants as op
use Rattle.outlines.specs.Outline.{Part, Parts, Step, Join, Acquire, Release, Wait, Try, Branch, Loop, Inner, Leave, Nil, Cons, Thread, joined, passes, passes_all, live_all}
use Rattle.outlines.specs.Moves.{Position, Before, At, Asleep, Woken, Over, behind_leave, PartMoves, MovesTo}
use Rattle.outlines.specs.Rows.{Way, Row, way, row, HasWay, From}
use Rattle.outlines.specs.Points.{rows_all, end_all, head, thread_rows, thread_end, all_rows}
use Rattle.outlines.specs.Leads.{Leads, LeadsAll}
use Rattle.outline_laws.specs.Leading.{ThreadsHaveRows, first_point, LeadsUp, LeadsIn, Located, ThreadsBegin, MovesGoAlong}
use Rattle.outline_laws.proofs.Lead.{behind_all, leads_all, leads_joined}

pub head_is_first : (xs : Parts) (p : ℕ) → head xs p (end_all xs p) ≡ p
head_is_first Nil p = refl
head_is_first (Cons x xs) p = refl

body_begins : (src : ℕ → Row) (t : ℕ) (body : Parts) (p : ℕ) (more : List Row) → From src p (rows_all t (live_all body) p (end_all (live_all body) p) (end_all (live_all body) p) more) → LeadsIn src (end_all (live_all body) p) (body ∷ []) p
body_begins src t body p more f =
    let e = end_all (live_all body) p in
    (e, e, subst (λ n. LeadsAll src e body n e) (head_is_first (live_all body) p) (leads_all src t body p e e more f), refl)

pub threads_begin : ThreadsBegin
threads_begin src zero th p more f = (end_all (live_all th.body) p, refl, body_begins src 0 th.body p (row 0 th.end_line _ [] ∷ more) f)
threads_begin src (suc t) th p more f =
    (end_all (live_all th.body) (suc p), refl, (suc p, refl, ap (λ x. x.ways) f.0, body_begins src (suc t) th.body (suc p) (row (suc t) th.end_line _ [] ∷ more) f.1))

-- what stands behind the rows of a thread
pub behind_thread : (src : ℕ → Row) (t : ℕ) (th : Thread) (p : ℕ) (more : List Row) → From src p (thread_rows t th p more) → From src (thread_end t th p) more
behind_thread src zero th p more f =
    let e = end_all (live_all th.body) p in
    (behind_all src 0 (live_all th.body) p e e (row 0 th.end_line _ [] ∷ more) f).1
behind_thread src (suc t) th p more f =
    let e = end_all (live_all th.body) (suc p) in
    (behind_all src (suc t) (live_all th.body) (suc p) e e (row (suc t) th.end_line _ [] ∷ more) f.1).1

rows_found : (src : ℕ → Row) (t : ℕ) (ths : List Thread) (p u : ℕ) (th : Thread) → From src p (all_rows t ths p) → slice_get ths u ≡ Some th → (more : List Row) × From src (first_point t ths p u) (thread_rows (t + u) th (first_point t ths p u) more)
rows_found src t [] p u th f is = absurd (cc is)
rows_found src t (x ∷ ths) p zero th f is =
    let is' : Some x ≡ Some th = is in
    let same : x ≡ th = grind arith in
    let plus : t ≡ t + 0 = omega arith in (
      all_rows (suc t) ths (thread_end t x p),
      subst (λ n. From src p (thread_rows n th p (all_rows (suc t) ths (thread_end t x p)))) plus
          (subst (λ y. From src p (thread_rows t y p (all_rows (suc t) ths (thread_end t x p)))) same f),
    )
rows_found src t (x ∷ ths) p (suc u) th f is =
    let e = thread_end t x p in
    let r = rows_found src (suc t) ths e u th (behind_thread src t x p (all_rows (suc t) ths e) f) is in
    let plus : suc t + u ≡ t + suc u = omega arith in
    (r.0, subst (λ n. From src (first_point (suc t) ths e u) (thread_rows n th (first_point (suc t) ths e u) r.0)) plus r.1)

pub threads_have_rows : ThreadsHaveRows
threads_have_rows src ths u th f is =
    let r = rows_found src 0 ths 0 u th f is in
    let none : 0 + u ≡ u = omega arith in
    (r.0, subst (λ n. From src (first_point 0 ths 0 u) (thread_rows n th (first_point 0 ths 0 u) r.0)) none r.1)

module _ (src : ℕ → Row) (body : Parts) (first out : ℕ) where
  abbrev Along : ℕ → EdgeOp → Position → Type 0
  Along p does y = (q : ℕ) × HasWay src p (way does q) × Located src body first out y q

  -- the one way, or the first of two
  goes_first : (p q : ℕ) (does o : EdgeOp) (ws : List Way) (x y : Position) → (src p).ways ≡ way o q ∷ ws → does ≡ o → y ≡ x → Located src body first out x q → Along p does y
  goes_first p q does o ws x y is same to at =
      (q, (0, ap (λ w. slice_get w 0) is ∙ ap (λ z. Some (way z q)) (sym same)), subst (λ z. Located src body first out z q) (sym to) at)

  goes_second : (p q : ℕ) (does o : EdgeOp) (w : Way) (x y : Position) → (src p).ways ≡ w ∷ way o q ∷ [] → does ≡ o → y ≡ x → Located src body first out x q → Along p does y
  goes_second p q does o w x y is same to at =
      (q, (1, ap (λ ws. slice_get ws 1) is ∙ ap (λ z. Some (way z q)) (sym same)), subst (λ z. Located src body first out z q) (sym to) at)

  either_left : (a b : Bool) → IsTrue a → IsTrue (a || b)
  either_left true b ok = refl
  either_left false b ok = cc ok

  either_right : (a b : Bool) → IsTrue b → IsTrue (a || b)
  either_right true b ok = refl
  either_right false b ok = ok

  returned : (more : List Parts) (q : ℕ) → LeadsUp src out more q → Located src body first out (behind_leave more) q
  returned [] q up = up
  returned (xs ∷ more) q up = up

  part_along : (x : Part) (xs : Parts) (more : List Parts) (p n back e : ℕ) (does : EdgeOp) (y : Position) →
      Leads src back x p n → (IsTrue (passes x) → LeadsAll src back xs n e) → LeadsUp src out more back → PartMoves x xs more does y → Along p does y
  part_along (Step line) xs more p n back e does y l rest up m = goes_first p n does op.Plain [] (At (xs ∷ more)) y l m.0 m.1 (back, e, rest refl, up)
  part_along (Join line) xs more p n back e does y l rest up m = goes_first p n does op.Plain [] (At (xs ∷ more)) y l.1 m.0 m.1 (back, e, rest refl, up)
  part_along (Acquire line r) xs more p n back e does y l rest up m = goes_first p n does (op.Acquire r) [] (At (xs ∷ more)) y l m.0 m.1 (back, e, rest refl, up)
  part_along (Release line r) xs more p n back e does y l rest up m = goes_first p n does (op.Release r) [] (At (xs ∷ more)) y l m.0 m.1 (back, e, rest refl, up)
  part_along (Wait line r cs) xs more p n back e does y l rest up m =
      goes_first p l.0 does (op.Release r) [] (Asleep r cs (xs ∷ more)) y l.2 m.0 m.1 (l.1, n, l.3, l.4, l.5, (back, e, rest refl, up))
  part_along (Try line r a b) xs more p n back e does y l rest up m =
      ⊎_elim
      (λ t. goes_first p l.0 does (op.Try r) (way op.Plain l.1 ∷ []) (At (joined a xs ∷ more)) y l.2 t.0 t.1
      (back, e, leads_joined src back a xs l.0 n e l.3 (λ ok. rest (either_left (passes_all a) (passes_all b) ok)), up))
      (λ t. goes_second p l.1 does op.Plain (way (op.Try r) l.0) (At (joined b xs ∷ more)) y l.2 t.0 t.1
      (back, e, leads_joined src back b xs l.1 n e l.4 (λ ok. rest (either_right (passes_all a) (passes_all b) ok)), up))
      m
  part_along (Branch line a b) xs more p n back e does y l rest up m =
      ⊎_elim
      (λ t. goes_first p l.0 does op.Plain (way op.Plain l.1 ∷ []) (At (joined a xs ∷ more)) y l.2 t.0 t.1
      (back, e, leads_joined src back a xs l.0 n e l.3 (λ ok. rest (either_left (passes_all a) (passes_all b) ok)), up))
      (λ t. goes_second p l.1 does op.Plain (way op.Plain l.0) (At (joined b xs ∷ more)) y l.2 t.0 t.1
      (back, e, leads_joined src back b xs l.1 n e l.4 (λ ok. rest (either_right (passes_all a) (passes_all b) ok)), up))
      m
  part_along (Loop line b) xs more p n back e does y l rest up m =
      ⊎_elim
      (λ t. goes_first p l.0 does op.Plain (way op.Plain n ∷ []) (At (joined b (Cons (Loop line b) xs) ∷ more)) y l.1 t.0 t.1
      (back, e, leads_joined src back b (Cons (Loop line b) xs) l.0 p e l.2 (λ ok. (n, l, rest)), up))
      (λ t. goes_second p n does op.Plain (way op.Plain l.0) (At (xs ∷ more)) y l.1 t.0 t.1 (back, e, rest refl, up))
      m
  part_along (Inner line g b) xs more p n back e does y l rest up m =
      goes_first p l.0 does op.Plain [] (At (b ∷ xs ∷ more)) y l.2 m.0 m.1 (n, l.1, l.3, (back, e, rest refl, up))
  part_along (Leave line) xs more p n back e does y l rest up m = goes_first p back does op.Plain [] (behind_leave more) y l m.0 m.1 (returned more back up)

  along : (x y : Position) (does : EdgeOp) (p : ℕ) → Located src body first out x p → MovesTo body x does y → Along p does y
  along Before y does p at m = goes_first p at.0 does op.Plain [] (At (body ∷ [])) y at.2 m.0 m.1 at.3
  along (At []) y does p at m = absurd at
  along (At (Nil ∷ more)) y does p at m = absurd m
  along (At (Cons x xs ∷ more)) y does p at m = part_along x xs more p at.2.0 at.0 at.1 does y at.2.1 at.2.2 at.3 m
  along (Asleep r cs left) y does p at m = goes_first p at.0 does op.Plain [] (Woken r cs left) y at.3 m.0 m.1 (at.1, at.4, at.5)
  along (Woken r [] left) y does p at m = goes_first p at.0 does (op.Reacquire r) [] (At left) y at.1 m.0 m.1 at.2
  along (Woken r (c ∷ cs) left) y does p at m =
      goes_first p at.1.0 does (op.Acquire c) [] (Woken r cs left) y at.1.1 m.0 m.1 (at.0, at.1.2, at.2)
  along Over y does p at m = absurd m

pub moves_go_along : MovesGoAlong
moves_go_along src body first out x y does p at m = along src body first out x y does p at m
