-- The rows of a thread have the shape of their kinds, and lead to points of the thread.
use Rattle.std.proofs.Common.{◌≡◌, ℕ, zero, suc, ◌<◌, ◌≤◌, List, [], ◌∷◌, Some, ◌⊎◌, inl, inr, refl, sym, ap, ◌∙◌, subst, ⊎_elim, arith}
use Rattle.std.specs.Prelude.{slice_get}
use Rattle.std.proofs.lemmas.Bool.{cases_lt, cases_eq}
use Rattle.edges.specs.declared.EdgeOp.{EdgeOp}
use Rattle.edges.specs.declared.EdgeOp.TheVariants as op
use Rattle.outlines.specs.Outline.{Part, Parts, Step, Join, Acquire, Release, Wait, Try, Branch, Loop, Inner, Leave, Nil, Cons, live_all}
use Rattle.outlines.specs.Rows.{Way, Kind, Act, Test, Sleeping, Waking, Joining, Trying, Row, way, row, From}
use Rattle.outlines.specs.Points.{rows, rows_all, end, end_all, head, takes_end, woken_rows}
use Rattle.outline_laws.specs.Shapes.{is_inside, IsOutside, WakesAt, SleepsAt, HaveShape, IsRowOf, RowsHaveShape}
use Rattle.outline_laws.proofs.Lead.{behind, behind_all}
use Rattle.outline_laws.proofs.Move.{head_is_first}
use Rattle.outline_laws.proofs.Out.{takes_grow, grows, grows_all}

pub one_of : (x w : Way) (j : ℕ) → slice_get (x ∷ []) j ≡ Some w → x ≡ w
one_of x w zero e = let e' : Some x ≡ Some w = e in grind arith
one_of x w (suc j) e = absurd (cc e)

pub one_of_two : (x y w : Way) (j : ℕ) → slice_get (x ∷ y ∷ []) j ≡ Some w → (x ≡ w) ⊎ (y ≡ w)
one_of_two x y w zero e = let e' : Some x ≡ Some w = e in inl (grind arith)
one_of_two x y w (suc zero) e = let e' : Some y ≡ Some w = e in inr (grind arith)
one_of_two x y w (suc (suc j)) e = absurd (cc e)

module _ (src : ℕ → Row) (u lo top : ℕ) where
  abbrev IsWithin : ℕ → Type 0
  IsWithin q = (lo ≤ q) × (q < top)

  abbrev IsPlace : ℕ → Type 0
  IsPlace q = IsWithin q × IsOutside src q

  abbrev Fits : ℕ → Type 0
  Fits i = IsRowOf src u lo top i

  none_fits : (i line : ℕ) → src i ≡ row u line Act [] → Fits i
  none_fits i line is = record {
    thread = ap (λ x. x.thread) is;
    within = λ w has. let none : slice_get [] has.0 ≡ Some w = ap (λ r. slice_get r.ways has.0) (sym is) ∙ has.1 in absurd (cc none);
    shape = subst (λ x. HaveShape src x.kind x.ways) (sym is) (inl refl);
  }

  one_fits : (i q line : ℕ) (kind : Kind) (does : EdgeOp) → src i ≡ row u line kind (way does q ∷ []) → IsWithin q → HaveShape src kind (way does q ∷ []) → Fits i
  one_fits i q line kind does is to shape = record {
    thread = ap (λ x. x.thread) is;
    within = λ w has. subst (λ x. IsWithin x.to) (one_of (way does q) w has.0 (ap (λ r. slice_get r.ways has.0) (sym is) ∙ has.1)) to;
    shape = subst (λ x. HaveShape src x.kind x.ways) (sym is) shape;
  }

  two_fits : (i q z line : ℕ) (kind : Kind) (does : EdgeOp) → src i ≡ row u line kind (way does q ∷ way op.Plain z ∷ []) → IsWithin q → IsWithin z → HaveShape src kind (way does q ∷ way op.Plain z ∷ []) → Fits i
  two_fits i q z line kind does is to other shape = record {
    thread = ap (λ x. x.thread) is;
    within = λ w has. ⊎_elim
        (λ e. subst (λ x. IsWithin x.to) e to)
        (λ e. subst (λ x. IsWithin x.to) e other)
        (one_of_two (way does q) (way op.Plain z) w has.0 (ap (λ r. slice_get r.ways has.0) (sym is) ∙ has.1));
    shape = subst (λ x. HaveShape src x.kind x.ways) (sym is) shape;
  }

  first_outside : (x : Part) (p q back : ℕ) (more : List Row) → From src p (rows u x p q back more) → IsOutside src p
  first_outside (Step line) p q back more f = ap (λ x. is_inside x.kind) f.0
  first_outside (Join line) p q back more f = ap (λ x. is_inside x.kind) f.0
  first_outside (Acquire line r) p q back more f = ap (λ x. is_inside x.kind) f.0
  first_outside (Release line r) p q back more f = ap (λ x. is_inside x.kind) f.0
  first_outside (Wait line r cs) p q back more f = ap (λ x. is_inside x.kind) f.0
  first_outside (Try line r a b) p q back more f = ap (λ x. is_inside x.kind) f.0
  first_outside (Branch line a b) p q back more f = ap (λ x. is_inside x.kind) f.0
  first_outside (Loop line body) p q back more f = ap (λ x. is_inside x.kind) f.0
  first_outside (Inner line g body) p q back more f = ap (λ x. is_inside x.kind) f.0
  first_outside (Leave line) p q back more f = ap (λ x. is_inside x.kind) f.0

  head_place : (xs : Parts) (p q back : ℕ) (more : List Row) → From src p (rows_all u xs p q back more) → lo ≤ p → end_all xs p ≤ top → IsPlace q → IsPlace (head xs p q)
  head_place Nil p q back more f from le to = to
  head_place (Cons x xs) p q back more f from le to =
      ((from, omega (arith, le, grows x p, grows_all xs (end x p))), first_outside x p (head xs (end x p) q) back (rows_all u xs (end x p) q back more) f)

  woken_kind : (line r : ℕ) (cs : List ℕ) (p q : ℕ) (more : List Row) → From src p (woken_rows u line r cs p q more) → (src p).kind ≡ Waking
  woken_kind line r [] p q more f = ap (λ x. x.kind) f.0
  woken_kind line r (c ∷ cs) p q more f = ap (λ x. x.kind) f.0

  wakes : (line r : ℕ) (cs : List ℕ) (p q : ℕ) (more : List Row) → From src p (woken_rows u line r cs p q more) → IsOutside src q → WakesAt src r cs p
  wakes line r [] p q more f to = (ap (λ x. x.kind) f.0, q, ap (λ x. x.ways) f.0, to)
  wakes line r (c ∷ cs) p q more f to = (ap (λ x. x.kind) f.0, suc p, ap (λ x. x.ways) f.0, wakes line r cs (suc p) q more f.1 to)

  woken_fit : (line r : ℕ) (cs : List ℕ) (p q : ℕ) (more : List Row) → From src p (woken_rows u line r cs p q more) → lo ≤ p → suc (takes_end cs p) ≤ top → IsPlace q → (i : ℕ) → p ≤ i → i < suc (takes_end cs p) → Fits i
  woken_fit line r [] p q more f from le to i past lt =
      let e : i ≡ p = omega (arith, past, lt) in
      subst (λ x. Fits x) (sym e) (one_fits p q line Waking (op.Reacquire r) f.0 to.0 (inr (r, q, refl, to.1)))
  woken_fit line r (c ∷ cs) p q more f from le to i past lt = ⊎_elim
      (λ e. subst (λ x. Fits x) (sym e) (one_fits p (suc p) line Waking (op.Acquire c) f.0 (omega (arith, from), omega (arith, le, takes_grow cs (suc p)))
      (inl (c, suc p, refl, woken_kind line r cs (suc p) q more f.1))))
      (λ ne. woken_fit line r cs (suc p) q more f.1 (omega (arith, from)) le to i (omega (arith, past, ne)) lt)
      (cases_eq i p)

  -- the point itself, or one behind it
  here_or : (i p : ℕ) → p ≤ i → Fits p → (suc p ≤ i → Fits i) → Fits i
  here_or i p past here later = ⊎_elim (λ e. subst (λ x. Fits x) (sym e) here) (λ ne. later (omega (arith, past, ne))) (cases_eq i p)

  only_here : (i p : ℕ) → p ≤ i → i < suc p → Fits p → Fits i
  only_here i p past lt here = let e : i ≡ p = omega (arith, past, lt) in subst (λ x. Fits x) (sym e) here

  mutual
    part_fits : (x : Part) (p q back : ℕ) (more : List Row) → From src p (rows u x p q back more) → lo ≤ p → end x p ≤ top → IsPlace q → IsPlace back → (i : ℕ) → p ≤ i → i < end x p → Fits i
    part_fits (Step line) p q back more f from le to leaves i past lt = only_here i p past lt (one_fits p q line Act op.Plain f.0 to.0 (inr (inl (q, refl, to.1))))
    part_fits (Join line) p q back more f from le to leaves i past lt = only_here i p past lt (one_fits p q line Joining op.Plain f.0 to.0 (q, refl, to.1))
    part_fits (Acquire line r) p q back more f from le to leaves i past lt =
        only_here i p past lt (one_fits p q line Act (op.Acquire r) f.0 to.0 (inr (inr (inl (r, q, refl, to.1)))))
    part_fits (Release line r) p q back more f from le to leaves i past lt =
        only_here i p past lt (one_fits p q line Act (op.Release r) f.0 to.0 (inr (inr (inr (r, q, refl, inl to.1)))))
    part_fits (Wait line r cs) p q back more f from le to leaves i past lt =
        let grow = takes_grow cs (suc (suc p)) in
        let woken = wakes line r cs (suc (suc p)) q more f.1.1 to.1 in
        let sleeps : SleepsAt src r (suc p) = (ap (λ x. x.kind) f.1.0, suc (suc p), cs, ap (λ x. x.ways) f.1.0, woken) in
        here_or i p past (one_fits p (suc p) line Act (op.Release r) f.0 (omega (arith, from), omega (arith, le, grow)) (inr (inr (inr (r, suc p, refl, inr sleeps)))))
        (λ behind_p. here_or i (suc p) behind_p
        (one_fits (suc p) (suc (suc p)) line Sleeping op.Plain f.1.0 (omega (arith, from), omega (arith, le, grow)) (suc (suc p), refl, woken_kind line r cs (suc (suc p)) q more f.1.1))
        (λ later. woken_fit line r cs (suc (suc p)) q more f.1.1 (omega (arith, from)) le to i later lt))
    part_fits (Try line r a b) p q back more f from le to leaves i past lt =
        let pb = end_all a (suc p) in
        let fb = behind_all src u a (suc p) q back (rows_all u b pb q back more) f.1 in
        let ga = grows_all a (suc p) in
        let gb = grows_all b pb in
        let ha = head_place a (suc p) q back (rows_all u b pb q back more) f.1 (omega (arith, from)) (omega (arith, le, gb)) to in
        let hb = head_place b pb q back more fb (omega (arith, from, ga)) le to in
        here_or i p past (two_fits p (head a (suc p) q) (head b pb q) line Trying (op.Try r) f.0 ha.0 hb.0 (r, head a (suc p) q, head b pb q, refl, ha.1, hb.1))
        (λ behind_p. ⊎_elim
        (λ in_a. parts_fit a (suc p) q back (rows_all u b pb q back more) f.1 (omega (arith, from)) (omega (arith, le, gb)) to leaves i behind_p in_a)
        (λ over. parts_fit b pb q back more fb (omega (arith, from, ga)) le to leaves i over lt)
        (cases_lt i pb))
    part_fits (Branch line a b) p q back more f from le to leaves i past lt =
        let pb = end_all a (suc p) in
        let fb = behind_all src u a (suc p) q back (rows_all u b pb q back more) f.1 in
        let ga = grows_all a (suc p) in
        let gb = grows_all b pb in
        let ha = head_place a (suc p) q back (rows_all u b pb q back more) f.1 (omega (arith, from)) (omega (arith, le, gb)) to in
        let hb = head_place b pb q back more fb (omega (arith, from, ga)) le to in
        here_or i p past (two_fits p (head a (suc p) q) (head b pb q) line Test op.Plain f.0 ha.0 hb.0 (head a (suc p) q, head b pb q, refl, ha.1, hb.1))
        (λ behind_p. ⊎_elim
        (λ in_a. parts_fit a (suc p) q back (rows_all u b pb q back more) f.1 (omega (arith, from)) (omega (arith, le, gb)) to leaves i behind_p in_a)
        (λ over. parts_fit b pb q back more fb (omega (arith, from, ga)) le to leaves i over lt)
        (cases_lt i pb))
    part_fits (Loop line body) p q back more f from le to leaves i past lt =
        let g = grows_all body (suc p) in
        let here : IsPlace p = ((from, omega (arith, le, g)), ap (λ x. is_inside x.kind) f.0) in
        let h = head_place body (suc p) p back more f.1 (omega (arith, from)) le here in
        here_or i p past (two_fits p (head body (suc p) p) q line Test op.Plain f.0 h.0 to.0 (head body (suc p) p, q, refl, h.1, to.1))
        (λ behind_p. parts_fit body (suc p) p back more f.1 (omega (arith, from)) le here leaves i behind_p lt)
    part_fits (Inner line g body) p q back more f from le to leaves i past lt =
        let h = head_place body (suc p) q q more f.1 (omega (arith, from)) le to in
        here_or i p past (one_fits p (head body (suc p) q) line Act op.Plain f.0 h.0 (inr (inl (head body (suc p) q, refl, h.1))))
        (λ behind_p. parts_fit body (suc p) q q more f.1 (omega (arith, from)) le to to i behind_p lt)
    part_fits (Leave line) p q back more f from le to leaves i past lt = only_here i p past lt (one_fits p back line Act op.Plain f.0 leaves.0 (inr (inl (back, refl, leaves.1))))

    pub parts_fit : (xs : Parts) (p q back : ℕ) (more : List Row) → From src p (rows_all u xs p q back more) → lo ≤ p → end_all xs p ≤ top → IsPlace q → IsPlace back → (i : ℕ) → p ≤ i → i < end_all xs p → Fits i
    parts_fit Nil p q back more f from le to leaves i past lt = absurd (omega (arith, past, lt))
    parts_fit (Cons x xs) p q back more f from le to leaves i past lt =
        let p2 = end x p in
        let n = head xs p2 q in
        let fr = behind src u x p n back (rows_all u xs p2 q back more) f in
        let g = grows_all xs p2 in
        let gx = grows x p in
        let next = head_place xs p2 q back more fr (omega (arith, from, gx)) le to in
        ⊎_elim
        (λ in_x. part_fits x p n back (rows_all u xs p2 q back more) f from (omega (arith, le, g)) next leaves i past in_x)
        (λ over. parts_fit xs p2 q back more fr (omega (arith, from, gx)) le to leaves i over lt)
        (cases_lt i p2)

  -- a body, and the point where its thread has ended
  body_fits : (line : ℕ) (xs : Parts) (p : ℕ) (more : List Row) → From src p (rows_all u xs p (end_all xs p) (end_all xs p) (row u line Act [] ∷ more)) → lo ≤ p → suc (end_all xs p) ≡ top →
      ((i : ℕ) → p ≤ i → i < top → Fits i) × IsPlace p
  body_fits line xs p more f from last =
      let e = end_all xs p in
      let fe = behind_all src u xs p e e (row u line Act [] ∷ more) f in
      let g = grows_all xs p in
      let at_end : IsPlace e = ((omega (arith, from, g), omega (arith, last)), ap (λ x. is_inside x.kind) fe.0) in
      let begun = head_place xs p e e (row u line Act [] ∷ more) f from (omega (arith, last)) at_end in (
        (λ i past lt. ⊎_elim
            (λ in_body. parts_fit xs p e e (row u line Act [] ∷ more) f from (omega (arith, last)) at_end at_end i past in_body)
            (λ over. let here : i ≡ e = omega (arith, over, lt, last) in subst (λ x. Fits x) (sym here) (none_fits e line fe.0))
            (cases_lt i e)),
        subst (λ n. IsPlace n) (head_is_first xs p) begun,
      )

pub rows_have_shape : RowsHaveShape
rows_have_shape src zero th p more f i past lt =
    (body_fits src 0 p (suc (end_all (live_all th.body) p)) th.end_line (live_all th.body) p more f (omega arith) refl).0 i past lt
rows_have_shape src (suc u) th p more f i past lt =
    let e = suc (end_all (live_all th.body) (suc p)) in
    let r = body_fits src (suc u) p e th.end_line (live_all th.body) (suc p) more f.1 (omega arith) refl in
    here_or src (suc u) p e i p past (one_fits src (suc u) p e p (suc p) th.line Act op.Plain f.0 r.1.0 (inr (inl (suc p, refl, r.1.1)))) (λ later. r.0 i later lt)
