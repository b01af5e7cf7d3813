-- From each point of a thread there is a path to its last.
use Rattle.std.proofs.Common.{◌≡◌, ℕ, zero, suc, ◌<◌, ◌≤◌, List, [], ◌∷◌, refl, sym, ap, subst, ⊎_elim, arith}
use Rattle.std.specs.Prelude.{slice_get}
use Rattle.std.proofs.lemmas.Bool.{cases_lt, cases_eq}
use Rattle.edges.specs.declared.EdgeOp.{EdgeOp}
use Rattle.edges.specs.declared.EdgeOp.TheVariants as op
use Rattle.outlines.specs.Outline.{Part, Parts, Step, Join, Acquire, Release, Wait, Try, Branch, Loop, Inner, Leave, Nil, Cons, live_all}
use Rattle.outlines.specs.Rows.{Way, Kind, Row, way, row, From}
use Rattle.outlines.specs.Points.{rows, rows_all, end, end_all, head, takes_end, woken_rows}
use Rattle.outline_laws.specs.Reaching.{Goes, Reaches, PointsReachEnd}
use Rattle.outline_laws.proofs.Lead.{behind, behind_all}
use Rattle.outline_laws.proofs.Move.{head_is_first}

pub takes_grow : (cs : List ℕ) (p : ℕ) → p ≤ takes_end cs p
takes_grow [] p = omega arith
takes_grow (c ∷ cs) p = omega (arith, takes_grow cs (suc p))

mutual
  pub grows : (s : Part) (p : ℕ) → p < end s p
  grows (Step line) p = omega arith
  grows (Join line) p = omega arith
  grows (Acquire line r) p = omega arith
  grows (Release line r) p = omega arith
  grows (Wait line r cs) p = omega (arith, takes_grow cs (suc (suc p)))
  grows (Try line r a b) p = omega (arith, grows_all a (suc p), grows_all b (end_all a (suc p)))
  grows (Branch line a b) p = omega (arith, grows_all a (suc p), grows_all b (end_all a (suc p)))
  grows (Loop line body) p = omega (arith, grows_all body (suc p))
  grows (Inner line f body) p = omega (arith, grows_all body (suc p))
  grows (Leave line) p = omega arith

  pub grows_all : (s : Parts) (p : ℕ) → p ≤ end_all s p
  grows_all Nil p = omega arith
  grows_all (Cons s rest) p = omega (arith, grows s p, grows_all rest (end s p))

module _ (src : ℕ → Row) (u out : ℕ) where
  abbrev To : ℕ → Type 0
  To p = (k : ℕ) × Goes src p out k

  at : (i p : ℕ) → i ≡ p → To p → To i
  at i p e to = subst (λ x. To x) (sym e) to

  first_way : (p q line : ℕ) (kind : Kind) (does : EdgeOp) (ws : List Way) → src p ≡ row u line kind (way does q ∷ ws) → To q → To p
  first_way p q line kind does ws is to = (suc to.0, (way does q, (0, ap (λ x. slice_get x.ways 0) is), to.1))

  second_way : (p q line : ℕ) (kind : Kind) (does : EdgeOp) (w : Way) (ws : List Way) → src p ≡ row u line kind (w ∷ way does q ∷ ws) → To q → To p
  second_way p q line kind does w ws is to = (suc to.0, (way does q, (1, ap (λ x. slice_get x.ways 1) is), to.1))

  -- the point itself, or one behind it
  here_or : (i p : ℕ) → p ≤ i → To p → (suc p ≤ i → To i) → To i
  here_or i p le here later = ⊎_elim (λ e. at i p e here) (λ ne. later (omega (arith, le, ne))) (cases_eq i p)

  woken_out : (line r : ℕ) (cs : List ℕ) (p q : ℕ) (more : List Row) → From src p (woken_rows u line r cs p q more) → To q → (i : ℕ) → p ≤ i → i < suc (takes_end cs p) → To i
  woken_out line r [] p q more f to i le lt = let e : i ≡ p = omega (arith, le, lt) in at i p e (first_way p q line _ (op.Reacquire r) [] f.0 to)
  woken_out line r (c ∷ cs) p q more f to i le lt =
      let rest = woken_out line r cs (suc p) q more f.1 to in
      let grow = takes_grow cs (suc p) in
      here_or i p le (first_way p (suc p) line _ (op.Acquire c) [] f.0 (rest (suc p) (omega arith) (omega (arith, grow)))) (λ past. rest i past lt)

  mutual
    part_out : (s : Part) (p q back : ℕ) (more : List Row) → From src p (rows u s p q back more) → To q → To back → (i : ℕ) → p ≤ i → i < end s p → To i
    part_out (Step line) p q back more f to leaves i le lt = let e : i ≡ p = omega (arith, le, lt) in at i p e (first_way p q line _ op.Plain [] f.0 to)
    part_out (Join line) p q back more f to leaves i le lt = let e : i ≡ p = omega (arith, le, lt) in at i p e (first_way p q line _ op.Plain [] f.0 to)
    part_out (Acquire line r) p q back more f to leaves i le lt = let e : i ≡ p = omega (arith, le, lt) in at i p e (first_way p q line _ (op.Acquire r) [] f.0 to)
    part_out (Release line r) p q back more f to leaves i le lt = let e : i ≡ p = omega (arith, le, lt) in at i p e (first_way p q line _ (op.Release r) [] f.0 to)
    part_out (Wait line r cs) p q back more f to leaves i le lt =
        let rest = woken_out line r cs (suc (suc p)) q more f.1.1 to in
        let grow = takes_grow cs (suc (suc p)) in
        let woken = rest (suc (suc p)) (omega arith) (omega (arith, grow)) in
        let asleep = first_way (suc p) (suc (suc p)) line _ op.Plain [] f.1.0 woken in
        here_or i p le (first_way p (suc p) line _ (op.Release r) [] f.0 asleep) (λ past. here_or i (suc p) past asleep (λ later. rest i later lt))
    part_out (Try line r a b) p q back more f to leaves i le lt =
        let pb = end_all a (suc p) in
        let fb = behind_all src u a (suc p) q back (rows_all u b pb q back more) f.1 in
        let first = head_out a (suc p) q back (rows_all u b pb q back more) f.1 to leaves in
        here_or i p le (first_way p (head a (suc p) q) line _ (op.Try r) (way op.Plain (head b pb q) ∷ []) f.0 first)
        (λ past. ⊎_elim
        (λ in_a. parts_out a (suc p) q back (rows_all u b pb q back more) f.1 to leaves i past in_a)
        (λ over. parts_out b pb q back more fb to leaves i over lt)
        (cases_lt i pb))
    part_out (Branch line a b) p q back more f to leaves i le lt =
        let pb = end_all a (suc p) in
        let fb = behind_all src u a (suc p) q back (rows_all u b pb q back more) f.1 in
        let first = head_out a (suc p) q back (rows_all u b pb q back more) f.1 to leaves in
        here_or i p le (first_way p (head a (suc p) q) line _ op.Plain (way op.Plain (head b pb q) ∷ []) f.0 first)
        (λ past. ⊎_elim
        (λ in_a. parts_out a (suc p) q back (rows_all u b pb q back more) f.1 to leaves i past in_a)
        (λ over. parts_out b pb q back more fb to leaves i over lt)
        (cases_lt i pb))
    part_out (Loop line body) p q back more f to leaves i le lt =
        let test = second_way p q line _ op.Plain (way op.Plain (head body (suc p) p)) [] f.0 to in
        here_or i p le test (λ past. parts_out body (suc p) p back more f.1 test leaves i past lt)
    part_out (Inner line g body) p q back more f to leaves i le lt =
        let first = head_out body (suc p) q q more f.1 to to in
        here_or i p le (first_way p (head body (suc p) q) line _ op.Plain [] f.0 first) (λ past. parts_out body (suc p) q q more f.1 to to i past lt)
    part_out (Leave line) p q back more f to leaves i le lt = let e : i ≡ p = omega (arith, le, lt) in at i p e (first_way p back line _ op.Plain [] f.0 leaves)

    head_out : (s : Parts) (p q back : ℕ) (more : List Row) → From src p (rows_all u s p q back more) → To q → To back → To (head s p q)
    head_out Nil p q back more f to leaves = to
    head_out (Cons s rest) p q back more f to leaves =
        let p2 = end s p in
        let n = head rest p2 q in
        let fr = behind src u s p n back (rows_all u rest p2 q back more) f in
        part_out s p n back (rows_all u rest p2 q back more) f (head_out rest p2 q back more fr to leaves) leaves p (omega arith) (grows s p)

    pub parts_out : (s : Parts) (p q back : ℕ) (more : List Row) → From src p (rows_all u s p q back more) → To q → To back → (i : ℕ) → p ≤ i → i < end_all s p → To i
    parts_out Nil p q back more f to leaves i le lt = absurd (omega (arith, le, lt))
    parts_out (Cons s rest) p q back more f to leaves i le lt =
        let p2 = end s p in
        let n = head rest p2 q in
        let fr = behind src u s p n back (rows_all u rest p2 q back more) f in
        ⊎_elim
        (λ in_s. part_out s p n back (rows_all u rest p2 q back more) f (head_out rest p2 q back more fr to leaves) leaves i le in_s)
        (λ past. parts_out rest p2 q back more fr to leaves i past lt)
        (cases_lt i p2)

body_out : (src : ℕ → Row) (u : ℕ) (xs : Parts) (p e : ℕ) (more : List Row) → From src p (rows_all u xs p e e more) → (i : ℕ) → p ≤ i → i < end_all xs p → Reaches src i e
body_out src u xs p e more f i le lt = parts_out src u e xs p e e more f (0, refl) (0, refl) i le lt

pub points_reach_end : PointsReachEnd
points_reach_end src zero th p more f i le lt =
    let xs = live_all th.body in
    let e = end_all xs p in (
      e,
      refl,
      ⊎_elim
          (λ in_body. body_out src 0 xs p e _ f i le in_body)
          (λ over. let at_end : i ≡ e = omega (arith, over, lt) in (0, at_end))
          (cases_lt i e),
    )
points_reach_end src (suc u) th p more f i le lt =
    let xs = live_all th.body in
    let e = end_all xs (suc p) in
    let last = row (suc u) th.end_line _ [] ∷ more in
    let start = head_out src (suc u) e xs (suc p) e e last f.1 (0, refl) (0, refl) in
    let begun : head xs (suc p) e ≡ suc p = head_is_first xs (suc p) in (
      e,
      refl,
      here_or src (suc u) e i p le
          (first_way src (suc u) e p (suc p) th.line _ op.Plain [] f.0 (subst (λ x. Reaches src x e) begun start))
          (λ past. ⊎_elim
          (λ in_body. body_out src (suc u) xs (suc p) e last f.1 i past in_body)
          (λ over. let at_end : i ≡ e = omega (arith, over, lt) in (0, at_end))
          (cases_lt i e)),
    )
