-- To each point of a thread there is a path from its first.
use Rattle.std.proofs.Common.{◌≡◌, ℕ, zero, suc, ◌<◌, ◌≤◌, Bool, true, false, List, [], ◌∷◌, ◌⊎◌, inl, inr, refl, sym, ap, ◌∙◌, subst, ⊎_elim, arith}
use Rattle.std.specs.Prelude.{slice_get, ◌&&◌, ◌||◌}
use Rattle.std.proofs.lemmas.Bool.{cases_lt, cases_eq}
use Rattle.edges.specs.declared.EdgeOp.{EdgeOp}
use Rattle.edges.specs.declared.EdgeOp.TheVariants as op
use Rattle.outlines.specs.Outline.{Part, Parts, Step, Join, Acquire, Release, Wait, Try, Branch, Loop, Inner, Leave, Nil, Cons, passes, passes_all, live_all}
use Rattle.outlines.specs.Rows.{Way, Kind, Act, Row, way, row, HasWay, From}
use Rattle.outlines.specs.Points.{rows, rows_all, end, end_all, head, takes_end, woken_rows}
use Rattle.outline_laws.specs.Reaching.{Goes, Reaches, PointsAreReached}
use Rattle.outline_laws.proofs.Lead.{behind, behind_all}
use Rattle.outline_laws.proofs.Live.{IsLive, AllLive, all_live}
use Rattle.outline_laws.proofs.Move.{head_is_first}

pub goes_on : (src : ℕ → Row) (k a b : ℕ) (w : Way) → Goes src a b k → HasWay src b w → Goes src a w.to (suc k)
goes_on src zero a b w g has = (w, (has.0, ap (λ x. slice_get (src x).ways has.0) g ∙ has.1), refl)
goes_on src (suc k) a b w g has = (g.0, g.1, goes_on src k g.0.to b w g.2 has)

either : (b : Bool) → (b ≡ true) ⊎ (b ≡ false)
either true = inl refl
either false = inr refl

module _ (src : ℕ → Row) (u first : ℕ) where
  abbrev Reach : ℕ → Type 0
  Reach n = (k : ℕ) × Goes src first n k

  by_first : (p q line : ℕ) (kind : Kind) (does : EdgeOp) (ws : List Way) → src p ≡ row u line kind (way does q ∷ ws) → Reach p → Reach q
  by_first p q line kind does ws is at = (suc at.0, goes_on src at.0 first p (way does q) at.1 (0, ap (λ r. slice_get r.ways 0) is))

  by_second : (p q line : ℕ) (kind : Kind) (does : EdgeOp) (w : Way) → src p ≡ row u line kind (w ∷ way does q ∷ []) → Reach p → Reach q
  by_second p q line kind does w is at = (suc at.0, goes_on src at.0 first p (way does q) at.1 (1, ap (λ r. slice_get r.ways 1) is))

  -- all points from p up to e are led to, and what comes behind: q where control passes, else back
  abbrev Spread : ℕ → ℕ → ℕ → ℕ → Bool → Type 0
  Spread p e q back pass = ((i : ℕ) → p ≤ i → i < e → Reach i) × (pass ≡ true → Reach q) × (pass ≡ false → Reach back)

  alone : (p q back : ℕ) → Reach p → Reach q → Spread p (suc p) q back true
  alone p q back at to =
      ((λ i from lt. let e : i ≡ p = omega (arith, from, lt) in subst (λ x. Reach x) (sym e) at), (λ e. to), (λ e. absurd (cc e)))

  -- a point, and what is behind it
  with_first : (p e q back : ℕ) (pass : Bool) → Reach p → Spread (suc p) e q back pass → Spread p e q back pass
  with_first p e q back pass at s =
      ((λ i from lt. ⊎_elim (λ same. subst (λ x. Reach x) (sym same) at) (λ ne. s.0 i (omega (arith, from, ne)) lt) (cases_eq i p)), s.1, s.2)

  in_turn : (p m e n q back : ℕ) (a b : Bool) → Spread p m n back a → (a ≡ true → Spread m e q back b) → (a ≡ false → e ≡ m) → Spread p e q back (a && b)
  in_turn p m e n q back true b s rest none =
      ((λ i from lt. ⊎_elim (λ before. s.0 i from before) (λ over. (rest refl).0 i over lt) (cases_lt i m)), (λ h. (rest refl).1 h), (λ h. (rest refl).2 h))
  in_turn p m e n q back false b s rest none =
      ((λ i from lt. let same = none refl in s.0 i from (omega (arith, same, lt))), (λ h. absurd (cc h)), (λ h. s.2 refl))

  arms : (p m e q back : ℕ) (a b : Bool) → Spread p m q back a → Spread m e q back b → Spread p e q back (a || b)
  arms p m e q back true b s t =
      ((λ i from lt. ⊎_elim (λ before. s.0 i from before) (λ over. t.0 i over lt) (cases_lt i m)), (λ h. s.1 refl), (λ h. absurd (cc h)))
  arms p m e q back false b s t =
      ((λ i from lt. ⊎_elim (λ before. s.0 i from before) (λ over. t.0 i over lt) (cases_lt i m)), (λ h. t.1 h), (λ h. s.2 refl))

  woken_reached : (line r : ℕ) (cs : List ℕ) (p q : ℕ) (more : List Row) → From src p (woken_rows u line r cs p q more) → Reach p → ((i : ℕ) → p ≤ i → i < suc (takes_end cs p) → Reach i) × Reach q
  woken_reached line r [] p q more f at =
      let to = by_first p q line _ (op.Reacquire r) [] f.0 at in ((alone p q q at to).0, to)
  woken_reached line r (c ∷ cs) p q more f at =
      let to = by_first p (suc p) line _ (op.Acquire c) [] f.0 at in
      let rest = woken_reached line r cs (suc p) q more f.1 to in
      ((λ i from lt. ⊎_elim (λ same. subst (λ x. Reach x) (sym same) at) (λ ne. rest.0 i (omega (arith, from, ne)) lt) (cases_eq i p)), rest.1)

  mutual
    part_reached : (s : Part) (p q back : ℕ) (more : List Row) → IsLive s → From src p (rows u s p q back more) → Reach p → Spread p (end s p) q back (passes s)
    part_reached (Step line) p q back more l f at = alone p q back at (by_first p q line _ op.Plain [] f.0 at)
    part_reached (Join line) p q back more l f at = alone p q back at (by_first p q line _ op.Plain [] f.0 at)
    part_reached (Acquire line r) p q back more l f at = alone p q back at (by_first p q line _ (op.Acquire r) [] f.0 at)
    part_reached (Release line r) p q back more l f at = alone p q back at (by_first p q line _ (op.Release r) [] f.0 at)
    part_reached (Wait line r cs) p q back more l f at =
        let e = suc (takes_end cs (suc (suc p))) in
        let asleep = by_first p (suc p) line _ (op.Release r) [] f.0 at in
        let woken = by_first (suc p) (suc (suc p)) line _ op.Plain [] f.1.0 asleep in
        let rest = woken_reached line r cs (suc (suc p)) q more f.1.1 woken in
        with_first p e q back true at (with_first (suc p) e q back true asleep (rest.0, (λ h. rest.1), (λ h. absurd (cc h))))
    part_reached (Try line r a b) p q back more l f at =
        let pb = end_all a (suc p) in
        let fb = behind_all src u a (suc p) q back (rows_all u b pb q back more) f.1 in
        let sa = parts_reached a (suc p) q back (rows_all u b pb q back more) l.0 f.1 (by_first p (head a (suc p) q) line _ (op.Try r) (way op.Plain (head b pb q) ∷ []) f.0 at) in
        let sb = parts_reached b pb q back more l.1 fb (by_second p (head b pb q) line _ op.Plain (way (op.Try r) (head a (suc p) q)) f.0 at) in
        with_first p (end_all b pb) q back (passes_all a || passes_all b) at (arms (suc p) pb (end_all b pb) q back (passes_all a) (passes_all b) sa sb)
    part_reached (Branch line a b) p q back more l f at =
        let pb = end_all a (suc p) in
        let fb = behind_all src u a (suc p) q back (rows_all u b pb q back more) f.1 in
        let sa = parts_reached a (suc p) q back (rows_all u b pb q back more) l.0 f.1 (by_first p (head a (suc p) q) line _ op.Plain (way op.Plain (head b pb q) ∷ []) f.0 at) in
        let sb = parts_reached b pb q back more l.1 fb (by_second p (head b pb q) line _ op.Plain (way op.Plain (head a (suc p) q)) f.0 at) in
        with_first p (end_all b pb) q back (passes_all a || passes_all b) at (arms (suc p) pb (end_all b pb) q back (passes_all a) (passes_all b) sa sb)
    part_reached (Loop line body) p q back more l f at =
        let to = by_second p q line _ op.Plain (way op.Plain (head body (suc p) p)) f.0 at in
        let s = parts_reached body (suc p) p back more l f.1 (by_first p (head body (suc p) p) line _ op.Plain (way op.Plain q ∷ []) f.0 at) in
        with_first p (end_all body (suc p)) q back true at (s.0, (λ h. to), (λ h. absurd (cc h)))
    part_reached (Inner line g body) p q back more l f at =
        let s = parts_reached body (suc p) q q more l f.1 (by_first p (head body (suc p) q) line _ op.Plain [] f.0 at) in
        with_first p (end_all body (suc p)) q back true at (s.0, (λ h. ⊎_elim (λ e. s.1 e) (λ e. s.2 e) (either (passes_all body))), (λ h. absurd (cc h)))
    part_reached (Leave line) p q back more l f at =
        let to = by_first p back line _ op.Plain [] f.0 at in
        ((alone p back back at to).0, (λ h. absurd (cc h)), (λ h. to))

    pub parts_reached : (xs : Parts) (p q back : ℕ) (more : List Row) → AllLive xs → From src p (rows_all u xs p q back more) → Reach (head xs p q) → Spread p (end_all xs p) q back (passes_all xs)
    parts_reached Nil p q back more l f at = ((λ i from lt. absurd (omega (arith, from, lt))), (λ h. at), (λ h. absurd (cc h)))
    parts_reached (Cons x xs) p q back more l f at =
        let p2 = end x p in
        let n = head xs p2 q in
        let fr = behind src u x p n back (rows_all u xs p2 q back more) f in
        let s = part_reached x p n back (rows_all u xs p2 q back more) l.0 f at in
        in_turn p p2 (end_all xs p2) n q back (passes x) (passes_all xs) s
        (λ e. parts_reached xs p2 q back more l.1 fr (s.1 e))
        (λ e. ⊎_elim (λ t. let no_way : true ≡ false = sym t ∙ e in absurd (cc no_way)) (λ nil. ap (λ z. end_all z p2) nil) l.2)

-- a body and the point where its thread has ended
body_reached : (src : ℕ → Row) (u first : ℕ) (xs : Parts) (p : ℕ) (more : List Row) → AllLive xs → From src p (rows_all u xs p (end_all xs p) (end_all xs p) more) → Reaches src first p → (i : ℕ) → p ≤ i → i < suc (end_all xs p) → Reaches src first i
body_reached src u first xs p more l f at i from lt =
    let e = end_all xs p in
    let s = parts_reached src u first xs p e e more l f (subst (λ n. Reaches src first n) (sym (head_is_first xs p)) at) in
    ⊎_elim
    (λ before. s.0 i from before)
    (λ over.
    let same : i ≡ e = omega (arith, over, lt) in
    subst (λ n. Reaches src first n) (sym same) (⊎_elim (λ h. s.1 h) (λ h. s.2 h) (either (passes_all xs))))
    (cases_lt i e)

pub points_are_reached : PointsAreReached
points_are_reached src zero th p more f i from lt = body_reached src 0 p (live_all th.body) p (row 0 th.end_line Act [] ∷ more) (all_live th.body) f (0, refl) i from lt
points_are_reached src (suc u) th p more f i from lt =
    let to = by_first src (suc u) p p (suc p) th.line _ op.Plain [] f.0 (0, refl) in
    ⊎_elim
    (λ e. (0, sym e))
    (λ ne. body_reached src (suc u) p (live_all th.body) (suc p) (row (suc u) th.end_line Act [] ∷ more) (all_live th.body) f.1 to i (omega (arith, from, ne)) lt)
    (cases_eq i p)
