-- The walk back over the places of outlines: it finds the edges of their rows.
use Rattle.std.proofs.Common.{◌≡◌, ℕ, zero, suc, List, [], ◌∷◌, ◌++◌, refl, ap, ◌∙◌, Some, None}
use Rattle.edges.specs.declared.Edge.{Edge}
use Rattle.outlines.specs.Outline.{Part, Parts, Step, Join, Acquire, Release, Wait, Try, Branch, Loop, Inner, Leave, Nil, Cons, Thread, live_all}
use Rattle.outlines.specs.Rows.{Row, Act, row, edges_from}
use Rattle.outlines.specs.Points.{takes_end, woken_rows, end, end_all, head, rows, rows_all, thread_rows, thread_end, all_rows}
use Rattle.outline_laws.proofs.Move.{head_is_first}
use Rattle.outline_pieces.specs.declared.pieces.Piece.TheVariants as piece
use Rattle.outline_pieces.specs.declared.pieces.Deed.TheVariants as deed
use Rattle.outline_pieces.specs.declared.pieces.Place.{Place}
use Rattle.outline_pieces.specs.declared.ways.Ways.{Ways}
use Rattle.outline_pieces.specs.Places.{place, woken_places, places, places_all, thread_places, threads_places}
use Rattle.outline_pieces.specs.Backward.{ways, start, step, over}

-- the last place is gone over first
pub over_last : (w : Ways) (ps : List Place) (p : Place) → over w (ps ++ p ∷ []) ≡ over (step p w) ps
over_last w [] p = refl
over_last w (x ∷ ps) p = ap (step x) (over_last w ps p)

over_woken : (w : Ways) (t line r : ℕ) (cs : List ℕ) (p q back : ℕ) (behind : List ℕ) (more : List Row) (ps : List Place) →
    over w ps ≡ ways (edges_from (suc (takes_end cs p)) more) q back behind →
    over w (woken_places t line r cs p ps) ≡ ways (edges_from p (woken_rows t line r cs p q more)) p back behind
over_woken w t line r [] p q back behind more ps so = ap (step (place t p (piece.Pass line (deed.Retake r)))) so
over_woken w t line r (c ∷ cs) p q back behind more ps so =
    ap (step (place t p (piece.Pass line (deed.Take c)))) (over_woken w t line r cs (suc p) q back behind more ps so)

mutual
  over_part : (w : Ways) (t : ℕ) (x : Part) (p q back : ℕ) (behind : List ℕ) (more : List Row) (ps : List Place) →
      over w ps ≡ ways (edges_from (end x p) more) q back behind →
      over w (places t x p ps) ≡ ways (edges_from p (rows t x p q back more)) p back behind
  over_part w t (Step line) p q back behind more ps so = ap (step (place t p (piece.Pass line deed.Plain))) so
  over_part w t (Join line) p q back behind more ps so = ap (step (place t p (piece.Pass line deed.Join))) so
  over_part w t (Acquire line r) p q back behind more ps so = ap (step (place t p (piece.Pass line (deed.Acquire r)))) so
  over_part w t (Release line r) p q back behind more ps so = ap (step (place t p (piece.Pass line (deed.Release r)))) so
  over_part w t (Wait line r cs) p q back behind more ps so =
      ap (λ z. step (place t p (piece.Pass line (deed.Wait r))) (step (place t (suc p) (piece.Pass line deed.Sleep)) z))
      (over_woken w t line r cs (suc (suc p)) q back behind more ps so)
  over_part w t (Try line r a b) p q back behind more ps so =
      let i = end_all a (suc p) in
      ap (step (place t p (piece.Fork line (Some r))))
      (over_all w t a (suc p) q back (head b i q ∷ behind) (rows_all t b i q back more) (place t p piece.Else ∷ places_all t b i (place t p piece.ArmsEnd ∷ ps))
      (ap (step (place t p piece.Else))
      (over_all w t b i q back (q ∷ behind) more (place t p piece.ArmsEnd ∷ ps) (ap (step (place t p piece.ArmsEnd)) so))))
  over_part w t (Branch line a b) p q back behind more ps so =
      let i = end_all a (suc p) in
      ap (step (place t p (piece.Fork line None)))
      (over_all w t a (suc p) q back (head b i q ∷ behind) (rows_all t b i q back more) (place t p piece.Else ∷ places_all t b i (place t p piece.ArmsEnd ∷ ps))
      (ap (step (place t p piece.Else))
      (over_all w t b i q back (q ∷ behind) more (place t p piece.ArmsEnd ∷ ps) (ap (step (place t p piece.ArmsEnd)) so))))
  over_part w t (Loop line body) p q back behind more ps so =
      ap (step (place t p (piece.Loop line)))
      (over_all w t body (suc p) p back (q ∷ behind) more (place t p piece.LoopEnd ∷ ps) (ap (step (place t p piece.LoopEnd)) so))
  over_part w t (Inner line f body) p q back behind more ps so =
      ap (step (place t p (piece.Inner line)))
      (over_all w t body (suc p) q q (back ∷ behind) more (place t p piece.InnerEnd ∷ ps) (ap (step (place t p piece.InnerEnd)) so))
  over_part w t (Leave line) p q back behind more ps so = ap (step (place t p (piece.Leave line))) so

  over_all : (w : Ways) (t : ℕ) (xs : Parts) (p q back : ℕ) (behind : List ℕ) (more : List Row) (ps : List Place) →
      over w ps ≡ ways (edges_from (end_all xs p) more) q back behind →
      over w (places_all t xs p ps) ≡ ways (edges_from p (rows_all t xs p q back more)) (head xs p q) back behind
  over_all w t Nil p q back behind more ps so = so
  over_all w t (Cons x xs) p q back behind more ps so =
      over_part w t x p (head xs (end x p) q) back behind (rows_all t xs (end x p) q back more) (places_all t xs (end x p) ps)
      (over_all w t xs (end x p) q back behind more ps so)

-- what was found, whatever comes next
pub record Found (w : Ways) (es : List Edge) : Type 0 where
  pub next : ℕ
  pub back : ℕ
  pub behind : List ℕ
  pub is : w ≡ ways es next back behind

over_thread : (w : Ways) (t : ℕ) (th : Thread) (p : ℕ) (more : List Row) (ps : List Place) →
    Found (over w ps) (edges_from (thread_end t th p) more) → Found (over w (thread_places t th p ps)) (edges_from p (thread_rows t th p more))
over_thread w zero th p more ps found =
    let e = end_all (live_all th.body) p in
    let last = place 0 e (piece.Finish th.end_line) in
    record {
      next = head (live_all th.body) p e;
      back = e;
      behind = found.behind;
      is = over_all w 0 (live_all th.body) p e e found.behind (row 0 th.end_line Act [] ∷ more) (last ∷ ps) (ap (step last) found.is);
    }
over_thread w (suc t) th p more ps found =
    let e = end_all (live_all th.body) (suc p) in
    let last = place (suc t) e (piece.Finish th.end_line) in
    let body = over_all w (suc t) (live_all th.body) (suc p) e e found.behind (row (suc t) th.end_line Act [] ∷ more) (last ∷ ps) (ap (step last) found.is) in
    let rest = edges_from (suc p) (rows_all (suc t) (live_all th.body) (suc p) e e (row (suc t) th.end_line Act [] ∷ more)) in
    record {
      next = p;
      back = e;
      behind = found.behind;
      is =
          ap (step (place (suc t) p (piece.Begin th.line)))
          (body ∙ ap (λ z. ways rest z e found.behind) (head_is_first (live_all th.body) (suc p)));
    }

over_threads : (w : Ways) (t : ℕ) (ths : List Thread) (p : ℕ) → Found w [] → Found (over w (threads_places t ths p)) (edges_from p (all_rows t ths p))
over_threads w t [] p found = found
over_threads w zero (th ∷ ths) p found =
    over_thread w 0 th p (all_rows 1 ths (thread_end 0 th p)) (threads_places 1 ths (thread_end 0 th p)) (over_threads w 1 ths (thread_end 0 th p) found)
over_threads w (suc t) (th ∷ ths) p found =
    over_thread w (suc t) th p (all_rows (suc (suc t)) ths (thread_end (suc t) th p)) (threads_places (suc (suc t)) ths (thread_end (suc t) th p))
    (over_threads w (suc (suc t)) ths (thread_end (suc t) th p) found)

-- all edges of threads are found, in order
pub edges_of_threads : (ths : List Thread) → (over start (threads_places 0 ths 0)).edges ≡ edges_from 0 (all_rows 0 ths 0)
edges_of_threads ths =
    let found = over_threads start 0 ths 0 (record { next = 0; back = 0; behind = []; is = refl }) in
    ap (λ (w : Ways). w.edges) found.is
