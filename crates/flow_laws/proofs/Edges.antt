-- No more than two edges leave a point.
use Rattle.std.proofs.Common.{◌≡◌, ℕ, suc, ◌+◌, ◌*◌, ◌<◌, ◌≤◌, List, [], ◌∷◌, length, ap, ⊎_elim, arith}
use Rattle.edges.specs.declared.Edge.{Edge}
use Rattle.outlines.specs.Outline.{Thread}
use Rattle.outlines.specs.Rows.{Way, Kind, Act, Test, Sleeping, Waking, Joining, Trying, Row, row_at, edges_of, edges_from}
use Rattle.outlines.specs.Points.{all_rows}
use Rattle.outline_laws.specs.Leading.{first_point}
use Rattle.outline_laws.specs.Shapes.{HaveShape}
use Rattle.outline_laws.proofs.Shape.{rows_have_shape}
use Rattle.outline_laws.proofs.Placed.{placed}

two_at_most : (src : ℕ → Row) (k : Kind) (ws : List Way) → HaveShape src k ws → length ws ≤ 2
two_at_most src Act ws shape =
    ⊎_elim
    (λ none. let long = ap length none in omega (arith, long))
    (⊎_elim
    (λ one. let long = ap length one.1 in omega (arith, long))
    (⊎_elim
    (λ one. let long = ap length one.2 in omega (arith, long))
    (λ one. let long = ap length one.2 in omega (arith, long))))
    shape
two_at_most src Test ws shape = let long = ap length shape.2 in omega (arith, long)
two_at_most src Sleeping ws shape = let long = ap length shape.1 in omega (arith, long)
two_at_most src Waking ws shape =
    ⊎_elim
    (λ one. let long = ap length one.2 in omega (arith, long))
    (λ one. let long = ap length one.2 in omega (arith, long))
    shape
two_at_most src Joining ws shape = let long = ap length shape.1 in omega (arith, long)
two_at_most src Trying ws shape = let long = ap length shape.3 in omega (arith, long)

as_many_edges : (p : ℕ) (ws : List Way) (more : List Edge) → length (edges_of p ws more) ≡ length ws + length more
as_many_edges p [] more = omega arith
as_many_edges p (w ∷ ws) more = omega (arith, as_many_edges p ws more)

few_edges : (rows : List Row) (p : ℕ) → ((i : ℕ) → i < length rows → length (row_at rows i).ways ≤ 2) → length (edges_from p rows) ≤ 2 * length rows
few_edges [] p few = omega arith
few_edges (r ∷ rows) p few =
    let here = few 0 (omega arith) in
    let rest = few_edges rows (suc p) (λ i lt. few (suc i) (omega (arith, lt))) in
    omega (arith, here, rest, as_many_edges p r.ways (edges_from (suc p) rows))

pub threads_few_edges : (ths : List Thread) → length (edges_from 0 (all_rows 0 ths 0)) ≤ 2 * length (all_rows 0 ths 0)
threads_few_edges ths =
    few_edges (all_rows 0 ths 0) 0
    (λ i lt.
    let src = row_at (all_rows 0 ths 0) in
    let at = placed ths i lt in
    let shape = (rows_have_shape src at.number at.thread (first_point 0 ths 0 at.number) at.more at.stands i at.begun at.below).shape in
    two_at_most src (src i).kind (src i).ways shape)
