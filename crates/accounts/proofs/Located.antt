-- Where the positions of a thread are among the points.
use Rattle.std.proofs.Common.{◌≡◌, ℕ, ◌+◌, ◌<◌, ◌≤◌, List, length, Some, subst, arith}
use Rattle.std.specs.Prelude.{slice_get}
use Rattle.edges.specs.declared.EdgeOp.{EdgeOp}
use Rattle.outlines.specs.Outline.{Thread}
use Rattle.outlines.specs.Moves.{Position, MovesTo}
use Rattle.outlines.specs.Rows.{Row, way, HasWay, From}
use Rattle.outlines.specs.Points.{thread_rows, thread_end}
use Rattle.outline_laws.specs.Leading.{first_point, begins}
use Rattle.outline_laws.proofs.Move.{threads_have_rows, threads_begin, moves_go_along}
use Rattle.outline_laws.proofs.Numbers.{from_self, thread_grows, last_within, ends, ends_length}
use Rattle.outline_laws.proofs.Placed.{rows_of, src_of}
use Rattle.outline_laws.proofs.Shape.{rows_have_shape}
use Rattle.accounts.specs.Points.{IsLocated}

module _ (es : List Thread) (u : ℕ) (th : Thread) (found : slice_get es u ≡ Some th) where
  abbrev first : ℕ
  first = first_point 0 es 0 u

  -- the rows of the thread
  own : (more : List Row) × From (src_of es) first (thread_rows u th first more)
  own = threads_have_rows (src_of es) es u th (from_self (rows_of es)) found

  -- where it begins
  pub located_first : IsLocated es u th (begins u th.body) first
  located_first =
      let start = threads_begin (src_of es) u th first own.0 own.1 in
      let last = start.1 in
      record { out = start.0; last = last; located = start.2; begun = omega arith; before = omega (arith, last, thread_grows u th first) }

  module _ (x : Position) (p : ℕ) (at : IsLocated es u th x p) where
    above : p < thread_end u th first
    above = let last = at.last in let before = at.before in omega (arith, last, before)

    -- its points are points
    pub point_within : p < length (rows_of es)
    point_within =
        let plus : 0 + u ≡ u = omega arith in
        let within = subst (λ k. thread_end k th first ≤ ends (rows_of es) 0) plus (last_within 0 es 0 u th found) in
        omega (arith, above, within, ends_length (rows_of es) 0)

    -- and they are its own
    pub point_of_thread : (src_of es p).thread ≡ u
    point_of_thread = (rows_have_shape (src_of es) u th first own.0 own.1 p at.begun above).thread

    -- where it moves, it goes along a way
    pub goes_along : (does : EdgeOp) (y : Position) → MovesTo th.body x does y → (q : ℕ) × HasWay (src_of es) p (way does q) × IsLocated es u th y q
    goes_along does y edge =
        let gone = moves_go_along (src_of es) th.body first at.out x y does p at.located edge in
        let to = (rows_have_shape (src_of es) u th first own.0 own.1 p at.begun above).within (way does gone.0) gone.1 in
        let last = at.last in
        (gone.0, gone.1, record { out = at.out; last = last; located = gone.2; begun = to.0; before = omega (arith, last, to.1) })
