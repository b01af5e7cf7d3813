-- The pieces that control reaches, each with the number of its point.
use Rattle.std.specs.Prelude.{ℕ, zero, suc, Bool, true, false, List, [], ◌∷◌, Option, Some, None}
use Rattle.edges.specs.declared.EdgeOp.{EdgeOp}
use Rattle.edges.specs.declared.EdgeOp.TheVariants as op
use Rattle.outlines.specs.Outline.{Part, Parts, Step, Join, Acquire, Release, Wait, Try, Branch, Loop, Inner, Leave, Nil, Cons, Thread, live_all}
use Rattle.outlines.specs.Points.{end, end_all}
use Rattle.outline_pieces.specs.declared.pieces.Piece.{Piece}
use Rattle.outline_pieces.specs.declared.pieces.Piece.TheVariants as piece
use Rattle.outline_pieces.specs.declared.pieces.Deed.{Deed}
use Rattle.outline_pieces.specs.declared.pieces.Deed.TheVariants as deed
use Rattle.outline_pieces.specs.declared.pieces.Place.{Place}

-- what a deed takes or gives
abbrev pub op_of : Deed → EdgeOp
op_of deed.Plain = op.Plain
op_of deed.Join = op.Plain
op_of (deed.Acquire r) = op.Acquire r
op_of (deed.Release r) = op.Release r
op_of (deed.Wait r) = op.Release r
op_of deed.Sleep = op.Plain
op_of (deed.Take r) = op.Acquire r
op_of (deed.Retake r) = op.Reacquire r

abbrev pub sleeps : Deed → Bool
sleeps deed.Plain = false
sleeps deed.Join = false
sleeps (deed.Acquire r) = false
sleeps (deed.Release r) = false
sleeps (deed.Wait r) = false
sleeps deed.Sleep = true
sleeps (deed.Take r) = false
sleeps (deed.Retake r) = false

-- what is taken on the way into the first arm
abbrev pub op_tried : Option ℕ → EdgeOp
op_tried None = op.Plain
op_tried (Some r) = op.Try r

abbrev pub place : ℕ → ℕ → Piece → Place
place t p x = record { thread = t; at = p; piece = x }

abbrev pub woken_places : ℕ → ℕ → ℕ → List ℕ → ℕ → List Place → List Place
woken_places t line r [] p more = place t p (piece.Pass line (deed.Retake r)) ∷ more
woken_places t line r (c ∷ cs) p more = place t p (piece.Pass line (deed.Take c)) ∷ woken_places t line r cs (suc p) more

abbrev mutual
  -- the places of a part of the thread t whose points are numbered from p, before more
  pub places : ℕ → Part → ℕ → List Place → List Place
  places t (Step line) p more = place t p (piece.Pass line deed.Plain) ∷ more
  places t (Join line) p more = place t p (piece.Pass line deed.Join) ∷ more
  places t (Acquire line r) p more = place t p (piece.Pass line (deed.Acquire r)) ∷ more
  places t (Release line r) p more = place t p (piece.Pass line (deed.Release r)) ∷ more
  places t (Wait line r cs) p more =
      place t p (piece.Pass line (deed.Wait r)) ∷ place t (suc p) (piece.Pass line deed.Sleep) ∷ woken_places t line r cs (suc (suc p)) more
  places t (Try line r a b) p more =
      place t p (piece.Fork line (Some r)) ∷ places_all t a (suc p)
      (place t p piece.Else ∷ places_all t b (end_all a (suc p)) (place t p piece.ArmsEnd ∷ more))
  places t (Branch line a b) p more =
      place t p (piece.Fork line None) ∷ places_all t a (suc p)
      (place t p piece.Else ∷ places_all t b (end_all a (suc p)) (place t p piece.ArmsEnd ∷ more))
  places t (Loop line body) p more = place t p (piece.Loop line) ∷ places_all t body (suc p) (place t p piece.LoopEnd ∷ more)
  places t (Inner line f body) p more = place t p (piece.Inner line) ∷ places_all t body (suc p) (place t p piece.InnerEnd ∷ more)
  places t (Leave line) p more = place t p (piece.Leave line) ∷ more

  pub places_all : ℕ → Parts → ℕ → List Place → List Place
  places_all t Nil p more = more
  places_all t (Cons x xs) p more = places t x p (places_all t xs (end x p) more)

-- the places of threads; main's begin is no point
abbrev pub first_in : ℕ → ℕ → ℕ
first_in zero p = p
first_in (suc t) p = suc p

abbrev pub thread_places : ℕ → Thread → ℕ → List Place → List Place
thread_places t th p more =
    place t p (piece.Begin th.line) ∷ places_all t (live_all th.body) (first_in t p)
    (place t (end_all (live_all th.body) (first_in t p)) (piece.Finish th.end_line) ∷ more)

abbrev pub threads_places : ℕ → List Thread → ℕ → List Place
threads_places t [] p = []
threads_places t (th ∷ ths) p = thread_places t th p (threads_places (suc t) ths (suc (end_all (live_all th.body) (first_in t p))))
