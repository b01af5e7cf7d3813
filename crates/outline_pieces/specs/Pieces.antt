-- The pieces of outlines, in text order.
use Rattle.std.specs.Prelude.{ℕ, List, [], ◌∷◌, Some, None}
use Rattle.outlines.specs.Outline.{Part, Parts, Step, Join, Acquire, Release, Wait, Try, Branch, Loop, Inner, Leave, Nil, Cons, Thread}
use Rattle.outline_pieces.specs.declared.pieces.Piece.{Piece}
use Rattle.outline_pieces.specs.declared.pieces.Piece.TheVariants as piece
use Rattle.outline_pieces.specs.declared.pieces.Deed.TheVariants as deed

-- what a woken thread takes
abbrev pub woken_pieces : ℕ → ℕ → List ℕ → List Piece → List Piece
woken_pieces line r [] more = piece.Pass line (deed.Retake r) ∷ more
woken_pieces line r (c ∷ cs) more = piece.Pass line (deed.Take c) ∷ woken_pieces line r cs more

-- a wait gives its mutex, sleeps, and takes again
abbrev pub wait_pieces : ℕ → ℕ → List ℕ → List Piece → List Piece
wait_pieces line r cs more = piece.Pass line (deed.Wait r) ∷ piece.Pass line deed.Sleep ∷ woken_pieces line r cs more

abbrev mutual
  -- the pieces of a part, before more
  pub pieces : Part → List Piece → List Piece
  pieces (Step line) more = piece.Pass line deed.Plain ∷ more
  pieces (Join line) more = piece.Pass line deed.Join ∷ more
  pieces (Acquire line r) more = piece.Pass line (deed.Acquire r) ∷ more
  pieces (Release line r) more = piece.Pass line (deed.Release r) ∷ more
  pieces (Wait line r cs) more = wait_pieces line r cs more
  pieces (Try line r a b) more = piece.Fork line (Some r) ∷ pieces_all a (piece.Else ∷ pieces_all b (piece.ArmsEnd ∷ more))
  pieces (Branch line a b) more = piece.Fork line None ∷ pieces_all a (piece.Else ∷ pieces_all b (piece.ArmsEnd ∷ more))
  pieces (Loop line body) more = piece.Loop line ∷ pieces_all body (piece.LoopEnd ∷ more)
  pieces (Inner line f body) more = piece.Inner line ∷ pieces_all body (piece.InnerEnd ∷ more)
  pieces (Leave line) more = piece.Leave line ∷ more

  pub pieces_all : Parts → List Piece → List Piece
  pieces_all Nil more = more
  pieces_all (Cons x xs) more = pieces x (pieces_all xs more)

-- the pieces of threads, each from its begin to its end
abbrev pub thread_pieces : Thread → List Piece → List Piece
thread_pieces th more = piece.Begin th.line ∷ pieces_all th.body (piece.Finish th.end_line ∷ more)

abbrev pub threads_pieces : List Thread → List Piece
threads_pieces [] = []
threads_pieces (th ∷ ths) = thread_pieces th (threads_pieces ths)
