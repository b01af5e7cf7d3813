-- The pieces of parts before others are those of the parts, and then the others.
use Rattle.std.proofs.Common.{◌≡◌, ℕ, List, [], ◌∷◌, ◌++◌, refl, sym, ap, ◌∙◌, Some, None, append_assoc}
use Rattle.outlines.specs.Outline.{Part, Parts, Step, Join, Acquire, Release, Wait, Try, Branch, Loop, Inner, Leave, Nil, Cons, Thread, joined}
use Rattle.outline_pieces.specs.declared.pieces.Piece.{Piece}
use Rattle.outline_pieces.specs.declared.pieces.Piece.TheVariants as piece
use Rattle.outline_pieces.specs.declared.pieces.Deed.TheVariants as deed
use Rattle.outline_pieces.specs.Pieces.{woken_pieces, wait_pieces, pieces, pieces_all, thread_pieces, threads_pieces}

woken_before : (line r : ℕ) (cs : List ℕ) (more : List Piece) → woken_pieces line r cs more ≡ woken_pieces line r cs [] ++ more
woken_before line r [] more = refl
woken_before line r (c ∷ cs) more = ap (λ l. piece.Pass line (deed.Take c) ∷ l) (woken_before line r cs more)

pub wait_before : (line r : ℕ) (cs : List ℕ) (more : List Piece) → wait_pieces line r cs more ≡ wait_pieces line r cs [] ++ more
wait_before line r cs more = ap (λ l. piece.Pass line (deed.Wait r) ∷ piece.Pass line deed.Sleep ∷ l) (woken_before line r cs more)

-- what two arms end with goes to the end
two : (xs ys more : List Piece) → (xs ++ (piece.Else ∷ (ys ++ (piece.ArmsEnd ∷ [])))) ++ more ≡ xs ++ (piece.Else ∷ (ys ++ (piece.ArmsEnd ∷ more)))
two xs ys more =
    append_assoc xs (piece.Else ∷ (ys ++ (piece.ArmsEnd ∷ []))) more ∙ ap (λ z. xs ++ (piece.Else ∷ z)) (append_assoc ys (piece.ArmsEnd ∷ []) more)

mutual
  pub before : (x : Part) (more : List Piece) → pieces x more ≡ pieces x [] ++ more
  before (Step line) more = refl
  before (Join line) more = refl
  before (Acquire line r) more = refl
  before (Release line r) more = refl
  before (Wait line r cs) more = wait_before line r cs more
  before (Try line r a b) more =
      let arms : (l : List Piece) → pieces_all a (piece.Else ∷ pieces_all b (piece.ArmsEnd ∷ l)) ≡ pieces_all a [] ++ (piece.Else ∷ (pieces_all b [] ++ (piece.ArmsEnd ∷ l))) =
      λ l. before_all a (piece.Else ∷ pieces_all b (piece.ArmsEnd ∷ l)) ∙ ap (λ z. pieces_all a [] ++ (piece.Else ∷ z)) (before_all b (piece.ArmsEnd ∷ l)) in
      ap (λ l. piece.Fork line (Some r) ∷ l) (arms more ∙ sym (two (pieces_all a []) (pieces_all b []) more) ∙ ap (λ z. z ++ more) (sym (arms [])))
  before (Branch line a b) more =
      let arms : (l : List Piece) → pieces_all a (piece.Else ∷ pieces_all b (piece.ArmsEnd ∷ l)) ≡ pieces_all a [] ++ (piece.Else ∷ (pieces_all b [] ++ (piece.ArmsEnd ∷ l))) =
      λ l. before_all a (piece.Else ∷ pieces_all b (piece.ArmsEnd ∷ l)) ∙ ap (λ z. pieces_all a [] ++ (piece.Else ∷ z)) (before_all b (piece.ArmsEnd ∷ l)) in
      ap (λ l. piece.Fork line None ∷ l) (arms more ∙ sym (two (pieces_all a []) (pieces_all b []) more) ∙ ap (λ z. z ++ more) (sym (arms [])))
  before (Loop line body) more =
      ap (λ l. piece.Loop line ∷ l)
      (before_all body (piece.LoopEnd ∷ more) ∙ sym (append_assoc (pieces_all body []) (piece.LoopEnd ∷ []) more)
      ∙ ap (λ z. z ++ more) (sym (before_all body (piece.LoopEnd ∷ []))))
  before (Inner line f body) more =
      ap (λ l. piece.Inner line ∷ l)
      (before_all body (piece.InnerEnd ∷ more) ∙ sym (append_assoc (pieces_all body []) (piece.InnerEnd ∷ []) more)
      ∙ ap (λ z. z ++ more) (sym (before_all body (piece.InnerEnd ∷ []))))
  before (Leave line) more = refl

  pub before_all : (xs : Parts) (more : List Piece) → pieces_all xs more ≡ pieces_all xs [] ++ more
  before_all Nil more = refl
  before_all (Cons x xs) more =
      before x (pieces_all xs more) ∙ ap (λ z. pieces x [] ++ z) (before_all xs more) ∙ sym (append_assoc (pieces x []) (pieces_all xs []) more)
      ∙ ap (λ z. z ++ more) (sym (before x (pieces_all xs [])))

-- one list of parts and then another, and one more thread
pub pieces_joined : (xs ys : Parts) (more : List Piece) → pieces_all (joined xs ys) more ≡ pieces_all xs (pieces_all ys more)
pieces_joined Nil ys more = refl
pieces_joined (Cons x xs) ys more = ap (pieces x) (pieces_joined xs ys more)

thread_before : (th : Thread) (more : List Piece) → thread_pieces th more ≡ thread_pieces th [] ++ more
thread_before th more =
    ap (λ l. piece.Begin th.line ∷ l)
    (before_all th.body (piece.Finish th.end_line ∷ more) ∙ sym (append_assoc (pieces_all th.body []) (piece.Finish th.end_line ∷ []) more)
    ∙ ap (λ z. z ++ more) (sym (before_all th.body (piece.Finish th.end_line ∷ []))))

pub one_more_thread : (ths : List Thread) (th : Thread) → threads_pieces (ths ++ th ∷ []) ≡ threads_pieces ths ++ thread_pieces th []
one_more_thread [] th = refl
one_more_thread (first ∷ ths) th =
    ap (thread_pieces first) (one_more_thread ths th)
    ∙ thread_before first (threads_pieces ths ++ thread_pieces th [])
    ∙ sym (append_assoc (thread_pieces first []) (threads_pieces ths) (thread_pieces th []))
    ∙ ap (λ z. z ++ thread_pieces th []) (sym (thread_before first (threads_pieces ths)))
