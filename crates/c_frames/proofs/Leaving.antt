-- What is still to do stays the same where a list is left in which nothing is left.
use Rattle.std.proofs.Common.{◌≡◌, ◌+◌, ℕ, suc, Bool, true, false, List, [], ◌∷◌, ◌++◌, refl, sym, ap, ◌∙◌, arith}
use Rattle.c_tree.specs.Bare.{Stmt, Stmts, Nil, Cons, While, For}
use Rattle.c_frames.specs.declared.positions.Part.{Part}
use Rattle.c_frames.specs.declared.positions.Part.TheVariants.{Then, Else, Body, Step}
use Rattle.c_frames.specs.declared.positions.Entered.{Entered}
use Rattle.c_frames.specs.declared.positions.Standing.{Standing}
use Rattle.c_tree.specs.Bare.{before}
use Rattle.c_meaning.specs.Branching.{loop_of}
use Rattle.c_frames.specs.Positions.{from, part_of, after_part, entered, left, inside, behind, next_in, first_of, todo, StandsAt, weight, weight_of}

pub before_nil : (ss : Stmts) → before ss Nil ≡ ss
before_nil Nil = refl
before_nil (Cons s ss) = ap (Cons s) (before_nil ss)

pub before_before : (a b c : Stmts) → before (before a b) c ≡ before a (before b c)
before_before Nil b c = refl
before_before (Cons s a) b c = ap (Cons s) (before_before a b c)

pub inside_end : (list : Stmts) (at : List Entered) (q : Entered) → inside list (at ++ q ∷ []) ≡ entered q.part (from q.index (inside list at))
inside_end list [] q = refl
inside_end list (p ∷ at) q = inside_end (entered p.part (from p.index list)) at q

pub behind_end : (list : Stmts) (at : List Entered) (q : Entered) → behind list (at ++ q ∷ []) ≡ before (left q.part (from q.index (inside list at))) (behind list at)
behind_end list [] q = sym (before_nil (left q.part (from q.index list)))
behind_end list (p ∷ at) q =
    let next = entered p.part (from p.index list) in
    ap (λ b. before b (left p.part (from p.index list))) (behind_end next at q)
    ∙ before_before (left q.part (from q.index (inside next at))) (behind next at) (left p.part (from p.index list))

pub weight_end : (at : List Entered) (q : Entered) → weight (at ++ q ∷ []) ≡ weight at + weight_of q.part
weight_end [] q = omega arith
weight_end (p ∷ at) q = omega (arith, weight_end at q)

-- the statement is past, or comes again, or its loop is next
pub resumes_here : (body list : Stmts) (at : List Entered) (q : Entered) (begun : Bool) (index : ℕ) → inside body at ≡ list → left q.part (from q.index list) ≡ next_in begun (from index list)
    → todo body at index begun ≡ before (left q.part (from q.index list)) (behind body at)
resumes_here body list at q begun index is same = ap (λ l. before (next_in begun (from index l)) (behind body at)) is ∙ ap (λ l. before l (behind body at)) (sym same)

-- the step is next
pub resumes_step : (body list : Stmts) (at : List Entered) (q step : Entered) → step.part ≡ Step → step.index ≡ q.index → inside body at ≡ list
    → left q.part (from q.index list) ≡ before (entered Step (from q.index list)) (left Step (from q.index list))
    → todo body (at ++ step ∷ []) 0 false ≡ before (left q.part (from q.index list)) (behind body at)
resumes_step body list at q step part_is index_is is same =
    let here : (l : Stmts) → from step.index l ≡ from q.index l = λ l. ap (λ k. from k l) index_is in
    let first : inside body (at ++ step ∷ []) ≡ entered Step (from q.index list) =
    inside_end body at step ∙ ap (λ p. entered p (from step.index (inside body at))) part_is ∙ ap (entered Step) (here (inside body at)) ∙ ap (λ l. entered Step (from q.index l)) is in
    let second : behind body (at ++ step ∷ []) ≡ before (left Step (from q.index list)) (behind body at) =
    behind_end body at step ∙ ap (λ p. before (left p (from step.index (inside body at))) (behind body at)) part_is
    ∙ ap (λ l. before (left Step l) (behind body at)) (here (inside body at)) ∙ ap (λ l. before (left Step (from q.index l)) (behind body at)) is in
    ap (λ l. before l (behind body (at ++ step ∷ []))) first ∙ ap (before (entered Step (from q.index list))) second
    ∙ sym (before_before (entered Step (from q.index list)) (left Step (from q.index list)) (behind body at)) ∙ ap (λ l. before l (behind body at)) (sym same)

-- where nothing is left in the innermost list, the list around it is next
pub leaves : (body : Stmts) (at : List Entered) (q : Entered) (index : ℕ) (begun : Bool) → from index (inside body (at ++ q ∷ [])) ≡ Nil
    → before (left q.part (from q.index (inside body at))) (behind body at) ≡ todo body (at ++ q ∷ []) index begun
leaves body at q index begun nothing = sym (behind_end body at q) ∙ sym (by begun (from index (inside body (at ++ q ∷ []))) nothing)
  where
    by : (b : Bool) (l : Stmts) → l ≡ Nil → before (next_in b l) (behind body (at ++ q ∷ [])) ≡ behind body (at ++ q ∷ [])
    by true l e = ap (λ x. before (next_in true x) (behind body (at ++ q ∷ []))) e
    by false l e = ap (λ x. before x (behind body (at ++ q ∷ []))) e

-- a statement of the innermost list comes next
pub next_here : (begun : Bool) (s : Stmt) (rest after : Stmts) → before (next_in begun (Cons s rest)) after ≡ Cons (first_of begun s) (before rest after)
next_here true (For first_part test step body) rest after = refl
next_here true s rest after = refl
next_here false s rest after = refl

-- where nothing is behind a list either, nothing is left
pub next_nothing : (body : Stmts) (at : List Entered) (index : ℕ) (begun : Bool) → from index (inside body at) ≡ Nil → at ≡ [] → todo body at index begun ≡ Nil
next_nothing body at index begun nothing outermost = by begun (from index (inside body at)) nothing ∙ ap (behind body) outermost
  where
    by : (b : Bool) (l : Stmts) → l ≡ Nil → before (next_in b l) (behind body at) ≡ behind body at
    by true l e = ap (λ x. before (next_in true x) (behind body at)) e
    by false l e = ap (λ x. before x (behind body at)) e

-- a part and what is done behind it, also behind the list around it
pub part_after : (part : Part) (s : Stmt) (rest after : Stmts) → before (after_part part s rest) after ≡ after_part part s (before rest after)
part_after Body (While test body) rest after = refl
part_after Body (For first_part test step body) rest after = before_before step (Cons (loop_of test step body) rest) after
part_after Step (For first_part test step body) rest after = refl
part_after Then s rest after = refl
part_after Else s rest after = refl
part_after Body s rest after = refl
part_after Step s rest after = refl

-- a part that is entered, with what is done behind it
pub enters_part : (body : Stmts) (at : List Entered) (q : Entered) (s : Stmt) (rest : Stmts) → from q.index (inside body at) ≡ Cons s rest
    → todo body (at ++ q ∷ []) 0 false ≡ before (part_of q.part s) (after_part q.part s (before rest (behind body at)))
enters_part body at q s rest here =
    let first : inside body (at ++ q ∷ []) ≡ part_of q.part s = inside_end body at q ∙ ap (entered q.part) here in
    let second : behind body (at ++ q ∷ []) ≡ before (after_part q.part s rest) (behind body at) = behind_end body at q ∙ ap (λ l. before (left q.part l) (behind body at)) here in
    ap (λ l. before l (behind body (at ++ q ∷ []))) first ∙ ap (before (part_of q.part s)) (second ∙ part_after q.part s rest (behind body at))

-- the statement at a place of the innermost list comes next
pub stands : (body : Stmts) (at : Standing) (list : Stmts) (s : Stmt) → inside body at.entered.items ≡ list → from at.index list ≡ Cons s (from (suc at.index) list) → StandsAt body at s
stands body at list s is there =
    let one_more : suc at.index ≡ at.index + 1 = omega arith in
    let here : from at.index (inside body at.entered.items) ≡ Cons s (from (at.index + 1) (inside body at.entered.items)) =
    ap (from at.index) is ∙ there ∙ ap (λ k. Cons s (from k list)) one_more ∙ ap (λ l. Cons s (from (at.index + 1) l)) (sym is) in
    record { here = here; first = ap (λ l. before (next_in at.begun l) (behind body at.entered.items)) here ∙ next_here at.begun s _ (behind body at.entered.items) }
