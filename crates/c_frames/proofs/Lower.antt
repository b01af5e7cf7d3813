-- Each list that can be entered is lower than the one that it stands in.
use Rattle.std.proofs.Common.{◌≡◌, ◌<◌, ◌≤◌, ◌+◌, ℕ, zero, suc, max, List, [], ◌∷◌, ◌++◌, length, slice_index_or, ap, arith}
use Rattle.c_tree.specs.declared.stmt.Stmt as declared
use Rattle.c_tree.specs.Bare.{Stmt, Stmts, Nil, Cons, If, While, For, TryLock}
use Rattle.c_frames.specs.declared.positions.Part.{Part}
use Rattle.c_frames.specs.declared.positions.Part.TheVariants.{Then, Else, Body, Step}
use Rattle.c_frames.specs.declared.positions.Entered.{Entered}
use Rattle.c_meaning.specs.Shown.{shown_stmt, shown_body}
use Rattle.c_frames.specs.Heights.{height, height_inside}
use Rattle.c_frames.specs.Positions.{from, part_of, entered, inside, Descends}
use Rattle.c_frames.proofs.Standings.{there_of, from_there, from_past}

lower_part : (part : Part) (s : Stmt) → height (part_of part s) ≤ height_inside s
lower_part Then (If test then_arm else_arm) = omega arith
lower_part Else (If test then_arm else_arm) = omega arith
lower_part Then (TryLock place taken busy) = omega arith
lower_part Else (TryLock place taken busy) = omega arith
lower_part Body (While test body) = omega arith
lower_part Body (For first_part test step body) = omega arith
lower_part Step (For first_part test step body) = omega arith
lower_part Then s = omega arith
lower_part Else s = omega arith
lower_part Body s = omega arith
lower_part Step s = omega arith

pub from_lower : (k : ℕ) (list : Stmts) → height (from k list) ≤ height list
from_lower zero list = omega arith
from_lower (suc k) Nil = omega arith
from_lower (suc k) (Cons s rest) = omega (arith, from_lower k rest)

-- a part of a statement of a list is lower than the list
pub enters_lower : (part : Part) (k : ℕ) (list : Stmts) (s : Stmt) (rest : Stmts) → from k list ≡ Cons s rest → height (entered part (from k list)) < height list
enters_lower part k list s rest there =
    let part_height : height (entered part (from k list)) ≡ height (part_of part s) = ap (λ l. height (entered part l)) there in
    let list_height : height (from k list) ≡ max (suc (height_inside s)) (height rest) = ap height there in
    omega (arith, part_height, list_height, lower_part part s, from_lower k list)

pub descends_end : (list : Stmts) (at : List Entered) (q : Entered) → Descends list at → height (entered q.part (from q.index (inside list at))) < height (inside list at)
    → Descends list (at ++ q ∷ [])
descends_end list [] q down lower = (lower, tt)
descends_end list (p ∷ at) q down lower = (down.0, descends_end (entered p.part (from p.index list)) at q down.1 lower)

pub descends_front : (list : Stmts) (at : List Entered) (q : Entered) → Descends list (at ++ q ∷ []) → Descends list at
descends_front list [] q down = tt
descends_front list (p ∷ at) q down = (down.0, descends_front (entered p.part (from p.index list)) at q down.1)

-- a list that was entered leaves room
pub descends_room : (list : Stmts) (at : List Entered) → Descends list at → length at + height (inside list at) ≤ height list
descends_room list [] down = omega arith
descends_room list (q ∷ at) down = omega (arith, down.0, descends_room (entered q.part (from q.index list)) at down.1)

-- ---- the walk

pub next_height : (ss : List declared.Stmt) (k : ℕ) (s : declared.Stmt) (high more : ℕ) → k < length ss → s ≡ slice_index_or ss k s → more ≡ max (height_inside (shown_stmt s) + 1) high
    → max high (height (from k (shown_body ss))) ≡ height (shown_body ss) → max more (height (from (k + 1) (shown_body ss))) ≡ height (shown_body ss)
next_height ss k s high more within is most so_far =
    let here : height (from k (shown_body ss)) ≡ max (suc (height_inside (shown_stmt s))) (height (from (suc k) (shown_body ss))) = ap height (from_there ss k s (there_of ss k s within is)) in
    let one_more : suc k ≡ k + 1 = omega arith in
    let next : height (from (suc k) (shown_body ss)) ≡ height (from (k + 1) (shown_body ss)) = ap (λ j. height (from j (shown_body ss))) one_more in
    omega (arith, here, next, most, so_far)

pub whole_height : (ss : List declared.Stmt) (k high : ℕ) → length ss ≤ k → max high (height (from k (shown_body ss))) ≡ height (shown_body ss) → high ≡ height (shown_body ss)
whole_height ss k high all so_far =
    let nothing : height (from k (shown_body ss)) ≡ zero = ap height (from_past ss k all) in
    omega (arith, nothing, so_far)
