-- Where a frame stands in the statements of its function.
use Rattle.std.specs.Prelude.{◌≡◌, ◌<◌, ⊤, ℕ, zero, suc, ◌+◌, Bool, true, List, [], ◌∷◌}
use Rattle.c_tree.specs.Bare as bare
use Rattle.c_tree.specs.Bare.{Stmt, Stmts, Nil, Cons}
use Rattle.c_frames.specs.declared.positions.Part.{Part}
use Rattle.c_frames.specs.declared.positions.Part.TheVariants.{Then, Else, Body, Step}
use Rattle.c_frames.specs.declared.positions.Entered.{Entered}
use Rattle.c_frames.specs.declared.positions.After.{After}
use Rattle.c_frames.specs.declared.positions.After.TheVariants.{Past, Again, Test, Stepping}
use Rattle.c_frames.specs.declared.positions.Standing.{Standing}
use Rattle.c_tree.specs.Bare.{before}
use Rattle.c_meaning.specs.Branching.{loop_of}
use Rattle.c_frames.specs.Heights.{height}

-- a list of statements from a place on
abbrev pub from : ℕ → Stmts → Stmts
from zero ss = ss
from (suc k) Nil = Nil
from (suc k) (Cons s rest) = from k rest

-- the list that is a part of a statement; it has no other parts
abbrev pub part_of : Part → Stmt → Stmts
part_of Then (bare.If test then_arm else_arm) = then_arm
part_of Else (bare.If test then_arm else_arm) = else_arm
part_of Then (bare.TryLock place taken busy) = taken
part_of Else (bare.TryLock place taken busy) = busy
part_of Body (bare.While test body) = body
part_of Body (bare.For first_part test step body) = body
part_of Step (bare.For first_part test step body) = step
part_of part s = Nil

-- what is done behind a part of a statement, where `rest` stands behind that statement
abbrev pub after_part : Part → Stmt → Stmts → Stmts
after_part Body (bare.While test body) rest = Cons (bare.While test body) rest
after_part Body (bare.For first_part test step body) rest = before step (Cons (loop_of test step body) rest)
after_part Step (bare.For first_part test step body) rest = Cons (loop_of test step body) rest
after_part part s rest = rest

abbrev pub entered : Part → Stmts → Stmts
entered part Nil = Nil
entered part (Cons s rest) = part_of part s

abbrev pub left : Part → Stmts → Stmts
left part Nil = Nil
left part (Cons s rest) = after_part part s rest

-- the innermost of the lists that were entered, the outermost first
abbrev pub inside : Stmts → List Entered → Stmts
inside list [] = list
inside list (q ∷ qs) = inside (entered q.part (from q.index list)) qs

-- what is done behind that list
abbrev pub behind : Stmts → List Entered → Stmts
behind list [] = Nil
behind list (q ∷ qs) = before (behind (entered q.part (from q.index list)) qs) (left q.part (from q.index list))

-- What is next in a list of statements: its first one, or, where a `for` stands first whose first part is done, its loop.
abbrev pub next_in : Bool → Stmts → Stmts
next_in true (Cons (bare.For first_part test step body) rest) = Cons (loop_of test step body) rest
next_in begun list = list

-- the statements that are still to do, where a frame has entered these lists and is at a place of the innermost one
abbrev pub todo : Stmts → List Entered → ℕ → Bool → Stmts
todo body at index begun = before (next_in begun (from index (inside body at))) (behind body at)

-- what comes where a part of a statement is done
abbrev pub resumed : After → Stmt → Stmts → Stmts
resumed Past s rest = rest
resumed Again s rest = Cons s rest
resumed Test s rest = next_in true (Cons s rest)
resumed Stepping s rest = before (part_of Step s) (after_part Step s rest)

-- what is still to do in a list of statements, where a frame stands there
abbrev pub todo_at : Stmts → Standing → Stmts
todo_at body at = todo body at.entered.items at.index at.begun

-- what is done where a statement comes next: itself, or the loop of a `for` whose first part is done
abbrev pub first_of : Bool → Stmt → Stmt
first_of true (bare.For first_part test step body) = loop_of test step body
first_of begun s = s

-- what is still to do behind the statement that comes next
abbrev pub rest_at : Stmts → Standing → Stmts
rest_at body at = before (from (at.index + 1) (inside body at.entered.items)) (behind body at.entered.items)

-- a statement comes next
pub record StandsAt (body : Stmts) (at : Standing) (s : Stmt) : Type 0 where
  pub here : from at.index (inside body at.entered.items) ≡ Cons s (from (at.index + 1) (inside body at.entered.items))
  pub first : todo_at body at ≡ Cons (first_of at.begun s) (rest_at body at)

-- a frame stands at a statement, or nothing is left
pub record IsSettled (body : Stmts) (at : Standing) : Type 0 where
  pub here : from at.index (inside body at.entered.items) ≡ Nil → at.entered.items ≡ []

-- parts count, bodies twice, since a step may come behind one
abbrev pub weight_of : Part → ℕ
weight_of Body = 2
weight_of part = 1

abbrev pub weight : List Entered → ℕ
weight [] = 0
weight (q ∷ qs) = weight_of q.part + weight qs

-- each list that was entered is lower than the one around it
abbrev pub Descends : Stmts → List Entered → Type 0
Descends list [] = ⊤
Descends list (q ∷ qs) = (height (entered q.part (from q.index list)) < height list) × Descends (entered q.part (from q.index list)) qs
