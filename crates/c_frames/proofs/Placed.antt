-- What comes next where a frame stands, and what is picked of it.
use Rattle.std.proofs.Common.{◌≡◌, ◌≤◌, ◌+◌, ℕ, zero, suc, Bool, true, false, refl, sym, ap, ◌∙◌, length, arith}
use Rattle.std.specs.Prelude.{max, List, Option, Some, None, is_some, IfSome}
use Rattle.c_frames.specs.declared.positions.Entered.{Entered}
use Rattle.c_tree.specs.Bare.{Stmt, Stmts, Nil, Cons, Function, If, While, For, TryLock}
use Rattle.c_frames.specs.declared.frames.Arm.{Arm}
use Rattle.c_frames.specs.declared.frames.Arm.TheVariants.{Then, Else, Body}
use Rattle.c_frames.specs.declared.frames.Frame.{Frame}
use Rattle.c_frames.specs.declared.positions.Part.TheVariants as parts
use Rattle.c_frames.specs.declared.positions.Standing.{Standing}
use Rattle.c_tree.specs.Bare.{before}
use Rattle.c_meaning.specs.Branching.{loop_of}
use Rattle.c_frames.specs.Frames.{picked, IsPlaced}
use Rattle.c_frames.specs.Heights.{height, height_inside}
use Rattle.c_frames.specs.Positions.{from, part_of, after_part, inside, behind, next_in, first_of, todo_at, rest_at, StandsAt, IsSettled, Descends}
use Rattle.c_frames.proofs.Leaving.{before_before, next_here, next_nothing}
use Rattle.c_frames.proofs.Lower.{from_lower, descends_room}

from_next : (k : ℕ) (list : Stmts) (s : Stmt) (rest : Stmts) → from k list ≡ Cons s rest → rest ≡ from (suc k) list
from_next zero (Cons s' list) s rest is = sym (cc is)
from_next zero Nil s rest is = absurd (cc is)
from_next (suc k) Nil s rest is = absurd (cc is)
from_next (suc k) (Cons s' list) s rest is = from_next k list s rest is

-- the statement at which a frame stands, where this is still to do
pub record Found (body : Stmts) (at : Standing) (s : Stmt) (rest : Stmts) : Type 0 where
  pub stmt : Stmt
  pub stands : StandsAt body at stmt
  pub first : first_of at.begun stmt ≡ s
  pub behind : rest_at body at ≡ rest

stands_here : (body : Stmts) (at : Standing) (s : Stmt) (rest : Stmts) → from at.index (inside body at.entered.items) ≡ Cons s rest → StandsAt body at s
stands_here body at s rest there =
    let one_more : suc at.index ≡ at.index + 1 = omega arith in
    let here : from at.index (inside body at.entered.items) ≡ Cons s (from (at.index + 1) (inside body at.entered.items)) =
    there ∙ ap (Cons s) (from_next at.index (inside body at.entered.items) s rest there) ∙ ap (λ k. Cons s (from k (inside body at.entered.items))) one_more in
    record { here = here; first = ap (λ l. before (next_in at.begun l) (behind body at.entered.items)) here ∙ next_here at.begun s _ (behind body at.entered.items) }

pub found : (body : Stmts) (at : Standing) (s : Stmt) (rest : Stmts) → IsSettled body at → todo_at body at ≡ Cons s rest → Found body at s rest
found body at s rest settled todo = by (from at.index (inside body at.entered.items)) refl
  where
    by : (list : Stmts) → from at.index (inside body at.entered.items) ≡ list → Found body at s rest
    by Nil nothing = absurd (cc (next_nothing body at.entered.items at.index at.begun nothing (settled.here nothing), todo))
    by (Cons s' rest') there =
        let stands = stands_here body at s' rest' there in
        let same : Cons (first_of at.begun s') (rest_at body at) ≡ Cons s rest = sym stands.first ∙ todo in
        record { stmt = s'; stands = stands; first = cc same; behind = cc same }

-- a loop is begun once
pub begun_once : (begun : Bool) (s : Stmt) → first_of true (first_of begun s) ≡ first_of true s
begun_once true (For first_part test step body) = refl
begun_once true s = refl
begun_once false s = refl

-- of the loop of a `for` the same is picked
pub picked_begun : (arm : Arm) (begun : Bool) (s : Stmt) (rest : Stmts) → picked arm (first_of begun s) rest ≡ picked arm s rest
picked_begun Then true (For first_part test step body) rest = refl
picked_begun Else true (For first_part test step body) rest = refl
picked_begun Body true (For first_part test step body) rest = before_before body step (Cons (loop_of test step body) rest)
picked_begun arm true s rest = refl
picked_begun arm false s rest = refl

pub picked_then : (s : Stmt) (rest : Stmts) → before (part_of parts.Then s) (after_part parts.Then s rest) ≡ picked Then s rest
picked_then (If test then_arm else_arm) rest = refl
picked_then (TryLock place taken busy) rest = refl
picked_then s rest = refl

pub picked_else : (s : Stmt) (rest : Stmts) → before (part_of parts.Else s) (after_part parts.Else s rest) ≡ picked Else s rest
picked_else (If test then_arm else_arm) rest = refl
picked_else (TryLock place taken busy) rest = refl
picked_else s rest = refl

pub picked_body : (s : Stmt) (rest : Stmts) → before (part_of parts.Body s) (after_part parts.Body s rest) ≡ picked Body s rest
picked_body (While test body) rest = refl
picked_body (For first_part test step body) rest = refl
picked_body s rest = refl

-- a frame that stands at a statement has room for one list more
pub has_room : (f : Function) (frame : Frame) (s : Stmt) → IsPlaced f frame → StandsAt f.body frame.at s → length frame.at.entered.items + 1 ≤ frame.at.entered.capacity
has_room f frame s placed stands =
    let there : height (from frame.at.index (inside f.body frame.at.entered.items)) ≡ max (suc (height_inside s)) (height (from (frame.at.index + 1) (inside f.body frame.at.entered.items))) = ap height stands.here in
    omega (arith, there, from_lower frame.at.index (inside f.body frame.at.entered.items), placed.room, descends_room f.body frame.at.entered.items placed.descends)

-- so also for what it goes out of
pub still_room : (body : Stmts) (items : List Entered) (capacity : ℕ) → Descends body items → height body ≤ capacity → length items + 0 ≤ capacity
still_room body items capacity down room = omega (arith, room, descends_room body items down)

-- what is said of an answer that there is
pub of_some : {X : Type 0} (P : X → Type 0) (r : Option X) → is_some r ≡ true → IfSome r P → (x : X) × P x
of_some P (Some x) there says = (x, says)
of_some P None there says = absurd (cc there)
