-- The walk through the statements of a function, from a context.
use Rattle.std.specs.Prelude.{ℕ, ℤ, Bool, if◌then◌else◌, List, map, Some, None}
use Rattle.std.specs.declared.option.Option.{Option}
use Rattle.c_tree.specs.Bare as bare
use Rattle.c_tree.specs.Numbering.{monitor_resource}
use Rattle.c_tree.specs.Lined.{Stmt, Stmts, Nil, Cons, Call, If, While, For, Return, Join, Lock, TryLock, Unlock, Wait, Take, Give, line_of}
use Rattle.outlines.specs.Outline as outline
use Rattle.outlines.specs.Outline.{Part, Parts, Thread, joined}
use Rattle.contexts.specs.Constants.{Constants, known_after, known_in, known_end, known_turn}
use Rattle.contexts.specs.Resolved.{resolved, constants_of}

-- what a walk finds, with the function of each context so far, by its place, the last first; or the line of a lock that isn't resolved; or that there are too many contexts
pub data Walked (X : Type 0) : Type 0 where
  Found : (x : X) (contexts : List ℕ) → Walked X
  Unresolved : (line : ℕ) → Walked X
  TooMany : Walked X

-- one walk and then another: the first refusal stands
abbrev pub then_walk : {X Y : Type 0} → Walked X → (X → List ℕ → Walked Y) → Walked Y
then_walk (Found x n) go = go x n
then_walk (Unresolved line) go = Unresolved line
then_walk TooMany go = TooMany

-- What a walk knows of the functions above: which bear locks, and what it finds where one is entered with arguments, behind the contexts so far.
-- Such an entry is described as a thread that begins with the function.
pub record Above : Type 0 where
  pub bears : List ℕ → Bool
  pub enter : List ℕ → List (Option ℤ) → List ℕ → Walked Thread

-- the function that is walked: those above it, and the names under which none of its locals is constant
pub record Scene : Type 0 where
  pub program : bare.Program
  pub above : Above
  pub writes : List (List ℕ)

abbrev pub part : Part → Parts
part x = outline.Cons x outline.Nil

abbrev pub one : Part → List ℕ → Walked Parts
one x n = Found (part x) n

-- a lock, and what else is walked with it, where its place is resolved
abbrev pub with_resource : ℕ → Option ℕ → (ℕ → Walked Parts) → Walked Parts
with_resource line None go = Unresolved line
with_resource line (Some r) go = go r

-- a call: a function that bears locks is entered, another one is a step
abbrev pub called : Scene → ℕ → List ℕ → List (Option ℤ) → List ℕ → Walked Parts
called c line name args n =
    if c.above.bears name then then_walk (c.above.enter name args n) (λ f m. one (outline.Inner line f.context f.body) m) else one (outline.Step line) n

abbrev mutual
  -- one statement, where these locals are constant, behind the contexts so far
  pub walk : Scene → Constants → Stmt → List ℕ → Walked Parts
  walk c known (Call line target name args) n = called c line name (constants_of known args) n
  walk c known (If line test a b) n =
      then_walk (walk_all c known a n) (λ xs m. then_walk (walk_all c known b m) (λ ys k. one (outline.Branch line xs ys) k))
  walk c known (While line test body) n = then_walk (walk_all c (known_in known body) body n) (λ xs m. one (outline.Loop line xs) m)
  -- its first part is a step, and then it is a loop, whose body is followed by its step
  walk c known (For line first_part test step body) n =
      then_walk (walk_all c (known_turn c.writes known first_part step body) body n) (λ xs m.
      then_walk (walk_all c (known_end c.writes (known_turn c.writes known first_part step body) body) step m) (λ ys k.
      Found (outline.Cons (outline.Step line) (part (outline.Loop line (joined xs ys)))) k))
  walk c known (Return line e) n = one (outline.Leave line) n
  walk c known (Join line slot) n = one (outline.Join line) n
  walk c known (Lock line place) n = with_resource line (resolved c.program known place) (λ r. one (outline.Acquire line r) n)
  walk c known (TryLock line place taken busy) n = with_resource line (resolved c.program known place) (λ r.
      then_walk (walk_all c known taken n) (λ xs m. then_walk (walk_all c known busy m) (λ ys k. one (outline.Try line r xs ys) k)))
  walk c known (Unlock line place) n = with_resource line (resolved c.program known place) (λ r. one (outline.Release line r) n)
  walk c known (Wait line cond mutex takes) n =
      with_resource line (resolved c.program known mutex) (λ r. one (outline.Wait line r (map (monitor_resource c.program) takes)) n)
  walk c known (Take line monitor) n = one (outline.Acquire line (monitor_resource c.program monitor)) n
  walk c known (Give line monitor) n = one (outline.Release line (monitor_resource c.program monitor)) n
  walk c known s n = one (outline.Step (line_of s)) n

  -- a list of statements in text order
  pub walk_all : Scene → Constants → Stmts → List ℕ → Walked Parts
  walk_all c known Nil n = Found outline.Nil n
  walk_all c known (Cons s rest) n =
      then_walk (walk c known s n) (λ xs m. then_walk (walk_all c (known_after c.writes known s) rest m) (λ ys k. Found (joined xs ys) k))
