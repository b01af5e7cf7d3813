-- What of the statements of a thread matters for its locks: the outline of the thread.
use Rattle.std.specs.Prelude.{ℕ, Bool, true, false, ◌&&◌, ◌||◌, if◌then◌else◌, List}

mutual
  pub data Part : Type 0 where
    -- a statement with one way on
    Step : (line : ℕ) → Part
    -- a join, where nothing may be held
    Join : (line : ℕ) → Part
    Acquire : (line resource : ℕ) → Part
    Release : (line resource : ℕ) → Part
    -- a wait, which releases, and after it takes these and then its own again
    Wait : (line resource : ℕ) (takes : List ℕ) → Part
    -- takes what is free, and never waits
    Try : (line resource : ℕ) (taken busy : Parts) → Part
    Branch : (line : ℕ) (then_arm else_arm : Parts) → Part
    Loop : (line : ℕ) (body : Parts) → Part
    -- a call of a function that bears locks, with the outline of its body, which is this context
    Inner : (line context : ℕ) (body : Parts) → Part
    -- a return, or the end of a function's list
    Leave : (line : ℕ) → Part

  pub data Parts : Type 0 where
    Nil : Parts
    Cons : (first : Part) (rest : Parts) → Parts

-- a list of parts, and others behind it
abbrev pub joined : Parts → Parts → Parts
joined Nil rest = rest
joined (Cons x xs) rest = Cons x (joined xs rest)

abbrev mutual
  -- control can go on behind it
  pub passes : Part → Bool
  passes (Step line) = true
  passes (Join line) = true
  passes (Acquire line r) = true
  passes (Release line r) = true
  passes (Wait line r cs) = true
  passes (Try line r a b) = passes_all a || passes_all b
  passes (Branch line a b) = passes_all a || passes_all b
  passes (Loop line body) = true
  passes (Inner line f body) = true
  passes (Leave line) = false

  pub passes_all : Parts → Bool
  passes_all Nil = true
  passes_all (Cons x xs) = passes x && passes_all xs

abbrev mutual
  -- without what control never reaches
  pub live : Part → Part
  live (Step line) = Step line
  live (Join line) = Join line
  live (Acquire line r) = Acquire line r
  live (Release line r) = Release line r
  live (Wait line r cs) = Wait line r cs
  live (Try line r a b) = Try line r (live_all a) (live_all b)
  live (Branch line a b) = Branch line (live_all a) (live_all b)
  live (Loop line body) = Loop line (live_all body)
  live (Inner line f body) = Inner line f (live_all body)
  live (Leave line) = Leave line

  pub live_all : Parts → Parts
  live_all Nil = Nil
  live_all (Cons x xs) = Cons (live x) (if passes x then live_all xs else Nil)

-- the outline of a thread: the lines of its start function, the context that it begins, and its body
pub record Thread : Type 0 where
  pub line : ℕ
  pub end_line : ℕ
  pub context : ℕ
  pub body : Parts
