-- What a program is at a moment of a run.
use Rattle.std.specs.Prelude.{ℕ, ℤ, pos, ◌-◌, Bool, false, List, [], ◌∷◌, ◌++◌, length, map, flat_map, replicate, slice_set}
use Rattle.std.specs.declared.option.Option.{Option}
use Rattle.std.specs.Prelude.{None}
use Rattle.std.specs.FinMap as finite
use Rattle.std.specs.Cmp.Lexicographic.{slice_cmp}
use Rattle.std.specs.Ordering.{nat_cmp}
use Rattle.c_tree.specs.Bare as bare
use Rattle.c_tree.specs.Bare.{Stmts, Program}
use Rattle.c_tree.specs.Numbering.{main_body, mutex_count, creations, thread_count}

-- the values of the locals that have one, by their names
abbrev pub Locals : Type 0
Locals = finite.FinMap (slice_cmp nat_cmp) ℤ

-- a call that has not returned: its locals, and its statements that are still to do
pub record Frame : Type 0 where
  pub locals : Locals
  pub todo : Stmts

-- what a thread does; the frames of its calls stand newest first
pub data Status : Type 0 where
  NotBegun : Status
  Running : (frames : List Frame) → Status
  -- waits for a signal on a condition, and has released a mutex meanwhile
  Waiting : (condition mutex : ℕ) (frames : List Frame) → Status
  -- was woken, and takes these tokens, one of each monitor in this order, and then its mutex
  Reacquiring : (mutex : ℕ) (takes : List ℕ) (frames : List Frame) → Status
  Ended : Status

pub record State : Type 0 where
  -- of all ints and members of arrays, by their numbers
  pub cells : List ℤ
  -- the numbers that were not read yet
  pub input : List ℤ
  -- the bytes that were printed
  pub output : List ℕ
  pub main_ended : Bool
  -- the thread that owns each mutex, or none
  pub owners : List (Option ℕ)
  -- how many tokens of each monitor each thread holds: a row for each monitor
  pub tokens : List (List ℕ)
  pub threads : List Status

-- the first values of an array's members: those that the text gives, and then 0
abbrev pub first_values : bare.Array → List ℤ
first_values a = a.values ++ replicate (a.len - length a.values) (pos 0)

abbrev pub first_cells : Program → List ℤ
first_cells p = map (λ c. c.value) p.ints ++ flat_map first_values p.arrays

-- a call of these statements, with these locals
abbrev pub frame : Locals → Stmts → Frame
frame locals todo = record { locals = locals; todo = todo }

-- the one state in which a program starts: main alone runs, and nothing is owned or held
abbrev pub start : Program → List ℤ → State
start p input = record {
  cells = first_cells p;
  input = input;
  output = [];
  main_ended = false;
  owners = replicate (mutex_count p) None;
  tokens = map (λ capacity. replicate (thread_count p) 0) p.monitors;
  threads = Running (frame finite.empty (main_body p) ∷ []) ∷ replicate (length (creations p)) NotBegun;
}

-- the state in which a thread has this status
abbrev pub with_status : State → ℕ → Status → State
with_status s t status = record s { threads = slice_set s.threads t status }

-- the state in which a thread goes on with these frames
abbrev pub goes_on : State → ℕ → List Frame → State
goes_on s t frames = with_status s t (Running frames)
