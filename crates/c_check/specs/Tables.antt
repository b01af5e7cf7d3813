-- The numbers of a program.
use Rattle.std.specs.Prelude.{ℕ, ℤ, pos, ◌+◌, List, [], ◌∷◌, map, position, bytes_eq, length, option_map, if◌then◌else◌, None, unwrap_or, option_and_then}
use Rattle.std.specs.declared.option.Option.{Option}
use Rattle.c_tree.specs.declared.program.Object.{Object}
use Rattle.c_tree.specs.Expressions.{Expr}
use Rattle.c_tree.specs.Values.{constant, fitting}
use Rattle.c_tree.specs.Bare as bare
use Rattle.c_tree.specs.Lined.{Stmts, Nil, Cons, Create}
use Rattle.c_tree.specs.Numbering.{Creation, creations, main_name, mutex_count, thread_count}
use Rattle.c_tree.specs.Numbering as numbering
use Rattle.c_check.specs.declared.numbers.Table as declared_table
use Rattle.c_check.specs.declared.numbers.Start.{Start}
use Rattle.c_check.specs.declared.mutex.Mutex.{Mutex}

-- how many statements of a list create threads
abbrev pub count_creates : Stmts → ℕ
count_creates Nil = 0
count_creates (Cons (Create line slot function arg) rest) = count_creates rest + 1
count_creates (Cons s rest) = count_creates rest

abbrev pub object_count : Object → ℕ
object_count o = unwrap_or o.len 1

-- ---- threads

-- the value of a thread's argument, where it has one that fits its type
abbrev pub argument : Expr → ℤ
argument e = unwrap_or (option_and_then fitting (constant e)) (pos 0)

-- the place of the function of a name; 0 where there is none
abbrev pub place_of : bare.Program → List ℕ → ℕ
place_of p name = unwrap_or (position (λ f. bytes_eq f.name name) p.functions) 0

abbrev pub start_of : bare.Program → Creation → Start
start_of p c = record { function = place_of p c.function; arg = argument c.arg }

-- main, and the others in the order of their create statements
abbrev pub starts_of : bare.Program → List Start
starts_of p = record { function = place_of p main_name; arg = pos 0 } ∷ map (start_of p) (creations p)

-- ---- mutexes

-- a mutex or an array of them, with the number of the mutex or of the first member
pub record Numbered : Type 0 where
  pub name : List ℕ
  pub len : Option ℕ
  pub first : ℕ

-- mutexes behind so many others
abbrev pub numbered_from : ℕ → List bare.Object → List Numbered
numbered_from before [] = []
numbered_from before (o ∷ os) = record { name = o.name; len = o.len; first = before } ∷ numbered_from (before + numbering.object_count o) os

abbrev pub numbered_of : Mutex → Numbered
numbered_of m = record { name = m.name; len = m.len; first = m.first }

-- the number of a mutex, by its name and its index
abbrev pub resource_in : List Numbered → List ℕ → Option ℕ → Option ℕ
resource_in [] name index = None
resource_in (m ∷ ms) name index = if bytes_eq m.name name then numbering.member m.first m.len (option_map (λ k. pos k) index) else resource_in ms name index

-- ---- the table

-- what threads begin with, the mutexes with how many they are, and how many monitors there are
pub record Numbers : Type 0 where
  pub thread_count : ℕ
  pub starts : List Start
  pub mutexes : List Numbered
  pub mutex_count : ℕ
  pub monitors : ℕ

abbrev pub numbers : declared_table.Table → Numbers
numbers t = record { thread_count = t.thread_count; starts = t.starts.items; mutexes = map numbered_of t.mutexes.items; mutex_count = t.mutex_count; monitors = t.monitors }

abbrev pub numbers_of : bare.Program → Numbers
numbers_of p = record { thread_count = thread_count p; starts = starts_of p; mutexes = numbered_from 0 p.mutexes; mutex_count = mutex_count p; monitors = length p.monitors }
