-- Threads that block each other for good.
use Rattle.std.specs.Prelude.{◌≡◌, ℕ, ℤ, ◌-◌, ◌==◌, nat_le, nat_lt, Bool, true, false, if◌then◌else◌, IsTrue, List, [], ◌∷◌, sum, Some, None, unwrap_or, slice_get, option_map}
use Rattle.std.specs.declared.option.Option.{Option}
use Rattle.c_tree.specs.Bare as bare
use Rattle.c_tree.specs.Bare.{Stmt, Stmts, Nil, Cons, Program}
use Rattle.c_tree.specs.Numbering.{mutex_count, monitor_resource}
use Rattle.c_meaning.specs.State.{Locals, Frame, Status, NotBegun, Running, Waiting, Reacquiring, Ended, State}
use Rattle.c_meaning.specs.Places.{mutex_at}
use Rattle.c_meaning.specs.Run.{Reached}

-- the resource that a monitor is, where there is one of this number
abbrev pub monitor_at : Program → ℕ → Option ℕ
monitor_at p monitor = option_map (λ capacity. monitor_resource p monitor) (slice_get p.monitors monitor)

-- The resource that a statement acquires, where its place is defined. A trylock never waits.
abbrev pub acquired : Program → State → Locals → Stmts → Option ℕ
acquired p s locals (Cons (bare.Lock place) rest) = mutex_at p s locals place
acquired p s locals (Cons (bare.Take monitor) rest) = monitor_at p monitor
acquired p s locals todo = None

abbrev pub acquired_in : Program → State → List Frame → Option ℕ
acquired_in p s [] = None
acquired_in p s (f ∷ more) = acquired p s f.locals f.todo

-- the resource that a woken thread acquires first: a token of the first monitor that it still takes, or else its mutex
abbrev pub needed_again : Program → ℕ → List ℕ → Option ℕ
needed_again p mutex [] = Some mutex
needed_again p mutex (monitor ∷ takes) = monitor_at p monitor

-- the resource that a thread's next act locks, takes or acquires again
abbrev pub wanted : Program → State → Option Status → Option ℕ
wanted p s (Some (Running frames)) = acquired_in p s frames
wanted p s (Some (Reacquiring mutex takes frames)) = needed_again p mutex takes
wanted p s (Some (Waiting condition mutex frames)) = None
wanted p s (Some NotBegun) = None
wanted p s (Some Ended) = None
wanted p s None = None

abbrev pub is_owned : Option (Option ℕ) → Bool
is_owned (Some (Some owner)) = true
is_owned (Some None) = false
is_owned None = false

abbrev pub is_owner : ℕ → Option (Option ℕ) → Bool
is_owner u (Some (Some owner)) = owner == u
is_owner u (Some None) = false
is_owner u None = false

-- the row of a monitor's tokens, and how many tokens it has
abbrev pub row_of : Program → State → ℕ → List ℕ
row_of p s r = unwrap_or (slice_get s.tokens (r - mutex_count p)) []

abbrev pub capacity_of : Program → ℕ → ℕ
capacity_of p r = unwrap_or (slice_get p.monitors (r - mutex_count p)) 0

-- no token of a resource is free: a mutex, which has one, has an owner; of a monitor as many are held as it has
abbrev pub is_taken : Program → State → ℕ → Bool
is_taken p s r = if nat_lt r (mutex_count p) then is_owned (slice_get s.owners r) else nat_le (capacity_of p r) (sum (row_of p s r))

-- a thread holds a token of a resource
abbrev pub is_holder : Program → State → ℕ → ℕ → Bool
is_holder p s u r = if nat_lt r (mutex_count p) then is_owner u (slice_get s.owners r) else nat_lt 0 (unwrap_or (slice_get (row_of p s r) u) 0)

-- a thread is blocked for a resource: its next act acquires it, and no token of it is free
pub record Blocked (p : Program) (s : State) (t r : ℕ) : Type 0 where
  pub going : s.main_ended ≡ false
  pub next : wanted p s (slice_get s.threads t) ≡ Some r
  pub taken : is_taken p s r ≡ true

-- a set of threads, told by a test, is stuck: it is nonempty, each of its threads is blocked for some resource, and all tokens of these resources are held inside it
pub record IsStuck (p : Program) (s : State) (threads : ℕ → Bool) : Type 0 where
  pub going : s.main_ended ≡ false
  pub some : (t : ℕ) × IsTrue (threads t)
  pub blocked : (t : ℕ) → IsTrue (threads t) → (r : ℕ) × Blocked p s t r
  pub inside : (t r u : ℕ) → IsTrue (threads t) → Blocked p s t r → IsTrue (is_holder p s u r) → IsTrue (threads u)

-- no state that the program reaches, on any input and by any schedule, has a stuck set
abbrev pub NeverStuck : Program → Type 0
NeverStuck p = (input : List ℤ) (s : State) (threads : ℕ → Bool) → Reached p input s → IsStuck p s threads → ⊥
