-- How many tokens of a resource there are, and how many each thread holds. A mutex has one, which its owner holds.
use Rattle.std.specs.Prelude.{◌≡◌, ◌≤◌, ◌↔◌, ℕ, ℤ, true, nat_lt, if◌then◌else◌, List, sum_by, slice_get}
use Rattle.std.specs.List.{range_with_len}
use Rattle.c_tree.specs.Bare.{Program}
use Rattle.c_tree.specs.Numbering.{mutex_count, thread_count}
use Rattle.c_meaning.specs.State.{State}
use Rattle.c_meaning.specs.Locks.{held_by}
use Rattle.c_meaning.specs.Stuck.{is_owner, is_taken, is_holder, row_of, capacity_of}
use Rattle.c_meaning.specs.Run.{Reached}

-- how many tokens of a resource there are
abbrev pub tokens_of : Program → ℕ → ℕ
tokens_of p r = if nat_lt r (mutex_count p) then 1 else capacity_of p r

-- how many of them a thread holds
abbrev pub tokens_held : Program → State → ℕ → ℕ → ℕ
tokens_held p s t r = if nat_lt r (mutex_count p) then (if is_owner t (slice_get s.owners r) then 1 else 0) else held_by (row_of p s r) t

-- the numbers of the threads
abbrev pub thread_numbers : Program → List ℕ
thread_numbers p = range_with_len 0 (thread_count p)

-- how many all threads hold
abbrev pub all_held : Program → State → ℕ → ℕ
all_held p s r = sum_by (λ t. tokens_held p s t r) (thread_numbers p)

-- a thread is a holder where it holds a token
abbrev pub HoldersAreCounted : Type 0
HoldersAreCounted = (p : Program) (s : State) (t r : ℕ) → is_holder p s t r ≡ nat_lt 0 (tokens_held p s t r)

-- no more tokens are held than there are
abbrev pub CountsFit : Type 0
CountsFit = (p : Program) (input : List ℤ) (s : State) (r : ℕ) → Reached p input s → all_held p s r ≤ tokens_of p r

-- a resource is taken exactly where all its tokens are held
abbrev pub TakenIsCounted : Type 0
TakenIsCounted = (p : Program) (input : List ℤ) (s : State) (r : ℕ) → Reached p input s → (is_taken p s r ≡ true) ↔ (all_held p s r ≡ tokens_of p r)
