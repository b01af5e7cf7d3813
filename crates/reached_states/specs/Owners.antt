-- Who owns mutexes, and how many tokens of a monitor are held.
use Rattle.std.specs.Prelude.{◌≡◌, ◌<◌, ◌≤◌, ℕ, ℤ, List, sum, Some, None, ⊤, slice_get}
use Rattle.std.specs.declared.option.Option.{Option}
use Rattle.c_tree.specs.Bare.{Program}
use Rattle.c_tree.specs.Numbering.{thread_count}
use Rattle.c_meaning.specs.State.{Status, NotBegun, Running, Waiting, Reacquiring, Ended, State}
use Rattle.c_meaning.specs.Run.{Reached}

-- a thread of the program that has begun
abbrev pub HasBegun : Option Status → Type 0
HasBegun (Some NotBegun) = ⊥
HasBegun (Some (Running frames)) = ⊤
HasBegun (Some (Waiting condition mutex frames)) = ⊤
HasBegun (Some (Reacquiring mutex takes frames)) = ⊤
HasBegun (Some Ended) = ⊤
HasBegun None = ⊥

abbrev pub OwnersHaveBegun : State → Type 0
OwnersHaveBegun s = (mutex owner : ℕ) → slice_get s.owners mutex ≡ Some (Some owner) → HasBegun (slice_get s.threads owner)

-- of no monitor more tokens are held than it has
abbrev pub RowsFit : Program → State → Type 0
RowsFit p s = (monitor capacity : ℕ) (row : List ℕ) → slice_get p.monitors monitor ≡ Some capacity → slice_get s.tokens monitor ≡ Some row → sum row ≤ capacity

abbrev pub ReachedOwnersHaveBegun : Type 0
ReachedOwnersHaveBegun = (p : Program) (input : List ℤ) (s : State) → Reached p input s → OwnersHaveBegun s

abbrev pub ReachedOwnersAreThreads : Type 0
ReachedOwnersAreThreads =
    (p : Program) (input : List ℤ) (s : State) (mutex owner : ℕ) → Reached p input s → slice_get s.owners mutex ≡ Some (Some owner) → owner < thread_count p

abbrev pub ReachedRowsFit : Type 0
ReachedRowsFit = (p : Program) (input : List ℤ) (s : State) → Reached p input s → RowsFit p s
