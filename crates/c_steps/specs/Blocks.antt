-- Who is blocked, and who holds what each is blocked for.
use Rattle.std.specs.Prelude.{◌≡◌, ℕ, ◌<◌, nat_lt, Bool, ◌&&◌, false, Some, None, option_map, slice_index_or, List}
use Rattle.std.specs.declared.option.Option.{Option}
use Rattle.c_tree.specs.Bare.{Program}
use Rattle.c_meaning.specs.State.{State}
use Rattle.c_meaning.specs.Closed.{has}
use Rattle.c_meaning.specs.Laws.{blocked_for}
use Rattle.c_meaning.specs.Stuck.{is_holder}

-- the holders of what a thread is blocked for, where it is blocked
abbrev pub at : List (Option ℕ) → ℕ → Option ℕ
at holders t = slice_index_or holders t None

-- a resource is named by the thread that is blocked for it
abbrev pub blocked_in : List (Option ℕ) → ℕ → Option ℕ
blocked_in holders t = option_map (λ set. t) (at holders t)

abbrev pub has_any : Option ℕ → ℕ → Bool
has_any None u = false
has_any (Some set) u = nat_lt u 32 && has set u

abbrev pub holds_in : List (Option ℕ) → ℕ → ℕ → Bool
holds_in holders u t = has_any (at holders t) u

-- a set has the holders of what a thread is blocked for
pub record AreHolders (p : Program) (s : State) (t set : ℕ) : Type 0 where
  pub resource : ℕ
  pub waits : blocked_for p s t ≡ Some resource
  pub same : (u : ℕ) → u < 32 → has set u ≡ is_holder p s u resource

-- what is known of a thread: its resource's holders, or that it isn't blocked
abbrev pub IsEntry : Program → State → ℕ → Option ℕ → Type 0
IsEntry p s t None = blocked_for p s t ≡ None
IsEntry p s t (Some set) = AreHolders p s t set
