-- Counts that are the accounts of the ways, and that they are those of the walk.
use Rattle.std.specs.Prelude.{◌≡◌, ◌<◌, ℕ, suc, List, [], ◌∷◌, None, Some, slice_index, slice_get, length, ⊤}
use Rattle.edges.specs.declared.EdgeOp.{EdgeOp}
use Rattle.edges.specs.declared.EdgeOp.TheVariants as op
use Rattle.outlines.specs.Outline.{Thread}
use Rattle.outlines.specs.Whole.{ThreadsAreWhole}
use Rattle.outlines.specs.Rows.{Way, Joining, Row, HasWay, From}
use Rattle.outlines.specs.Points.{all_rows}
use Rattle.outline_laws.specs.Leading.{first_point}
use Rattle.held_counts.specs.Counts.{raise, lower, all_counts}
use Rattle.held_counts.specs.Refusals.{refused_threads}

-- what is held behind an edge with this operation
abbrev pub acted : EdgeOp → List ℕ → List ℕ
acted op.Plain here = here
acted (op.Acquire r) here = raise here r
acted (op.Try r) here = raise here r
acted (op.Reacquire r) here = raise here r
acted (op.Release r) here = lower here r

-- no mutex is taken that is held, and what is given is held
abbrev pub IsAllowed : ℕ → EdgeOp → List ℕ → Type 0
IsAllowed m op.Plain here = ⊤
IsAllowed m (op.Acquire r) here = r < m → slice_index here r ≡ 0
IsAllowed m (op.Try r) here = r < m → slice_index here r ≡ 0
IsAllowed m (op.Reacquire r) here = r < m → slice_index here r ≡ 0
IsAllowed m (op.Release r) here = 0 < slice_index here r

-- at the point i: the counts are the account of each way, and nothing is held at a join or where a thread has ended
pub record IsKept (m : ℕ) (nothing : List ℕ) (src : ℕ → Row) (held : ℕ → List ℕ) (i : ℕ) : Type 0 where
  pub account : (w : Way) → HasWay src i w → held w.to ≡ acted w.op (held i)
  pub allowed : (w : Way) → HasWay src i w → IsAllowed m w.op (held i)
  pub joins : (src i).kind ≡ Joining → held i ≡ nothing
  pub ends : (src i).ways ≡ [] → held i ≡ nothing

-- `held` has these counts from the point p on
abbrev pub HasCounts : (ℕ → List ℕ) → ℕ → List (List ℕ) → Type 0
HasCounts held p [] = ⊤
HasCounts held p (c ∷ cs) = (held p ≡ c) × HasCounts held (suc p) cs

-- a thread begins with nothing held
abbrev pub BeginsWith : List ℕ → (ℕ → List ℕ) → List Thread → Type 0
BeginsWith nothing held ths = (u : ℕ) (th : Thread) → slice_get ths u ≡ Some th → held (first_point 0 ths 0 u) ≡ nothing

-- no mutex is held in `nothing`
abbrev pub HoldsNoMutex : ℕ → List ℕ → Type 0
HoldsNoMutex m nothing = (r : ℕ) → r < m → slice_index nothing r ≡ 0

-- where the walk refuses nothing, its counts are kept at each point, and threads begin with nothing held
abbrev pub WalksKeepAccounts : Type 0
WalksKeepAccounts = (m : ℕ) (nothing : List ℕ) (ths : List Thread) (src : ℕ → Row) (held : ℕ → List ℕ) →
    From src 0 (all_rows 0 ths 0) → HasCounts held 0 (all_counts nothing 0 ths) → ThreadsAreWhole m ths → HoldsNoMutex m nothing →
    refused_threads m nothing ths ≡ None →
    ((i : ℕ) → i < length (all_rows 0 ths 0) → IsKept m nothing src held i) × BeginsWith nothing held ths

-- where counts are kept at each point, the walk refuses nothing, and they are its counts
abbrev pub AccountsAreWalked : Type 0
AccountsAreWalked = (m : ℕ) (nothing : List ℕ) (ths : List Thread) (src : ℕ → Row) (held : ℕ → List ℕ) →
    From src 0 (all_rows 0 ths 0) → ((i : ℕ) → i < length (all_rows 0 ths 0) → IsKept m nothing src held i) → BeginsWith nothing held ths →
    (refused_threads m nothing ths ≡ None) × HasCounts held 0 (all_counts nothing 0 ths)
