-- How a step moves threads along their outlines.
use Rattle.std.specs.Prelude.{◌≡◌, ◌⊎◌, ◌+◌, ℕ, zero, suc, if◌then◌else◌, List, [], ◌∷◌}
use Rattle.c_tree.specs.Bare as bare
use Rattle.c_meaning.specs.State.{State}
use Rattle.edges.specs.declared.EdgeOp.{EdgeOp}
use Rattle.edges.specs.Ops.{takes, gives}
use Rattle.outlines.specs.Outline as outline
use Rattle.outlines.specs.Outline.{Parts, Thread}
use Rattle.outlines.specs.Moves.{Position, Before, At, MovesTo}
use Rattle.reached_states.specs.Counts.{tokens_held}

-- the body of the thread u; that of a number that is no thread's is empty
abbrev pub body_of : List Thread → ℕ → Parts
body_of [] u = outline.Nil
body_of (e ∷ es) zero = e.body
body_of (e ∷ es) (suc u) = body_of es u

-- where threads stand at the start: main has begun
abbrev pub first_position : List Thread → ℕ → Position
first_position es zero = At (body_of es zero ∷ [])
first_position es (suc u) = Before

-- of each resource as many tokens more or less are held behind an operation as it takes and gives
abbrev pub Alters : EdgeOp → (ℕ → ℕ) → (ℕ → ℕ) → Type 0
Alters does before after = (r : ℕ) → after r + (if gives does r then 1 else 0) ≡ before r + (if takes does r then 1 else 0)

-- a thread goes along an edge of its outline, and what it holds changes by the edge's operation alone
pub record GoesAlong (body : Parts) (x y : Position) (before after : ℕ → ℕ) : Type 0 where
  pub does : EdgeOp
  pub edge : MovesTo body x does y
  pub alters : Alters does before after

-- it stays, with what it holds
pub record Stays (x y : Position) (before after : ℕ → ℕ) : Type 0 where
  pub there : y ≡ x
  pub keeps : (r : ℕ) → after r ≡ before r

abbrev pub Moves : Parts → Position → Position → (ℕ → ℕ) → (ℕ → ℕ) → Type 0
Moves body x y before after = Stays x y before after ⊎ GoesAlong body x y before after

-- from one state to the next each thread of these outlines moves so
abbrev pub EachMoves : bare.Program → List Thread → State → State → (ℕ → Position) → (ℕ → Position) → Type 0
EachMoves p es s next at to = (u : ℕ) → Moves (body_of es u) (at u) (to u) (tokens_held p s u) (tokens_held p next u)
