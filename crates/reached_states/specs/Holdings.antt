-- How a step changes what threads hold.
use Rattle.std.specs.Prelude.{◌≡◌, ◌≢◌, ◌<◌, ℕ, suc, ℤ, List}
use Rattle.c_tree.specs.Bare.{Program}
use Rattle.c_tree.specs.Numbering.{resource_count}
use Rattle.c_meaning.specs.declared.Did.{Did}
use Rattle.c_meaning.specs.declared.Event.{Event}
use Rattle.c_meaning.specs.State.{State}
use Rattle.c_meaning.specs.Outcome.{Done}
use Rattle.c_meaning.specs.Run.{Reached}
use Rattle.c_meaning.specs.Step.{step}
use Rattle.reached_states.specs.Counts.{tokens_held}

-- in one of two states a thread holds a token more of a resource than in the other, and else all holdings are the same
pub record HoldsMore (p : Program) (less more : State) (t r : ℕ) : Type 0 where
  pub known : r < resource_count p
  pub one : tokens_held p more t r ≡ suc (tokens_held p less t r)
  pub threads : (u q : ℕ) → u ≢ t → tokens_held p more u q ≡ tokens_held p less u q
  pub resources : (u q : ℕ) → q ≢ r → tokens_held p more u q ≡ tokens_held p less u q

pub data Changes (p : Program) (s next : State) (t : ℕ) : Type 0 where
  none : ((u r : ℕ) → tokens_held p next u r ≡ tokens_held p s u r) → Changes p s next t
  gains : (r : ℕ) → HoldsMore p s next t r → Changes p s next t
  loses : (r : ℕ) → HoldsMore p next s t r → Changes p s next t

-- a step changes the holding of one resource at most, that of the thread that acts, and by one token
abbrev pub StepsChangeOne : Type 0
StepsChangeOne = (p : Program) (input : List ℤ) (s : State) (e : Event) (done : Did) (next : State) → Reached p input s → step p s e ≡ Done done next → Changes p s next e.thread
