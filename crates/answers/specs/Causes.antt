-- Why a command answers what it answers of the contents of its files.
use Rattle.std.specs.Prelude.{◌≡◌, ℕ, List}
use Rattle.answers.specs.declared.status.Status.{Status}
use Rattle.answers.specs.declared.status.Status.TheVariants as status
use Rattle.answers.specs.Answered.{Answered}

-- what has to hold for each status that a command gives, of the text or the line that is told with it
pub record Causes : Type 1 where
  -- the contents are accepted: there is something to be written
  pub accepted : Type 0
  -- this text is what was asked for
  pub done : List ℕ → Type 0
  -- the answer is no, and this text says why
  pub no : List ℕ → Type 0
  -- this line says why a file is refused
  pub refused : List ℕ → Type 0
  -- this line says which limit a file passes
  pub limit : List ℕ → Type 0
  -- this line says for which set there is no monitor
  pub no_monitor : List ℕ → Type 0

-- the cause of an answer; a command itself gives no other status
abbrev pub CauseOf : Causes → Status → List ℕ → Type 0
CauseOf c status.Done told = c.done told
CauseOf c status.No told = c.no told
CauseOf c status.Usage told = ⊥
CauseOf c status.Refused told = c.refused told
CauseOf c status.Limit told = c.limit told
CauseOf c status.NoMonitor told = c.no_monitor told
CauseOf c status.HostFault told = ⊥
CauseOf c status.Memory told = ⊥

-- an answer has its cause
abbrev pub Decides : Causes → Answered → Type 0
Decides c answer = CauseOf c answer.status answer.told

-- some answer has its cause
pub record HasAnswer (c : Causes) : Type 0 where
  pub answer : Answered
  pub is : Decides c answer

-- no two do
abbrev pub HasOneAnswer : Causes → Type 0
HasOneAnswer c = (answer other : Answered) → Decides c answer → Decides c other → answer ≡ other
