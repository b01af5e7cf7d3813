-- What a call is to end with.
use Rattle.std.specs.Prelude.{ℕ, List, [], if◌then◌else◌}
use Rattle.answers.specs.declared.status.Status.{Status}
use Rattle.answers.specs.declared.status.Status.TheVariants.{Usage, Limit, HostFault}
use Rattle.answers.specs.Statuses.{is_written}
use Rattle.answers.specs.Lines.{usage_line, unread_line, too_long_line}

-- a status, and what is told with it: the text of the output, or the line of complaint
pub record Answered : Type 0 where
  pub status : Status
  pub told : List ℕ

-- what is to be added to the output
abbrev pub output : Answered → List ℕ
output a = if is_written a.status then a.told else []

-- what is to be complained
abbrev pub complaint : Answered → List ℕ
complaint a = if is_written a.status then [] else a.told

abbrev pub telling : Status → List ℕ → Answered
telling status told = record { status = status; told = told }

-- the words are of no known shape
abbrev pub usage_answer : Answered
usage_answer = telling Usage usage_line

-- a file can't be read
abbrev pub unread_answer : List ℕ → Answered
unread_answer name = telling HostFault (unread_line name)

-- a file has more bytes than are read
abbrev pub too_long_answer : List ℕ → ℕ → Answered
too_long_answer name limit = telling Limit (too_long_line name limit)
