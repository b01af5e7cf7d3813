-- Answers that come before the work of a command is done.
use Rattle.std.specs.Prelude.{◌≡◌, ◌≤◌, ℕ, List, length, Result, Ok, Err, ⊤}
use Rattle.c_tree.specs.declared.program.Mode.{Mode}
use Rattle.c_tree.specs.Lined.{program_of}
use Rattle.c_check.specs.Tables.{numbers, numbers_of}
use Rattle.c_meaning.specs.Shown.{shown}
use Rattle.answers.specs.declared.refusal.Refusal.{Refusal}
use Rattle.answers.specs.declared.refusal.Refusal.TheVariants.{Told, Memory}
use Rattle.answers.specs.declared.program.Formed.{Formed}
use Rattle.answers.specs.declared.status.Status.TheVariants.{Refused, Limit}
use Rattle.answers.specs.Answered.{Answered, telling}
use Rattle.answers.specs.Causes.{Causes, Decides}
use Rattle.answers.specs.Lines.{refused_line, limit_line}
use Rattle.answers.specs.Programs.{SpellsFormed}

-- a refusal has its cause, where it isn't want of memory
abbrev pub Declines : Causes → Refusal → Type 0
Declines c (Told answer) = Decides c answer
Declines c Memory = ⊤

-- an answer, also one that comes early, has its cause
abbrev pub Ends : Causes → Result Answered Refusal → Type 0
Ends c (Ok answer) = Decides c answer
Ends c (Err refusal) = Declines c refusal

-- a file is refused at a line for a reason
abbrev pub RefusedAs : Refusal → List ℕ → ℕ → List ℕ → Type 0
RefusedAs (Told answer) name line reason = answer ≡ telling Refused (refused_line name line reason)
RefusedAs Memory name line reason = ⊤

-- a file passes a limit
abbrev pub LimitedAs : Refusal → List ℕ → List ℕ → ℕ → Type 0
LimitedAs (Told answer) name what number = answer ≡ telling Limit (limit_line name what number)
LimitedAs Memory name what number = ⊤

-- a text was read as a well-formed program of no more functions than tokens are read, with its numbers
pub record IsRead (mode : Mode) (bytes : List ℕ) (read : Formed) : Type 0 where
  pub spells : SpellsFormed mode bytes (program_of read.program)
  pub few : length read.program.functions ≤ 65536
  pub table : numbers read.table ≡ numbers_of (shown read.program)
