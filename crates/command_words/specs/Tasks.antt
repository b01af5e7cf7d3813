-- What the tool can be asked for, and how much of each file it reads.
use Rattle.std.specs.Prelude.{ℕ, List, map, String, string_bytes, if◌then◌else◌, ◌==◌}
use Rattle.std.specs.declared.alloc.Global.{Global}
use Rattle.command_words.specs.declared.command.Command.{Command}
use Rattle.command_words.specs.declared.command.Command.TheVariants.{Instrument, Run, Runtime}

abbrev pub texts : List (String Global) → List (List ℕ)
texts words = map string_bytes words

-- a command with its options, and the names of its files in their order
pub record Task : Type 0 where
  pub command : Command
  pub files : List (List ℕ)

abbrev pub file_count : Command → ℕ
file_count (Instrument siphons monitors) = 1
file_count Run = 3
file_count Runtime = 0

-- the most bytes of a program, and of a schedule or an input
abbrev pub program_bytes : ℕ
program_bytes = 262144

abbrev pub schedule_bytes : ℕ
schedule_bytes = 2097152

-- the most bytes of the file at a place
abbrev pub limit_of : Command → ℕ → ℕ
limit_of (Instrument siphons monitors) place = program_bytes
limit_of Run place = if place == 0 then program_bytes else schedule_bytes
limit_of Runtime place = program_bytes
