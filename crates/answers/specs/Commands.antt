-- What each command answers of the files that it read.
use Rattle.std.specs.Prelude.{ℕ, List, [], map, get_or, Vec}
use Rattle.std.specs.declared.alloc.Global.{Global}
use Rattle.command_words.specs.declared.command.Command.{Command}
use Rattle.command_words.specs.declared.command.Command.TheVariants.{Instrument, Run, Runtime}
use Rattle.command_words.specs.Tasks.{Task}
use Rattle.answers.specs.Causes.{Causes}
use Rattle.answers.specs.Instrument as instrument
use Rattle.answers.specs.Run as run
use Rattle.answers.specs.Runtime as runtime

abbrev pub contents_of : List (Vec ℕ Global) → List (List ℕ)
contents_of files = map (λ file. file.items) files

-- the text at a place, or the empty one where there is none
abbrev pub at : List (List ℕ) → ℕ → List ℕ
at texts place = get_or texts place []

abbrev pub three : List (List ℕ) → run.Texts
three texts = record { program = at texts 0; schedule = at texts 1; input = at texts 2 }

abbrev pub causes_for : Command → List (List ℕ) → List (List ℕ) → Causes
causes_for (Instrument siphons monitors) names contents = instrument.causes (at names 0) (at contents 0)
causes_for Run names contents = run.causes (three names) (three contents)
causes_for Runtime names contents = runtime.causes

-- the causes of the answers to a task, whose files have these contents
abbrev pub causes_of : Task → List (List ℕ) → Causes
causes_of task contents = causes_for task.command task.files contents
