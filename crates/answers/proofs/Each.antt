-- Each task has one answer of the contents of its files.
use Rattle.std.proofs.Common.{◌≡◌, ℕ, List, true, refl, sym, ap, ◌∙◌}
use Rattle.command_words.specs.declared.command.Command.{Command}
use Rattle.command_words.specs.declared.command.Command.TheVariants.{Instrument, Run, Runtime}
use Rattle.command_words.specs.Tasks.{Task}
use Rattle.answers.specs.declared.status.Status.{Status}
use Rattle.answers.specs.declared.status.Status.TheVariants as status
use Rattle.answers.specs.Answered.{Answered, telling}
use Rattle.answers.specs.Causes.{CauseOf, Decides, HasAnswer, HasOneAnswer}
use Rattle.answers.specs.Commands.{at, three, causes_for, causes_of}
use Rattle.answers.specs.Runtime as runtime
use Rattle.answers.specs.Runtime.{runtime_lines}
use Rattle.answers.specs.Statuses.{is_written}
use Rattle.answers.specs.Traced.{lined}
use Rattle.answers.proofs.Judging.{RuleLaws}
use Rattle.answers.proofs.Instrumented as instrument
use Rattle.answers.proofs.Ran as run
use Rattle.answers.proofs.Ran.{RunLaws}

-- ---- `runtime`

abbrev text : Answered
text = telling status.Done (lined runtime_lines)

is_text : (s : Status) (told : List ℕ) → CauseOf runtime.causes s told → telling s told ≡ text
is_text status.Done told x = ap (telling status.Done) x
is_text status.No told x = absurd x
is_text status.Usage told x = absurd x
is_text status.Refused told x = absurd x
is_text status.Limit told x = absurd x
is_text status.NoMonitor told x = absurd x
is_text status.HostFault told x = absurd x
is_text status.Memory told x = absurd x

-- ---- by the command

module _ (laws : RuleLaws) (own : RunLaws) where
  some_for : (c : Command) (names contents : List (List ℕ)) → HasAnswer (causes_for c names contents)
  some_for (Instrument siphons monitors) names contents = instrument.some_answer laws (at names 0) (at contents 0)
  some_for Run names contents = run.some_answer (three names) (three contents) laws own
  some_for Runtime names contents = record { answer = text; is = refl }

  one_for : (c : Command) (names contents : List (List ℕ)) → HasOneAnswer (causes_for c names contents)
  one_for (Instrument siphons monitors) names contents a b x y = instrument.one_answer laws (at names 0) (at contents 0) a b x y
  one_for Run names contents a b x y = run.one_answer laws own (three names) (three contents) a b x y
  one_for Runtime names contents a b x y = is_text a.status a.told x ∙ sym (is_text b.status b.told y)

  written_for : (c : Command) (names contents : List (List ℕ)) → (causes_for c names contents).accepted → (a : Answered) → Decides (causes_for c names contents) a
      → is_written a.status ≡ true
  written_for (Instrument siphons monitors) names contents acc a x = instrument.accepted_written laws (at names 0) (at contents 0) acc a x
  written_for Run names contents acc a x = run.accepted_written laws own (three names) (three contents) acc a x
  written_for Runtime names contents acc a x = ap (λ b. is_written b.status) (is_text a.status a.told x)

  pub some_each : (task : Task) (contents : List (List ℕ)) → HasAnswer (causes_of task contents)
  some_each task contents = some_for task.command task.files contents

  pub one_each : (task : Task) (contents : List (List ℕ)) → HasOneAnswer (causes_of task contents)
  one_each task contents = one_for task.command task.files contents

  pub written_each : (task : Task) (contents : List (List ℕ)) → (causes_of task contents).accepted → (a : Answered) → Decides (causes_of task contents) a → is_written a.status ≡ true
  written_each task contents acc a x = written_for task.command task.files contents acc a x
