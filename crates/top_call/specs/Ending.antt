-- How a call of the tool can end.
use Rattle.std.specs.Prelude.{◌≡◌, ◌<◌, ℕ, true, false, List, length, take, Some, None, Option}
use Rattle.gd_host.specs.Outside.{Files, Seen, Rose, extended}
use Rattle.command_words.specs.Tasks.{Task, limit_of}
use Rattle.command_words.specs.Words.{task_of}
use Rattle.answers.specs.declared.status.Status.{Status}
use Rattle.answers.specs.declared.status.Status.TheVariants.{HostFault, Memory}
use Rattle.answers.specs.Statuses.{is_written}
use Rattle.answers.specs.Answered.{Answered, output, complaint, usage_answer, unread_answer, too_long_answer}
use Rattle.answers.specs.Causes.{Decides}
use Rattle.answers.specs.Commands.{at, causes_of}
use Rattle.answers.specs.Lines.{unread_line, unwritten_line, memory_line}
use Rattle.top_call.specs.Answers.{Fetched, files_named}
use Rattle.top_call.specs.Fetching.{FetchesSo, AreRead, IsUnread}

-- a line was added to the complaints, or a front of it where a complaint was lost
pub data Says (line : List ℕ) (old new : Seen) : Type 0 where
  complete : new.err ≡ extended old.err line → Says line old new
  cut_off : Rose old.lost new.lost → (count : ℕ) → new.err ≡ extended old.err (take count line) → Says line old new

-- the file at a place has more bytes than are read, and those before it have not
pub record IsLongAt (told : Option Files) (task : Task) (place : ℕ) : Type 0 where
  pub inside : place < length task.files
  pub long : FetchesSo told (limit_of task.command) task.files (Fetched.long (at task.files place) (limit_of task.command place))

abbrev pub too_long_at : Task → ℕ → Answered
too_long_at task place = too_long_answer (at task.files place) (limit_of task.command place)

-- What the words answer of what was fetched. Where the host tells its files, those were fetched; else their contents are
-- within their limits, and no more is known of them.
pub data IsAnswer (words : List (List ℕ)) (told : Option Files) (answer : Answered) : Type 0 where
  shapeless : task_of words ≡ None → answer ≡ usage_answer → IsAnswer words told answer
  decided : (task : Task) (contents : List (List ℕ)) → task_of words ≡ Some task → AreRead told task contents
      → Decides (causes_of task contents) answer → IsAnswer words told answer
  beyond : (task : Task) (place : ℕ) → task_of words ≡ Some task → IsLongAt told task place → answer ≡ too_long_at task place → IsAnswer words told answer

-- what is to be told is the answer, or that a file can't be read
pub data Defines (words : List (List ℕ)) (old new : Seen) (answer : Answered) : Type 0 where
  answered : IsAnswer words old.files answer → Defines words old new answer
  unread : (place : ℕ) → IsUnread (files_named words) place old new → answer ≡ unread_answer (at (files_named words) place) → Defines words old new answer

-- the same of a task
pub data DefinesTask (task : Task) (old new : Seen) (answer : Answered) : Type 0 where
  decided : (contents : List (List ℕ)) → AreRead old.files task contents → Decides (causes_of task contents) answer → DefinesTask task old new answer
  beyond : (place : ℕ) → IsLongAt old.files task place → answer ≡ too_long_at task place → DefinesTask task old new answer
  unread : (place : ℕ) → IsUnread task.files place old new → answer ≡ unread_answer (at task.files place) → DefinesTask task old new answer

-- what was to be told was told, or could not be written
pub data Tells (answer : Answered) (old new : Seen) (status : Status) : Type 0 where
  written : is_written answer.status ≡ true → status ≡ answer.status → new.out ≡ extended old.out answer.told → new.err ≡ old.err → Tells answer old new status
  refused : is_written answer.status ≡ false → status ≡ answer.status → new.out ≡ old.out → Says answer.told old new → Tells answer old new status
  unwritten : is_written answer.status ≡ true → status ≡ HostFault → Rose old.write_faults new.write_faults
      → (count : ℕ) → new.out ≡ extended old.out (take count answer.told) → Says unwritten_line old new → Tells answer old new status

-- how a call ends:
-- `written`: the answer is Done or No; its whole text was added to the output, and nothing was complained
-- `refused`: the answer is another; nothing was written, and its line was complained
-- `unread`: the last file that was asked for can't be read; nothing was written
-- `unwritten`: the answer is Done or No, and a front of its text was written
-- `forgotten`: memory was wanting; nothing was written
pub data Ends (words : List (List ℕ)) (old new : Seen) (status : Status) : Type 0 where
  written : (answer : Answered) → IsAnswer words old.files answer → is_written answer.status ≡ true → status ≡ answer.status
      → new.out ≡ extended old.out answer.told → new.err ≡ old.err → Ends words old new status
  refused : (answer : Answered) → IsAnswer words old.files answer → is_written answer.status ≡ false → status ≡ answer.status
      → new.out ≡ old.out → Says answer.told old new → Ends words old new status
  unread : (place : ℕ) → IsUnread (files_named words) place old new → status ≡ HostFault
      → new.out ≡ old.out → Says (unread_line (at (files_named words) place)) old new → Ends words old new status
  unwritten : (answer : Answered) → IsAnswer words old.files answer → is_written answer.status ≡ true → status ≡ HostFault
      → Rose old.write_faults new.write_faults → (count : ℕ) → new.out ≡ extended old.out (take count answer.told)
      → Says unwritten_line old new → Ends words old new status
  forgotten : status ≡ Memory → new.out ≡ old.out → Says memory_line old new → Ends words old new status

-- no call of the host failed
pub record NoFault (old new : Seen) : Type 0 where
  pub reads : ¬ Rose old.read_faults new.read_faults
  pub writes : ¬ Rose old.write_faults new.write_faults
  pub complaints : ¬ Rose old.lost new.lost

-- a call ends with this answer's status, its text or its line
pub record IsAsAnswered (answer : Answered) (old new : Seen) (status : Status) : Type 0 where
  pub same : status ≡ answer.status
  pub out : new.out ≡ extended old.out (output answer)
  pub err : new.err ≡ extended old.err (complaint answer)
