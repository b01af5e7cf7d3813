-- What is promised of a call of the tool.
use Rattle.std.specs.Prelude.{◌≡◌, ◌⊎◌, ℕ, true, List, [], ◌∷◌, Some, None}
use Rattle.gd_host.specs.Outside.{Files, Seen, Rose, extended}
use Rattle.command_words.specs.declared.command.Command.TheVariants.{Instrument}
use Rattle.command_words.specs.Tasks.{Task}
use Rattle.command_words.specs.Words.{task_of}
use Rattle.answers.specs.declared.status.Status.{Status}
use Rattle.answers.specs.declared.status.Status.TheVariants.{Done, No, Usage, Refused, Limit, NoMonitor, HostFault, Memory}
use Rattle.answers.specs.Statuses.{is_written}
use Rattle.answers.specs.Answered.{Answered}
use Rattle.answers.specs.Causes.{CauseOf}
use Rattle.answers.specs.Commands.{at, causes_of}
use Rattle.answers.specs.Instrument as instrument
use Rattle.answers.specs.Instrument.{IsSafe}
use Rattle.answers.specs.Lines.{unread_line, unwritten_line}
use Rattle.top_call.specs.Answers.{Fetched, Answers, files_named, read_for}
use Rattle.top_call.specs.Fetching.{AreRead, IsUnread}
use Rattle.top_call.specs.Ending.{Says, IsAnswer, IsLongAt, too_long_at, NoFault, IsAsAnswered}

-- ---- the headline

-- the words ask for `instrument` on a file
pub record AsksToInstrument (words : List (List ℕ)) (file : List ℕ) : Type 0 where
  pub siphons : ℕ
  pub monitors : ℕ
  pub asks : task_of words ≡ Some (record { command = Instrument siphons monitors; files = file ∷ [] })

-- what was read from the file was written, and it is safe: no state that the program that it spells reaches, on any
-- input and by any schedule, has a stuck set
pub record HandsBack (words : List (List ℕ)) (old new : Seen) : Type 0 where
  pub task : Task
  pub asked : task_of words ≡ Some task
  pub bytes : List ℕ
  pub read : AreRead old.files task (bytes ∷ [])
  pub written : new.out ≡ extended old.out bytes
  pub safe : IsSafe bytes

-- what Done of `instrument` promises
abbrev pub Headline : List (List ℕ) → Seen → Seen → Status → Type 0
Headline words old new status = (file : List ℕ) → AsksToInstrument words file → status ≡ Done → HandsBack words old new

-- ---- why a call ends with its status

-- the files of the words were read, and of their contents the command tells this with this status
pub record IsCause (words : List (List ℕ)) (old : Seen) (status : Status) (told : List ℕ) : Type 0 where
  pub task : Task
  pub asked : task_of words ≡ Some task
  pub contents : List (List ℕ)
  pub read : AreRead old.files task contents
  pub cause : CauseOf (causes_of task contents) status told

-- such a text was added to the output
pub record Writes (words : List (List ℕ)) (old new : Seen) (status : Status) : Type 0 where
  pub told : List ℕ
  pub cause : IsCause words old status told
  pub written : new.out ≡ extended old.out told

-- such a line was complained
pub record Complains (words : List (List ℕ)) (old new : Seen) (status : Status) : Type 0 where
  pub told : List ℕ
  pub cause : IsCause words old status told
  pub said : Says told old new

-- a file has more bytes than are read, and the line that was complained says so
pub record IsTooLong (words : List (List ℕ)) (old new : Seen) : Type 0 where
  pub task : Task
  pub asked : task_of words ≡ Some task
  pub place : ℕ
  pub long : IsLongAt old.files task place
  pub said : Says (too_long_at task place).told old new

-- a fault of the host: the last file that was asked for can't be read, or the text of Done or No can't be written
pub data IsFault (words : List (List ℕ)) (old new : Seen) : Type 0 where
  reading : (place : ℕ) → IsUnread (files_named words) place old new → Says (unread_line (at (files_named words) place)) old new → IsFault words old new
  writing : (answer : Answered) → IsAnswer words old.files answer → is_written answer.status ≡ true
      → Rose old.write_faults new.write_faults → Says unwritten_line old new → IsFault words old new

-- Each status but want of memory has its cause.
pub record Explains (words : List (List ℕ)) (old new : Seen) (status : Status) : Type 0 where
  pub done : status ≡ Done → Writes words old new Done
  pub no : status ≡ No → Writes words old new No
  pub usage : status ≡ Usage → task_of words ≡ None
  pub refused : status ≡ Refused → Complains words old new Refused
  pub limit : status ≡ Limit → IsTooLong words old new ⊎ Complains words old new Limit
  pub no_monitor : status ≡ NoMonitor → Complains words old new NoMonitor
  pub host_fault : status ≡ HostFault → IsFault words old new

-- ---- that it ends with no other one

-- A call ends as an answer says: its status is the answer's, a fault of the host, or want of memory; with no fault of the
-- host all that is told is the answer's, or memory was wanting.
pub record EndsBy (answer : Answered) (old new : Seen) (status : Status) : Type 0 where
  pub ends : (status ≡ answer.status) ⊎ ((status ≡ HostFault) ⊎ (status ≡ Memory))
  pub told : NoFault old new → IsAsAnswered answer old new status ⊎ (status ≡ Memory)

-- it ends as the words answer of the host's files
abbrev pub Exact : List (List ℕ) → Files → Seen → Seen → Status → Type 0
Exact words files old new status = (answer : Answered) → Answers words files answer → EndsBy answer old new status

-- the words have an answer of these files, and no other one
pub record HasOneAnswer (words : List (List ℕ)) (files : Files) : Type 0 where
  pub answer : Answered
  pub is : Answers words files answer
  pub only : (other : Answered) → Answers words files other → answer ≡ other

-- the files are there within their limits, and the command accepts their contents
pub record AreAccepted (words : List (List ℕ)) (files : Files) : Type 0 where
  pub task : Task
  pub asked : task_of words ≡ Some task
  pub contents : List (List ℕ)
  pub read : read_for files task ≡ Fetched.whole contents
  pub accepted : (causes_of task contents).accepted

-- what is accepted is done, or is answered no, but for want of memory
abbrev pub Complete : List (List ℕ) → Files → Status → Type 0
Complete words files status = AreAccepted words files → (is_written status ≡ true) ⊎ (status ≡ Memory)

-- ---- what follows of `instrument`

-- the bytes of the file were read, and a line was complained
pub record IsComplaintOf (words : List (List ℕ)) (old new : Seen) (bytes told : List ℕ) : Type 0 where
  pub task : Task
  pub asked : task_of words ≡ Some task
  pub read : AreRead old.files task (bytes ∷ [])
  pub said : Says told old new

-- the line says why `instrument` refuses them
pub record IsRefusedFile (words : List (List ℕ)) (file : List ℕ) (old new : Seen) : Type 0 where
  pub bytes : List ℕ
  pub told : List ℕ
  pub complaint : IsComplaintOf words old new bytes told
  pub cause : (instrument.causes file bytes).refused told

-- the line says which limit they pass
pub record IsLimitedFile (words : List (List ℕ)) (file : List ℕ) (old new : Seen) : Type 0 where
  pub bytes : List ℕ
  pub told : List ℕ
  pub complaint : IsComplaintOf words old new bytes told
  pub cause : (instrument.causes file bytes).limit told
