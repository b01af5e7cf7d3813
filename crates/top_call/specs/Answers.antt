-- What a list of words answers of given files.
use Rattle.std.specs.Prelude.{◌≡◌, ℕ, List, [], ◌∷◌, ◌++◌, length, nat_lt, if◌then◌else◌, Some, None, Option}
use Rattle.std.specs.FinMap as map
use Rattle.gd_host.specs.Outside.{Files}
use Rattle.command_words.specs.Tasks.{Task, limit_of}
use Rattle.command_words.specs.Words.{task_of}
use Rattle.answers.specs.Answered.{Answered, usage_answer, unread_answer, too_long_answer}
use Rattle.answers.specs.Causes.{Decides}
use Rattle.answers.specs.Commands.{causes_of}

-- the names of the files that are asked for; words of no known shape ask for none
abbrev pub files_for : Option Task → List (List ℕ)
files_for None = []
files_for (Some task) = task.files

abbrev pub files_named : List (List ℕ) → List (List ℕ)
files_named words = files_for (task_of words)

-- the most bytes of each of these files, by its place
abbrev pub limits_for : Option Task → ℕ → ℕ
limits_for None place = 0
limits_for (Some task) place = limit_of task.command place

abbrev pub limits_of : List (List ℕ) → ℕ → ℕ
limits_of words = limits_for (task_of words)

-- how the reading of files ends: all of them are read, or the first that can't be is absent or too long
pub data Fetched : Type 0 where
  whole : (contents : List (List ℕ)) → Fetched
  absent : (name : List ℕ) → Fetched
  long : (name : List ℕ) (limit : ℕ) → Fetched

abbrev pub fetched_on : List ℕ → ℕ → (List ℕ → Fetched) → Option (List ℕ) → Fetched
fetched_on name limit later None = Fetched.absent name
fetched_on name limit later (Some bytes) = if nat_lt limit (length bytes) then Fetched.long name limit else later bytes

-- the files of these names are read in their order, behind those that were read already
abbrev pub fetched : Files → (ℕ → ℕ) → List (List ℕ) → List (List ℕ) → Fetched
fetched files limit read [] = Fetched.whole read
fetched files limit read (name ∷ names) =
    fetched_on name (limit (length read)) (λ bytes. fetched files limit (read ++ bytes ∷ []) names) (map.get files name)

-- the files of a task are read
abbrev pub read_for : Files → Task → Fetched
read_for files task = fetched files (limit_of task.command) [] task.files

-- what is answered once the files are read, or can't be
abbrev pub AnswersOn : Task → Fetched → Answered → Type 0
AnswersOn task (Fetched.whole contents) answer = Decides (causes_of task contents) answer
AnswersOn task (Fetched.absent name) answer = answer ≡ unread_answer name
AnswersOn task (Fetched.long name limit) answer = answer ≡ too_long_answer name limit

abbrev pub AnswersFor : Files → Option Task → Answered → Type 0
AnswersFor files None answer = answer ≡ usage_answer
AnswersFor files (Some task) answer = AnswersOn task (read_for files task) answer

-- what a list of words answers of these files
abbrev pub Answers : List (List ℕ) → Files → Answered → Type 0
Answers words files answer = AnswersFor files (task_of words) answer
