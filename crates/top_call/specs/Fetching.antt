-- What fetching files one after the other does.
use Rattle.std.specs.Prelude.{◌≡◌, ◌<◌, ◌≤◌, ◌^◌, ◌+◌, ◌-◌, ℕ, List, [], ◌++◌, length, take, drop, Some, Option, option_map}
use Rattle.gd_host.specs.Outside.{Files, Seen, Rose, HoldsFile}
use Rattle.gd_host.specs.declared.host.FetchError.{FetchError}
use Rattle.gd_host.specs.declared.host.FetchError.TheVariants.{Failed, TooLong}
use Rattle.answers.specs.Commands.{at}
use Rattle.command_words.specs.Tasks.{Task, limit_of}
use Rattle.top_call.specs.Answers.{Fetched, fetched}

-- the name at a place is that of a file within its limit
pub record IsWithin (files : Files) (limit : ℕ → ℕ) (names : List (List ℕ)) (place : ℕ) : Type 0 where
  pub bytes : List ℕ
  pub held : HoldsFile files (at names place) bytes
  pub fits : length bytes ≤ limit place

-- all before a place are, where files are told
abbrev pub AllWithin : Option Files → (ℕ → ℕ) → List (List ℕ) → ℕ → Type 0
AllWithin told limit names count = (files : Files) → told ≡ Some files → (k : ℕ) → k < count → IsWithin files limit names k

-- the first so many of the names were asked for
abbrev pub AsksFirst : ℕ → List (List ℕ) → Seen → Seen → Type 0
AsksFirst count names old new = new.asked ≡ option_map (λ asked. asked ++ take count names) old.asked

-- the names that were asked for are the first of these, and each but the last is that of a file within its limit
pub record AsksInOrder (limit : ℕ → ℕ) (names : List (List ℕ)) (old new : Seen) : Type 0 where
  pub count : ℕ
  pub named : AsksFirst count names old new
  pub within : AllWithin old.files limit names (count - 1)

-- what fetching leaves as it was
pub record OnlyReads (old new : Seen) : Type 0 where
  pub files : new.files ≡ old.files
  pub out : new.out ≡ old.out
  pub err : new.err ≡ old.err
  pub write_faults : new.write_faults ≡ old.write_faults
  pub lost : new.lost ≡ old.lost
  pub read_faults : old.read_faults ≤ new.read_faults

-- reading files ends so, where they are told
abbrev pub FetchesSo : Option Files → (ℕ → ℕ) → List (List ℕ) → Fetched → Type 0
FetchesSo told limit names end = (files : Files) → told ≡ Some files → fetched files limit [] names ≡ end

-- files of these names have these contents, each within its limit; where files are told, those are theirs
pub record Reads (told : Option Files) (limit : ℕ → ℕ) (names contents : List (List ℕ)) : Type 0 where
  pub each : length contents ≡ length names
  pub within : (k : ℕ) → k < length names → length (at contents k) ≤ limit k
  pub of_files : FetchesSo told limit names (Fetched.whole contents)

-- the same of the files of a task
abbrev pub AreRead : Option Files → Task → List (List ℕ) → Type 0
AreRead told task contents = Reads told (limit_of task.command) task.files contents

-- the file at a place could not be read: a call of fetch failed, and the name there was the last that was asked for
pub record IsUnread (names : List (List ℕ)) (place : ℕ) (old new : Seen) : Type 0 where
  pub inside : place < length names
  pub rose : Rose old.read_faults new.read_faults
  pub last : AsksFirst (place + 1) names old new

-- why fetching stopped at a place
pub record IsStopped (limit : ℕ → ℕ) (names : List (List ℕ)) (place : ℕ) (why : FetchError) (old new : Seen) : Type 0 where
  pub inside : place < length names
  pub unread : why ≡ Failed → IsUnread names place old new
  pub long : why ≡ TooLong → FetchesSo old.files limit names (Fetched.long (at names place) (limit place))

-- the files of the first names were read, and the others remain
pub record HasRead (limit : ℕ → ℕ) (names : List (List ℕ)) (old now : Seen) (read : List (List ℕ)) (place : ℕ) : Type 0 where
  pub count : length read ≡ place
  pub fits : (k : ℕ) → k < place → length (at read k) ≤ limit k
  pub reaches : (files : Files) → old.files ≡ Some files → fetched files limit [] names ≡ fetched files limit read (drop (length read) names)
  pub within : AllWithin old.files limit names place
  pub short : (k : ℕ) → length (at read k) < 2 ^ 31
  pub asked : AsksFirst place names old now
  pub only_reads : OnlyReads old now
