-- What a host in memory is, and what each of its calls makes of it.
use Rattle.std.specs.Prelude.{bytes_eq, ◌≡◌, ◌≤◌, ℕ, ◌+◌, ◌-◌, Bool, true, false, not, ◌&&◌, List, [], ◌∷◌, ◌++◌, length, map, take, Vec, String, Result, Ok, Err, Option, Some, None, if◌then◌else◌, nat_eq, nat_lt, nat_le, string_bytes, vec_capacity}
use Rattle.std.specs.FinMap as finite
use Rattle.std.specs.List.{list_any}
use Rattle.std.specs.declared.alloc.Global.{Global}
use Rattle.gd_host.specs.declared.host.FetchError.{FetchError}
use Rattle.gd_host.specs.declared.host.FetchError.TheVariants.{Failed, TooLong, Memory}
use Rattle.gd_host.specs.Outside.{Seen, one_more, counted}

-- names with the bytes of their files, in the order in which they were given
abbrev pub Entries : Type 0
Entries = List (List ℕ × List ℕ)

abbrev pub entries_of : List (String Global × Vec ℕ Global) → Entries
entries_of files = map (λ file. (string_bytes file.0, file.1.items)) files

abbrev pub names_of : List (Vec ℕ Global) → List (List ℕ)
names_of names = map (λ name. name.items) names

-- the bytes of a name: of two files of one name the first counts
abbrev pub first_of : Entries → List ℕ → Option (List ℕ)
first_of [] name = None
first_of (entry ∷ entries) name = if bytes_eq name entry.0 then Some entry.1 else first_of entries name

-- what a host in memory is at a moment: what it means, how many bytes the output may have, the
-- numbers of the calls that are to fail, and how many calls there were
pub record MemoryState : Type 0 where
  pub files : Entries
  pub out : List ℕ
  pub err : List ℕ
  pub asked : List (List ℕ)
  pub room : ℕ
  pub fails : List ℕ
  pub calls : ℕ
  pub read_faults : ℕ
  pub write_faults : ℕ
  pub lost : ℕ

-- a host in memory tells everything
abbrev pub seen_of : MemoryState → Seen
seen_of host = record {
  files = Some (finite.from_entries host.files);
  out = Some host.out;
  err = Some host.err;
  asked = Some host.asked;
  read_faults = host.read_faults;
  write_faults = host.write_faults;
  lost = host.lost;
}

-- how it begins
abbrev pub fresh : Entries → ℕ → List ℕ → MemoryState
fresh files room fails = record {
  files = files;
  out = [];
  err = [];
  asked = [];
  room = room;
  fails = fails;
  calls = 0;
  read_faults = 0;
  write_faults = 0;
  lost = 0;
}

-- the memory for the room of a text is taken, and the text keeps within it
pub record HasRoom (room : ℕ) (text : Vec ℕ Global) : Type 0 where
  pub taken : room ≤ vec_capacity text
  pub within : length text.items ≤ room

-- how many bytes the complaints may have
abbrev pub err_room : ℕ
err_room = 65536

-- the number is one of these
abbrev pub is_among : List ℕ → ℕ → Bool
is_among numbers number = list_any (λ one. nat_eq one number) numbers

-- the next call is one of those that are to fail
abbrev pub is_to_fail : MemoryState → Bool
is_to_fail host = is_among host.fails (one_more host.calls)

-- a text has room for all the bytes
abbrev pub fits : ℕ → List ℕ → List ℕ → Bool
fits room text bytes = nat_le (length text + length bytes) room

-- a text with as many of the bytes at its end as it has room for
abbrev pub filled : ℕ → List ℕ → List ℕ → List ℕ
filled room text bytes = text ++ take (room - length text) bytes

-- what a fetch finds: the whole file, where there is one of that name and it is short enough
abbrev pub found : Option (List ℕ) → ℕ → Result (List ℕ) FetchError
found None limit = Err Failed
found (Some bytes) limit = if nat_lt limit (length bytes) then Err TooLong else Ok bytes

-- what a fetch answers, where memory suffices
abbrev pub fetched : MemoryState → List ℕ → ℕ → Result (List ℕ) FetchError
fetched host name limit = if is_to_fail host then Err Failed else found (first_of host.files name) limit

abbrev pub is_failed : {T : Type 0} → Result T FetchError → Bool
is_failed (Ok _) = false
is_failed (Err Failed) = true
is_failed (Err TooLong) = false
is_failed (Err Memory) = false

-- a fetch answers what is wanted, or want of memory
abbrev pub Answers : Result (Vec ℕ Global) FetchError → Result (List ℕ) FetchError → Type 0
Answers (Ok bytes) wanted = wanted ≡ Ok bytes.items
Answers (Err Failed) wanted = wanted ≡ Err Failed
Answers (Err TooLong) wanted = wanted ≡ Err TooLong
Answers (Err Memory) wanted = Unit {0}

-- a call is counted
abbrev pub after_call : MemoryState → MemoryState
after_call host = record host { calls = one_more host.calls }

-- what a fetch leaves, where memory suffices
abbrev pub after_fetch : MemoryState → List ℕ → ℕ → MemoryState
after_fetch host name limit = record host {
  calls = one_more host.calls;
  asked = host.asked ++ name ∷ [];
  read_faults = counted (is_failed (fetched host name limit)) host.read_faults;
}

-- an emit adds all its bytes
abbrev pub emits : MemoryState → List ℕ → Bool
emits host bytes = not (is_to_fail host) && fits host.room host.out bytes

-- what an emit leaves
abbrev pub after_emit : MemoryState → List ℕ → MemoryState
after_emit host bytes = record host {
  calls = one_more host.calls;
  out = if is_to_fail host then host.out else filled host.room host.out bytes;
  write_faults = counted (not (emits host bytes)) host.write_faults;
}

-- a complain adds all its bytes
abbrev pub complains : MemoryState → List ℕ → Bool
complains host bytes = not (is_to_fail host) && fits err_room host.err bytes

-- what a complain leaves
abbrev pub after_complain : MemoryState → List ℕ → MemoryState
after_complain host bytes = record host {
  calls = one_more host.calls;
  err = if is_to_fail host then host.err else filled err_room host.err bytes;
  lost = counted (not (complains host bytes)) host.lost;
}
