-- The names of resources, as they are written.
use Rattle.std.specs.Prelude.{ℕ, ◌+◌, ◌-◌, nat_le, nat_lt, Bool, ◌&&◌, List, [], ◌++◌, codes, find, unwrap_or, Some, None}
use Rattle.std.specs.declared.option.Option.{Option}
use Rattle.std.specs.Fmt.{decimal}
use Rattle.c_check.specs.Tables.{Numbered, Numbers}

abbrev pub bracketed : ℕ → List ℕ
bracketed index = codes "[" ++ (decimal index ++ codes "]")

-- a mutex by its name, and a member of an array by its index too
abbrev pub with_index : Option ℕ → ℕ → List ℕ
with_index None index = []
with_index (Some len) index = bracketed index

abbrev pub mutex_name : Numbered → ℕ → List ℕ
mutex_name m index = m.name ++ with_index m.len index

-- a resource is this mutex or one of its members
abbrev pub holds : ℕ → Numbered → Bool
holds r m = nat_le m.first r && nat_lt r (m.first + unwrap_or m.len 1)

abbrev pub name_by : Option Numbered → (count r : ℕ) → List ℕ
name_by (Some m) count r = mutex_name m (r - m.first)
name_by None count r = codes "gd" ++ bracketed (r - count)

-- a mutex, or behind all of these a monitor
abbrev pub name_of : Numbers → ℕ → List ℕ
name_of n r = name_by (find (holds r) n.mutexes) n.mutex_count r
