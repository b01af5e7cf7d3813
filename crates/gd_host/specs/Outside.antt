-- What a host means at a moment, and what its calls may do to that.
use Rattle.std.specs.Prelude.{Bool, if◌then◌else◌, ◌≡◌, ◌<◌, ◌≤◌, ◌⊎◌, ℕ, ◌+◌, ◌-◌, ◌^◌, min, List, [], ◌∷◌, ◌++◌, length, take, Vec, Result, Ok, Err, OnErr, Option, Some, option_map}
use Rattle.std.specs.FinMap as map
use Rattle.std.specs.Cmp.Lexicographic.{slice_cmp}
use Rattle.std.specs.Ordering.{nat_cmp}
use Rattle.std.specs.declared.alloc.Global.{Global}
use Rattle.gd_host.specs.declared.host.FetchError.{FetchError}
use Rattle.gd_host.specs.declared.host.FetchError.TheVariants.{Failed, TooLong, Memory}

-- the files of a host: a finite map from names to bytes
abbrev pub Files : Type 0
Files = map.FinMap (slice_cmp nat_cmp) (List ℕ)

-- what a host means: its files, the output, the complaints and the names that were asked for, each
-- where it is told, and how many calls of fetch, emit and complain failed so far
pub record Seen : Type 0 where
  pub files : Option Files
  pub out : Option (List ℕ)
  pub err : Option (List ℕ)
  pub asked : Option (List (List ℕ))
  pub read_faults : ℕ
  pub write_faults : ℕ
  pub lost : ℕ

-- the greatest number that a count reaches
abbrev pub greatest_count : ℕ
greatest_count = 2 ^ 64 - 1

-- each count is at most the greatest
pub record HasBoundedCounts (seen : Seen) : Type 0 where
  pub read_faults : seen.read_faults ≤ greatest_count
  pub write_faults : seen.write_faults ≤ greatest_count
  pub lost : seen.lost ≤ greatest_count

-- one more, up to the greatest, where it stands still
abbrev pub one_more : ℕ → ℕ
one_more count = min (count + 1) greatest_count

-- one more where a call failed
abbrev pub counted : Bool → ℕ → ℕ
counted is_fault count = if is_fault then one_more count else count

-- a count is greater now than before, or stands at the greatest
abbrev pub Rose : ℕ → ℕ → Type 0
Rose before now = one_more before ≤ now

-- a fault is answered only where its count rose, and the count never falls
pub record HasCause {T E : Type 0} (before now : ℕ) (result : Result T E) : Type 0 where
  pub never_falls : before ≤ now
  pub failed : OnErr result (Rose before now)

-- the file of a name has these bytes
abbrev pub HoldsFile : Files → List ℕ → List ℕ → Type 0
HoldsFile files name bytes = map.get files name ≡ Some bytes

-- the file of a name has more than so many bytes
pub record IsLong (files : Files) (name : List ℕ) (limit : ℕ) : Type 0 where
  pub bytes : List ℕ
  pub held : HoldsFile files name bytes
  pub longer : limit < length bytes

-- bytes that are told, with these at their end
abbrev pub extended : Option (List ℕ) → List ℕ → Option (List ℕ)
extended told bytes = option_map (λ so_far. so_far ++ bytes) told

-- names that are told, with this one at their end
abbrev pub also_asked : Option (List (List ℕ)) → List ℕ → Option (List (List ℕ))
also_asked told name = option_map (λ names. names ++ name ∷ []) told

-- a fetch adds the name to those that were asked for; where it lacks memory it may leave them
abbrev pub Asks : Option (List (List ℕ)) → Option (List (List ℕ)) → List ℕ → Result (Vec ℕ Global) FetchError → Type 0
Asks old new name (Ok bytes) = new ≡ also_asked old name
Asks old new name (Err Failed) = new ≡ also_asked old name
Asks old new name (Err TooLong) = new ≡ also_asked old name
Asks old new name (Err Memory) = (new ≡ also_asked old name) ⊎ (new ≡ old)

-- all the bytes were added, or on a fault a front of them
abbrev pub Adds : {E : Type 0} → Option (List ℕ) → Option (List ℕ) → List ℕ → Result (Unit {0}) E → Type 0
Adds old new bytes (Ok _) = new ≡ extended old bytes
Adds old new bytes (Err _) = (count : ℕ) × (new ≡ extended old (take count bytes))
