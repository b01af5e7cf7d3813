-- What the exact answers of a host in memory say of a host in general.
use Rattle.std.proofs.Common.{◌≡◌, ◌≢◌, ◌<◌, ◌-◌, ℕ, Bool, true, false, not, ◌&&◌, List, ◌++◌, length, Vec, Some, None, Ok, Err, refl, sym, ap, subst, ◌∙◌, arith}
use Rattle.std.specs.Prelude.{Option, Result, is_ok, IfOk, IsErrOf, if◌then◌else◌}
use Rattle.std.specs.FinMap as map
use Rattle.std.specs.declared.alloc.Global.{Global}
use Rattle.std.proofs.lemmas.Grind.{common_steps}
use Rattle.std.proofs.lemmas.List.{take_all}
use Rattle.gd_host.specs.declared.host.FetchError.{FetchError}
use Rattle.gd_host.specs.declared.host.FetchError.TheVariants.{Failed, TooLong, Memory}
use Rattle.gd_host.specs.Outside.{HoldsFile, IsLong, Adds}
use Rattle.gd_host.specs.Memory.{Answers, MemoryState, fetched, is_to_fail, first_of, found, fits, filled}
use Rattle.gd_host.proofs.Files.{get-first_of}

-- what is found is the whole file
found_whole : (file : Option (List ℕ)) (limit : ℕ) (bytes : List ℕ) → found file limit ≡ Ok bytes → file ≡ Some bytes
found_whole None limit bytes is = grind (arith, common_steps)
found_whole (Some held) limit bytes is = grind (arith, common_steps)

-- what is too long has a length past the limit
found_long : (file : Option (List ℕ)) (limit : ℕ) → found file limit ≡ Err TooLong → (bytes : List ℕ) × (file ≡ Some bytes) × (limit < length bytes)
found_long None limit is = grind (arith, common_steps)
found_long (Some held) limit is = (held, refl, grind (arith, common_steps))

-- a file past the limit is too long
long_found : (file : Option (List ℕ)) (limit : ℕ) (bytes : List ℕ) → file ≡ Some bytes → limit < length bytes → found file limit ≡ Err TooLong
long_found file limit bytes is longer = grind (arith, common_steps)

pub fill_adds : {E : Type 0} (is_to_fail : Bool) (room : ℕ) (text bytes : List ℕ) (result : Result (Unit {0}) E)
    → is_ok result ≡ (not is_to_fail && fits room text bytes)
    → Adds (Some text) (Some (if is_to_fail then text else filled room text bytes)) bytes result
fill_adds true room text bytes (Ok _) is = grind arith
fill_adds true room text bytes (Err _) is = (0, grind (arith, common_steps))
fill_adds false room text bytes (Ok _) is = ap (λ kept. Some (text ++ kept)) (take_all (room - length text) bytes (grind (arith, common_steps)))
fill_adds false room text bytes (Err _) is = (room - length text, refl)

not_both : (wanted : Result (List ℕ) FetchError) (bytes : List ℕ) → wanted ≡ Err TooLong → wanted ≡ Ok bytes → ⊥
not_both wanted bytes long whole = grind arith

-- where a call isn't to fail, or answers something else, it is as if no call were to fail
not_to_fail : (is_to_fail : Bool) (wanted : Result (List ℕ) FetchError) (bytes : List ℕ)
    → (if is_to_fail then Err Failed else wanted) ≡ Ok bytes → wanted ≡ Ok bytes
not_to_fail true wanted bytes is = grind arith
not_to_fail false wanted bytes is = is

not_to_fail_long : (is_to_fail : Bool) (wanted : Result (List ℕ) FetchError)
    → (if is_to_fail then Err Failed else wanted) ≡ Err TooLong → wanted ≡ Err TooLong
not_to_fail_long true wanted is = grind arith
not_to_fail_long false wanted is = is

pub fetch_whole : (host : MemoryState) (name : List ℕ) (limit : ℕ) (result : Result (Vec ℕ Global) FetchError)
    → Answers result (fetched host name limit) → IfOk result (λ bytes. HoldsFile (map.from_entries host.files) name bytes.items)
fetch_whole host name limit (Ok bytes) is =
    get-first_of host.files name ∙ found_whole (first_of host.files name) limit bytes.items (not_to_fail (is_to_fail host) _ _ is)
fetch_whole host name limit (Err _) is = tt

pub fetch_long : (host : MemoryState) (name : List ℕ) (limit : ℕ) (result : Result (Vec ℕ Global) FetchError)
    → Answers result (fetched host name limit) → IsErrOf result TooLong → IsLong (map.from_entries host.files) name limit
fetch_long host name limit result is long =
    let answers : fetched host name limit ≡ Err TooLong = subst (λ r. Answers r (fetched host name limit)) long is in
    let file = found_long (first_of host.files name) limit (not_to_fail_long (is_to_fail host) _ answers) in
    record { bytes = file.0; held = get-first_of host.files name ∙ file.1; longer = file.2 }

pub long_fetch : (host : MemoryState) (name : List ℕ) (limit : ℕ) (result : Result (Vec ℕ Global) FetchError)
    → Answers result (fetched host name limit) → IsLong (map.from_entries host.files) name limit
    → result ≢ Err Failed → result ≢ Err Memory → IsErrOf result TooLong
long_fetch host name limit (Ok bytes) is long =
    let file = sym (get-first_of host.files name) ∙ long.held in
    let answers = long_found (first_of host.files name) limit long.bytes file long.longer in
    λ _ _. absurd (not_both _ _ answers (not_to_fail (is_to_fail host) _ _ is))
long_fetch host name limit (Err Failed) is long = λ failed _. absurd (failed refl)
long_fetch host name limit (Err TooLong) is long = λ _ _. refl
long_fetch host name limit (Err Memory) is long = λ _ memory. absurd (memory refl)
