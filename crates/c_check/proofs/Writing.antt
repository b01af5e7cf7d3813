-- The mutex that has a resource, among those of a table.
use Rattle.std.proofs.Common.{◌≡◌, ℕ, Bool, true, false, List, [], ◌∷◌, map, refl, sym, ap, ◌∙◌, option_map}
use Rattle.std.specs.Prelude.{find}
use Rattle.std.specs.declared.option.Option.{Option}
use Rattle.c_check.specs.declared.mutex.Mutex.{Mutex}
use Rattle.c_check.specs.Tables.{numbered_of}
use Rattle.c_check.specs.Written.{holds, name_by}

found_by : (r : ℕ) (b : Bool) (m : Mutex) (ms : List Mutex) → holds r (numbered_of m) ≡ b → find (holds r) (map numbered_of ms) ≡ option_map numbered_of (find (λ x. holds r (numbered_of x)) ms)
    → find (holds r) (map numbered_of (m ∷ ms)) ≡ option_map numbered_of (find (λ x. holds r (numbered_of x)) (m ∷ ms))
found_by r true m ms e h = rw e refl
found_by r false m ms e h = rw e h

found : (r : ℕ) (ms : List Mutex) → find (holds r) (map numbered_of ms) ≡ option_map numbered_of (find (λ x. holds r (numbered_of x)) ms)
found r [] = refl
found r (m ∷ ms) = found_by r (holds r (numbered_of m)) m ms refl (found r ms)

pub name_found : (r count : ℕ) (ms : List Mutex) (o : Option Mutex) → o ≡ find (λ x. holds r (numbered_of x)) ms
    → name_by (option_map numbered_of o) count r ≡ name_by (find (holds r) (map numbered_of ms)) count r
name_found r count ms o e = ap (λ x. name_by x count r) (ap (option_map numbered_of) e ∙ sym (found r ms))
