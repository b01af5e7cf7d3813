-- The files of a list, one entry at a time.
use Rattle.std.proofs.Common.{◌≡◌, ℕ, ◌<◌, ◌+◌, cond, List, [], ◌∷◌, drop, length, get_or, Vec, Some, refl, ap, ◌∙◌, add-one, drop-cons}
use Rattle.std.specs.Prelude.{String, bytes_eq, string_bytes}
use Rattle.std.specs.declared.alloc.Global.{Global}
use Rattle.std.specs.FinMap as map
use Rattle.std.specs.Cmp.Lexicographic.{slice_cmp, nat_list_cmp_total}
use Rattle.std.specs.Ordering.{nat_cmp}
use Rattle.std.proofs.lemmas.Map.Text.{is_eq-slice_cmp}
use Rattle.gd_host.specs.Memory.{Entries, entries_of, first_of}

-- the map of such a list finds what the first entry of the name holds
find-first_of : (entries : Entries) (name : List ℕ) → map.find (slice_cmp nat_cmp) name entries ≡ first_of entries name
find-first_of [] name = refl
find-first_of (entry ∷ entries) name =
    ap (λ b. cond b (Some entry.1) (map.find (slice_cmp nat_cmp) name entries)) (is_eq-slice_cmp name entry.0)
    ∙ ap (λ rest. cond (bytes_eq name entry.0) (Some entry.1) rest) (find-first_of entries name)

pub get-first_of : (entries : Entries) (name : List ℕ) → map.get (map.from_entries {R = slice_cmp nat_cmp} entries) name ≡ first_of entries name
get-first_of entries name = map.get-from_entries nat_list_cmp_total entries name ∙ find-first_of entries name

abbrev File : Type 0
File = String Global × Vec ℕ Global

-- from a place on, the file at that place decides first
pub first_of-drop : (files : List File) (i : ℕ) (file : File) (name : List ℕ) → i < length files → file ≡ get_or files i file
    → first_of (entries_of (drop i files)) name ≡ cond (bytes_eq name (string_bytes file.0)) (Some file.1.items) (first_of (entries_of (drop (i + 1) files)) name)
first_of-drop files i file name inside is =
    let parts : drop i files ≡ file ∷ drop (i + 1) files = drop-cons files i file inside ∙ rw (← is, add-one i) refl in
    ap (λ later. first_of (entries_of later) name) parts
