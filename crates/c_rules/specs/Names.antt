-- Names that are kept for the tool, for POSIX threads and for the library.
use Rattle.std.specs.Prelude.{ℕ, zero, suc, nat_eq, nat_lt, Bool, true, false, not, ◌&&◌, ◌||◌, if◌then◌else◌, List, [], ◌∷◌, length, drop, map, codes, bytes_eq, is_some, option_map, Some, None}
use Rattle.std.specs.declared.option.Option.{Option}
use Rattle.std.specs.Option.{option_map_or}
use Rattle.std.specs.List.{list_any, list_all, starts_with}
use Rattle.c_lexer.specs.Classes.{is_digit, is_letter}
use Rattle.c_grammar.specs.Items.{spelling, fixed_keywords, other_keywords}
use Rattle.c_tree.specs.declared.program.Mode.{Mode}
use Rattle.c_tree.specs.declared.program.Mode.TheVariants as mode
use Rattle.c_tree.specs.Numbering.{main_name}

-- one of these names
abbrev pub mentions : List (List ℕ) → List ℕ → Bool
mentions names name = list_any (bytes_eq name) names

abbrev pub begins_with : List ℕ → List ℕ → Bool
begins_with name front = starts_with nat_eq name front

-- a name of the library, or one that begins as those of the tool and of POSIX threads do
abbrev pub is_kept : List ℕ → Bool
is_kept name =
    begins_with name (codes "gd_") || begins_with name (codes "pthread_") || begins_with name (codes "PTHREAD_")
    || mentions (codes "NULL" ∷ codes "printf" ∷ codes "scanf" ∷ codes "intptr_t" ∷ []) name

-- what the name of a copy ends in: `_gd` and digits
abbrev pub is_copy_end : List ℕ → Bool
is_copy_end name = begins_with name (codes "_gd") && nat_lt 3 (length name) && list_all is_digit (drop 3 name)

-- what stands before that end, where a name ends so
abbrev pub original : List ℕ → Option (List ℕ)
original [] = None
original (b ∷ bs) = if is_copy_end (b ∷ bs) then Some [] else option_map (λ front. b ∷ front) (original bs)

-- a keyword of C
abbrev pub is_keyword : List ℕ → Bool
is_keyword name = mentions other_keywords name || mentions (map spelling fixed_keywords) name

-- a name that isn't a keyword: letters, digits and `_`, and no digit first; however long
abbrev pub is_plain_name : List ℕ → Bool
is_plain_name [] = false
is_plain_name (b ∷ bs) = is_letter b && list_all (λ c. is_letter c || is_digit c) bs && not (is_keyword (b ∷ bs))

-- a name that a program can't declare
abbrev pub is_reserved : List ℕ → Bool
is_reserved name = is_kept name || is_some (original name)

-- a name for a function of a program that may have copies: it isn't kept, and where it ends as the name of a copy does, what stands
-- before that end is a plain name other than `main`, and itself such a name; at most `times` ends are taken off
abbrev pub names_function : (times : ℕ) → List ℕ → Bool
names_function zero name = false
names_function (suc times) name =
    not (is_kept name)
    && option_map_or (λ front. is_plain_name front && not (bytes_eq front main_name) && names_function times front) (original name) true

-- each end has at least four characters, so these are times enough
abbrev pub is_function_name : Mode → List ℕ → Bool
is_function_name mode.Source name = not (is_reserved name)
is_function_name mode.Any name = names_function (suc (length name)) name
