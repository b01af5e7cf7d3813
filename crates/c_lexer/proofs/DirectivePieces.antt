-- Preprocessor lines.
use Rattle.std.proofs.Common.{◌≡◌, ℕ, zero, suc, ◌<◌, ◌≤◌, ◌+◌, ◌-◌, Bool, true, false, ◌&&◌, cond, eqb, List, [], ◌∷◌, codes, length, get_or, take, drop, Option, Some, None, refl, ap, arith, length-drop, length-take-le}
use Rattle.std.specs.Prelude.{◌==◌, not, Ok, Err}
use Rattle.std.specs.List.{prefix_len, starts_with, list_all}
use Rattle.std.specs.Option.{option_and_then}
use Rattle.std.proofs.lemmas.Bool.Decides.{nat_tests}
use Rattle.std.proofs.lemmas.List.{drop-drop}
use Rattle.c_lexer.specs.declared.piece.Fault.{Fault}
use Rattle.c_lexer.specs.declared.piece.Fault.TheVariants as f
use Rattle.c_lexer.specs.declared.piece.Lexeme.TheVariants as l
use Rattle.c_lexer.specs.declared.token.Token.TheVariants as t
use Rattle.c_lexer.specs.declared.directives.Definition.{Definition as Found}
use Rattle.c_lexer.specs.Cuts.{Cuts, IsDefinitionLine, name_of}
use Rattle.c_lexer.specs.Classes.{is_word, is_space, in_line}
use Rattle.c_lexer.specs.Pieces.{Kind, Piece}
use Rattle.c_lexer.specs.Words.{decimal}
use Rattle.c_lexer.specs.Readings.{after_close, after_line}
use Rattle.c_lexer.specs.Directives.{after_bytes, after_spaces, after_gap, word, after_one_of, headers, after_include, is_name, is_number, Definition, defined_number, defined_name, definition, tail, tail_comment, over_lines, directive, definition_line, refused_hash, name_place}
use Rattle.c_lexer.specs.Lexeme.{lexeme, IsCut}
use Rattle.c_lexer.proofs.Pieces.{Stops, IsRead, reading_cut}

-- ---- parts of a line

pub bytes_read : (bytes text : List ℕ) → after_bytes bytes text ≡ cond (starts_with eqb text bytes) (Some (drop (length bytes) text)) None
bytes_read [] text = refl
bytes_read (b ∷ bytes) [] = refl
bytes_read (b ∷ bytes) (c ∷ text) = by (b == c) (bytes_read bytes text)
  where
    by : (x : Bool) → after_bytes bytes text ≡ cond (starts_with eqb text bytes) (Some (drop (length bytes) text)) None
        → cond x (after_bytes bytes text) None ≡ cond (x && starts_with eqb text bytes) (Some (drop (length bytes) text)) None
    by true again = again
    by false again = refl

pub gap_some : (text : List ℕ) → 0 < prefix_len is_space text → after_gap text ≡ Some (drop (prefix_len is_space text) text)
gap_some [] h = absurd (omega arith)
gap_some (b ∷ text) h = by (is_space b) h
  where
    by : (x : Bool) → 0 < cond x (1 + prefix_len is_space text) 0 → cond x (Some (after_spaces text)) None ≡ Some (drop (cond x (1 + prefix_len is_space text) 0) (b ∷ text))
    by true h = let size : 1 + prefix_len is_space text ≡ suc (prefix_len is_space text) = omega arith in rw size refl
    by false h = absurd (omega arith)

pub gap_none : (text : List ℕ) → prefix_len is_space text ≡ 0 → after_gap text ≡ None
gap_none [] h = refl
gap_none (b ∷ text) h = by (is_space b) h
  where
    by : (x : Bool) → cond x (1 + prefix_len is_space text) 0 ≡ 0 → cond x (Some (after_spaces text)) None ≡ None
    by true h = absurd (omega arith)
    by false h = refl

-- ---- includes and definitions, part after part

pub include_read : (text : List ℕ) (n : ℕ) (found : Option (List ℕ)) → after_bytes (codes "include") text ≡ Some (drop 7 text) → n ≡ prefix_len is_space (drop 7 text)
    → after_one_of headers (drop (7 + n) text) ≡ found → after_include text ≡ found
unfolding after_include
include_read text n found begins spaces header = rw (begins, ← spaces, drop-drop n 7 text) header

pub naming_stops : (text : List ℕ) → is_name (word text) ≡ false → defined_name text ≡ None
unfolding defined_name
naming_stops text name = rw name refl

pub naming_read : (text : List ℕ) (n : ℕ) (found : Option (List ℕ)) → is_name (word text) ≡ true → n ≡ prefix_len is_word text
    → after_gap (drop n text) ≡ found → defined_name text ≡ option_and_then (defined_number (take n text)) found
unfolding defined_name
naming_read text n found name size gap = rw (name, ← size, gap) refl

pub number_read : (name text : List ℕ) (n v : ℕ) → n ≡ prefix_len is_word text → is_number (take n text) ≡ true → v ≡ decimal (take n text)
    → defined_number name text ≡ Some (record { name = name; value = v; left = drop n text })
unfolding defined_number
number_read name text n v size number value = rw (← size, number, value) refl

pub number_stops : (name text : List ℕ) (n : ℕ) → n ≡ prefix_len is_word text → is_number (take n text) ≡ false → defined_number name text ≡ None
unfolding defined_number
number_stops name text n size number = rw (← size, number) refl

pub definition_read : (text : List ℕ) (n : ℕ) (found : Option Definition) → after_bytes (codes "define") text ≡ Some (drop 6 text)
    → after_gap (drop 6 text) ≡ Some (drop n (drop 6 text)) → defined_name (drop (6 + n) text) ≡ found → definition text ≡ found
unfolding definition
definition_read text n found begins gap name = rw (begins, gap, drop-drop n 6 text) name

pub definition_stops : (text : List ℕ) → after_bytes (codes "define") text ≡ None → definition text ≡ None
unfolding definition
definition_stops text begins = rw begins refl

pub definition_gapless : (text : List ℕ) → after_bytes (codes "define") text ≡ Some (drop 6 text) → after_gap (drop 6 text) ≡ None → definition text ≡ None
unfolding definition
definition_gapless text begins gap = rw (begins, gap) refl

-- ---- the tail of a definition's line

-- Something is left out where a comment is closed.
close_shorter : (text left : List ℕ) → after_close text ≡ Some left → length left < length text
close_shorter [] left closes = absurd (cc)
close_shorter (b ∷ []) left closes = absurd (cc)
close_shorter (b ∷ c ∷ text) left closes = by ((b == 42) && (c == 47)) closes (close_shorter (c ∷ text) left)
  where
    by : (x : Bool) → cond x (Some text) (after_close (c ∷ text)) ≡ Some left → (after_close (c ∷ text) ≡ Some left → length left < length (c ∷ text)) → length left < length (b ∷ c ∷ text)
    by true closes again = let same : text ≡ left = cc in omega (arith, ap length same)
    by false closes again = omega (arith, again closes)

-- A comment on one line, one over lines, and one that is never closed.
pub comment_passed : (text : List ℕ) (n : ℕ) → n ≤ length text → after_close text ≡ Some (drop n text) → list_all in_line (take n text) ≡ true → tail_comment text ≡ tail (drop n text)
comment_passed text zero within closes line = absurd (omega (arith, close_shorter text text closes))
comment_passed [] (suc n) within closes line = absurd (omega arith)
comment_passed (b ∷ []) (suc n) within closes line = absurd (cc)
comment_passed (b ∷ c ∷ text) (suc n) within closes line =
    by ((b == 42) && (c == 47)) (b == 10) closes line (comment_passed (c ∷ text) n (omega arith))
  where
    by : (x y : Bool) → cond x (Some text) (after_close (c ∷ text)) ≡ Some (drop n (c ∷ text)) → (not y && list_all in_line (take n (c ∷ text))) ≡ true
        → (after_close (c ∷ text) ≡ Some (drop n (c ∷ text)) → list_all in_line (take n (c ∷ text)) ≡ true → tail_comment (c ∷ text) ≡ tail (drop n (c ∷ text)))
        → cond x (tail text) (cond y (over_lines (after_close (c ∷ text))) (tail_comment (c ∷ text))) ≡ tail (drop n (c ∷ text))
    by true y closes line again = let same : text ≡ drop n (c ∷ text) = cc in ap tail same
    by false true closes line again = absurd (cc)
    by false false closes line again = again closes line

-- The bytes that close a comment are no newlines.
no_newline : (b c : ℕ) (text : List ℕ) (n : ℕ) → ((b == 42) && (c == 47)) ≡ true → text ≡ drop n (c ∷ text) → n ≤ length (c ∷ text) → list_all in_line (take (suc n) (b ∷ c ∷ text)) ≡ true
no_newline b c text n closes same within =
    let one : n ≡ 1 = omega (arith, ap length same, length-drop n (c ∷ text)) in
    let star : b ≡ 42 = grind (arith, nat_tests) in
    let slash : c ≡ 47 = grind (arith, nat_tests) in
    rw (one, star, slash) refl

pub comment_lines : (text : List ℕ) (n : ℕ) → n ≤ length text → after_close text ≡ Some (drop n text) → list_all in_line (take n text) ≡ false → tail_comment text ≡ Err f.BadLine
comment_lines text zero within closes line = absurd (cc)
comment_lines [] (suc n) within closes line = absurd (omega arith)
comment_lines (b ∷ []) (suc n) within closes line = absurd (cc)
comment_lines (b ∷ c ∷ text) (suc n) within closes line =
    by ((b == 42) && (c == 47)) (b == 10) refl closes line (comment_lines (c ∷ text) n (omega arith))
  where
    by : (x y : Bool) → ((b == 42) && (c == 47)) ≡ x → cond x (Some text) (after_close (c ∷ text)) ≡ Some (drop n (c ∷ text)) → (not y && list_all in_line (take n (c ∷ text))) ≡ false
        → (after_close (c ∷ text) ≡ Some (drop n (c ∷ text)) → list_all in_line (take n (c ∷ text)) ≡ false → tail_comment (c ∷ text) ≡ Err f.BadLine)
        → cond x (tail text) (cond y (over_lines (after_close (c ∷ text))) (tail_comment (c ∷ text))) ≡ Err f.BadLine
    by true y t closes lines again =
        let same : text ≡ drop n (c ∷ text) = cc in
        let clean = no_newline b c text n t same (omega arith) in
        absurd (cc (line, clean))
    by false true t closes lines again = rw closes refl
    by false false t closes lines again = again closes lines

pub comment_open : (text : List ℕ) → after_close text ≡ None → tail_comment text ≡ Err f.OpenComment
comment_open [] closes = refl
comment_open (b ∷ []) closes = refl
comment_open (b ∷ c ∷ text) closes = by ((b == 42) && (c == 47)) (b == 10) closes (comment_open (c ∷ text))
  where
    by : (x y : Bool) → cond x (Some text) (after_close (c ∷ text)) ≡ None → (after_close (c ∷ text) ≡ None → tail_comment (c ∷ text) ≡ Err f.OpenComment)
        → cond x (tail text) (cond y (over_lines (after_close (c ∷ text))) (tail_comment (c ∷ text))) ≡ Err f.OpenComment
    by true y closes again = absurd (cc)
    by false true closes again = rw closes refl
    by false false closes again = again closes

-- A comment's marks, and the end of the line.
pub tail_block : (text : List ℕ) → 1 < length text → get_or text 0 0 ≡ 47 → get_or text 1 0 ≡ 42 → tail text ≡ tail_comment (drop 2 text)
tail_block [] some slash star = absurd (omega arith)
tail_block (b ∷ []) some slash star = absurd (omega arith)
tail_block (b ∷ c ∷ text) some slash star = rw (slash, star) refl

pub tail_line : (text : List ℕ) → 1 < length text → get_or text 0 0 ≡ 47 → get_or text 1 0 ≡ 47 → tail text ≡ Ok (after_line (drop 2 text))
tail_line [] some slash again = absurd (omega arith)
tail_line (b ∷ []) some slash again = absurd (omega arith)
tail_line (b ∷ c ∷ text) some slash again = rw (slash, again) refl

pub tail_end : (text : List ℕ) → Stops in_line text → tail text ≡ Ok text
tail_end [] stops = refl
tail_end (b ∷ text) stops = let newline : b ≡ 10 = grind (arith, nat_tests) in rw newline refl

-- ---- what begins with a hash

pub hash_read : (first : Bool) → IsRead first (35 ∷ []) (directive first)
unfolding lexeme
hash_read first w rest = refl

pub include_cut : (text : List ℕ) (n : ℕ) → 0 < length text → get_or text 0 0 ≡ 35 → n ≤ length (drop 1 text) → after_include (drop 1 text) ≡ Some (drop n (drop 1 text))
    → IsCut true text Piece.skip (1 + n)
include_cut [] n some hash within reads = absurd (omega arith)
include_cut (b ∷ text) n some hash within reads =
    let size : 1 + n ≡ suc n = omega arith in
    rw (size, hash) (reading_cut true 35 (directive true) text n Piece.skip (hash_read true) within (rw reads refl))

pub define_cut : (text : List ℕ) (n : ℕ) (name : List ℕ) (value : ℕ) → 0 < length text → get_or text 0 0 ≡ 35 → n ≤ length (drop 1 text) → after_include (drop 1 text) ≡ None
    → definition_line (drop 1 text) (definition (drop 1 text)) ≡ record { piece = Piece.token (Kind.define name value); left = drop n (drop 1 text) }
    → IsCut true text (Piece.token (Kind.define name value)) (1 + n)
define_cut [] n name value some hash within include reads = absurd (omega arith)
define_cut (b ∷ text) n name value some hash within include reads =
    let size : 1 + n ≡ suc n = omega arith in
    rw (size, hash) (reading_cut true 35 (directive true) text n (Piece.token (Kind.define name value)) (hash_read true) within (rw include reads))

-- The same with the place of the name.
pub define_cuts : (text : List ℕ) (place : ℕ) (found : Found) → 0 < length text → get_or text 0 0 ≡ 35 → after_include (drop 1 text) ≡ None → IsDefinitionLine (drop 1 text) found
    → Cuts true place text (record { lexeme = l.Token (t.Define (record { start = place + 1 + found.name.start; end = place + 1 + found.name.end }) found.value); len = 1 + found.len })
define_cuts [] place found some hash include is = absurd (omega arith)
define_cuts (b ∷ text) place found some hash include is =
    let n = found.name.end - found.name.start in
    let at = is.placed in
    let size : length (name_of text found) ≡ n = length-take-le n (drop found.name.start text) (omega (arith, length-drop found.name.start text, at.inside, at.within)) in
    let start : place + 1 + found.name.start ≡ place + name_place (b ∷ text) = omega (arith, at.start) in
    let end : place + 1 + found.name.end ≡ place + name_place (b ∷ text) + length (name_of text found) = omega (arith, at.start, at.order, size) in
    record {
      piece = Piece.token (Kind.define (name_of text found) found.value);
      begins = define_cut (b ∷ text) found.len (name_of text found) found.value some hash at.within include is.is;
      shows = rw (start, end) refl;
    }

pub refused_cut : (text : List ℕ) (fault : Fault) → 0 < length text → get_or text 0 0 ≡ 35 → after_include (drop 1 text) ≡ None
    → definition_line (drop 1 text) (definition (drop 1 text)) ≡ refused_hash fault (drop 1 text) → IsCut true text (Piece.refused fault) 1
refused_cut [] fault some hash include reads = absurd (omega arith)
refused_cut (b ∷ text) fault some hash include reads =
    rw hash (reading_cut true 35 (directive true) text 0 (Piece.refused fault) (hash_read true) (omega arith) (rw include reads))

pub later_cut : (text : List ℕ) → 0 < length text → get_or text 0 0 ≡ 35 → IsCut false text (Piece.refused f.BadLine) 1
later_cut [] some hash = absurd (omega arith)
later_cut (b ∷ text) some hash = rw hash (reading_cut false 35 (directive false) text 0 (Piece.refused f.BadLine) (hash_read false) (omega arith) refl)
