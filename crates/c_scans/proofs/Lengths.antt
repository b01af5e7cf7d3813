-- What is left behind a text, an include or a definition is no longer than what it was read from.
use Rattle.std.proofs.Common.{◌≡◌, ℕ, suc, ◌≤◌, ◌+◌, Bool, true, false, ◌&&◌, cond, List, [], ◌∷◌, codes, length, Option, Some, None, refl, ap, arith, length-drop}
use Rattle.std.specs.Prelude.{◌==◌, nat_le, Result, Ok, Err}
use Rattle.std.specs.List.{prefix_len}
use Rattle.std.specs.Option.{option_and_then}
use Rattle.c_lexer.specs.declared.piece.Fault.{Fault}
use Rattle.c_lexer.specs.declared.piece.Fault.TheVariants as f
use Rattle.c_lexer.specs.Classes.{in_line, is_line_blank, is_word, is_space}
use Rattle.c_lexer.specs.Pieces.{Kind, Piece, Found}
use Rattle.c_lexer.specs.Words.{decimal}
use Rattle.c_lexer.specs.Readings.{after_close, after_line, is_pair, is_single, after_quote, quoted, after_mark}
use Rattle.c_lexer.specs.Directives.{after_bytes, after_gap, after_spaces, word, after_word, is_name, is_number, or_else, after_one_of, headers, Definition, defined_number, defined_name, definition, defined, definition_line, include_line, after_include, tail, tail_slash, tail_comment, over_lines, directive}

-- a reading leaves no more than its text
abbrev Leaves : (List ℕ → Option (List ℕ)) → List ℕ → Type 0
Leaves read text = (left : List ℕ) → read text ≡ Some left → length left ≤ length text

-- ---- texts between quotes

quote_leaves : (text : List ℕ) → Leaves after_quote text
quote_leaves [] left e = absurd (cc)
quote_leaves (b ∷ []) left e = by (b == 34) e
  where
    by : (x : Bool) → cond x (Some []) None ≡ Some left → length left ≤ 1
    by true e = let same : [] ≡ left = cc in omega (arith, ap length same)
    by false e = absurd (cc)
quote_leaves (b ∷ c ∷ w) left e = by (b == 34) (is_pair b c) (is_single b) (quote_leaves w) (quote_leaves (c ∷ w)) e
  where
    by : (x y z : Bool) → Leaves after_quote w → Leaves after_quote (c ∷ w)
        → cond x (Some (c ∷ w)) (cond y (after_quote w) (cond z (after_quote (c ∷ w)) None)) ≡ Some left → length left ≤ length (b ∷ c ∷ w)
    by true y z two one e = let same : c ∷ w ≡ left = cc in omega (arith, ap length same)
    by false true z two one e = omega (arith, two left e)
    by false false true two one e = omega (arith, one left e)
    by false false false two one e = absurd (cc)

quoted_leaves : (text left : List ℕ) → length left ≤ length text → length (quoted text (Some left)).left ≤ length text
quoted_leaves text left le = by (nat_le (length text) (120 + 1 + length left))
  where
    by : (x : Bool) → length (cond {A = Found} x (record { piece = Piece.token Kind.text; left = left }) (record { piece = Piece.refused f.BadText; left = text })).left ≤ length text
    by true = le
    by false = omega arith

pub mark_leaves : (text : List ℕ) → length (after_mark text).left ≤ length text
mark_leaves text = by (after_quote text) (quote_leaves text)
  where
    by : (o : Option (List ℕ)) → ((left : List ℕ) → o ≡ Some left → length left ≤ length text) → length (quoted text o).left ≤ length text
    by None h = omega arith
    by (Some left) h = quoted_leaves text left (h left refl)

-- ---- parts of a preprocessor line

bytes_leave : (bytes text : List ℕ) → Leaves (after_bytes bytes) text
bytes_leave [] text left e = let same : text ≡ left = cc in omega (arith, ap length same)
bytes_leave (b ∷ bytes) [] left e = absurd (cc)
bytes_leave (b ∷ bytes) (c ∷ text) left e = by (b == c) (bytes_leave bytes text) e
  where
    by : (x : Bool) → Leaves (after_bytes bytes) text → cond x (after_bytes bytes text) None ≡ Some left → length left ≤ length (c ∷ text)
    by true more e = omega (arith, more left e)
    by false more e = absurd (cc)

spaces_leave : (text : List ℕ) → length (after_spaces text) ≤ length text
spaces_leave text = omega (arith, length-drop (prefix_len is_space text) text)

gap_leaves : (text : List ℕ) → Leaves after_gap text
gap_leaves [] left e = absurd (cc)
gap_leaves (b ∷ text) left e = by (is_space b) e
  where
    by : (x : Bool) → cond x (Some (after_spaces text)) None ≡ Some left → length left ≤ length (b ∷ text)
    by true e = let same : after_spaces text ≡ left = cc in omega (arith, ap length same, spaces_leave text)
    by false e = absurd (cc)

one_leaves : (all : List (List ℕ)) (text : List ℕ) → Leaves (after_one_of all) text
one_leaves [] text left e = absurd (cc)
one_leaves (bytes ∷ others) text left e = by (after_bytes bytes text) (bytes_leave bytes text) (one_leaves others text) e
  where
    by : (o : Option (List ℕ)) → ((left : List ℕ) → o ≡ Some left → length left ≤ length text) → Leaves (after_one_of others) text
        → or_else o (after_one_of others text) ≡ Some left → length left ≤ length text
    by None h more e = more left e
    by (Some x) h more e = h left e

include_leaves : (text : List ℕ) → Leaves after_include text
unfolding after_include
include_leaves text left e = by (after_bytes (codes "include") text) (bytes_leave (codes "include") text) e
  where
    by : (o : Option (List ℕ)) → ((left : List ℕ) → o ≡ Some left → length left ≤ length text)
        → option_and_then (λ more. after_one_of headers (after_spaces more)) o ≡ Some left → length left ≤ length text
    by None h e = absurd (cc)
    by (Some more) h e = omega (arith, one_leaves headers (after_spaces more) left e, spaces_leave more, h more refl)

number_leaves : (name text : List ℕ) (d : Definition) → defined_number name text ≡ Some d → length d.left ≤ length text
unfolding defined_number
number_leaves name text d e = by (is_number (word text)) e
  where
    by : (x : Bool) → cond x (Some (record { name = name; value = decimal (word text); left = after_word text })) None ≡ Some d → length d.left ≤ length text
    by true e = let same : after_word text ≡ d.left = cc in omega (arith, ap length same, length-drop (prefix_len is_word text) text)
    by false e = absurd (cc)

name_leaves : (text : List ℕ) (d : Definition) → defined_name text ≡ Some d → length d.left ≤ length text
unfolding defined_name
name_leaves text d e = by (is_name (word text)) e
  where
    behind : (o : Option (List ℕ)) → after_gap (after_word text) ≡ o → option_and_then (defined_number (word text)) o ≡ Some d → length d.left ≤ length text
    behind None g e = absurd (cc)
    behind (Some more) g e =
        omega (arith, number_leaves (word text) more d e, gap_leaves (after_word text) more g, length-drop (prefix_len is_word text) text)

    by : (x : Bool) → cond x (option_and_then (defined_number (word text)) (after_gap (after_word text))) None ≡ Some d → length d.left ≤ length text
    by true e = behind (after_gap (after_word text)) refl e
    by false e = absurd (cc)

definition_leaves : (text : List ℕ) (d : Definition) → definition text ≡ Some d → length d.left ≤ length text
unfolding definition
definition_leaves text d e = by (after_bytes (codes "define") text) refl e
  where
    behind : (more : List ℕ) (o : Option (List ℕ)) → after_gap more ≡ o → option_and_then defined_name o ≡ Some d → length more ≤ length text → length d.left ≤ length text
    behind more None g e le = absurd (cc)
    behind more (Some at) g e le = omega (arith, name_leaves at d e, gap_leaves more at g, le)

    by : (o : Option (List ℕ)) → after_bytes (codes "define") text ≡ o → option_and_then (λ more. option_and_then defined_name (after_gap more)) o ≡ Some d → length d.left ≤ length text
    by None b e = absurd (cc)
    by (Some more) b e = behind more (after_gap more) refl e (bytes_leave (codes "define") text more b)

-- ---- the end of a line

record TailLeaves (text : List ℕ) : Type 0 where
  line : (left : List ℕ) → tail text ≡ Ok left → length left ≤ length text
  slash : (left : List ℕ) → tail_slash text ≡ Ok left → length left ≤ length text
  comment : (left : List ℕ) → tail_comment text ≡ Ok left → length left ≤ length text

line_leaves : (b : ℕ) (text left : List ℕ) → TailLeaves text → tail (b ∷ text) ≡ Ok left → length left ≤ length (b ∷ text)
line_leaves b text left s e = by (b == 10) (is_line_blank b) (b == 47) e
  where
    by : (x y z : Bool) → cond x (Ok (b ∷ text)) (cond y (tail text) (cond z (tail_slash text) (Err f.BadLine))) ≡ Ok left → length left ≤ length (b ∷ text)
    by true y z e = let same : b ∷ text ≡ left = cc in omega (arith, ap length same)
    by false true z e = omega (arith, s.line left e)
    by false false true e = omega (arith, s.slash left e)
    by false false false e = absurd (cc)

slash_leaves : (b : ℕ) (text left : List ℕ) → TailLeaves text → tail_slash (b ∷ text) ≡ Ok left → length left ≤ length (b ∷ text)
slash_leaves b text left s e = by (b == 42) (b == 47) e
  where
    by : (x y : Bool) → cond x (tail_comment text) (cond y (Ok (after_line text)) (Err f.BadLine)) ≡ Ok left → length left ≤ length (b ∷ text)
    by true y e = omega (arith, s.comment left e)
    by false true e = let same : after_line text ≡ left = cc in omega (arith, ap length same, length-drop (prefix_len in_line text) text)
    by false false e = absurd (cc)

comment_leaves : (b c : ℕ) (text left : List ℕ) → TailLeaves (c ∷ text) → TailLeaves text → tail_comment (b ∷ c ∷ text) ≡ Ok left → length left ≤ length (b ∷ c ∷ text)
comment_leaves b c text left s t e = by ((b == 42) && (c == 47)) (b == 10) (after_close (c ∷ text)) e
  where
    by : (x y : Bool) (o : Option (List ℕ)) → cond x (tail text) (cond y (over_lines o) (tail_comment (c ∷ text))) ≡ Ok left → length left ≤ length (b ∷ c ∷ text)
    by true y o e = omega (arith, t.line left e)
    by false true None e = absurd (cc)
    by false true (Some more) e = absurd (cc)
    by false false o e = omega (arith, s.comment left e)

tail_leaves : (text : List ℕ) → TailLeaves text
tail_leaves [] = record {
  line = λ left e. let same : [] ≡ left = cc in omega (arith, ap length same);
  slash = λ left e. absurd (cc);
  comment = λ left e. absurd (cc);
}
tail_leaves (b ∷ []) = record {
  line = λ left e. line_leaves b [] left (tail_leaves []) e;
  slash = λ left e. slash_leaves b [] left (tail_leaves []) e;
  comment = λ left e. absurd (cc);
}
tail_leaves (b ∷ c ∷ text) = record {
  line = λ left e. line_leaves b (c ∷ text) left (tail_leaves (c ∷ text)) e;
  slash = λ left e. slash_leaves b (c ∷ text) left (tail_leaves (c ∷ text)) e;
  comment = λ left e. comment_leaves b c text left (tail_leaves (c ∷ text)) (tail_leaves text) e;
}

-- ---- whole lines

defined_leaves : (text : List ℕ) (d : Definition) (o : Result (List ℕ) Fault) → ((left : List ℕ) → o ≡ Ok left → length left ≤ length text) → length (defined text d o).left ≤ length text
defined_leaves text d (Ok left) h = h left refl
defined_leaves text d (Err fault) h = omega arith

definition_line_leaves : (text : List ℕ) (o : Option Definition) → ((d : Definition) → o ≡ Some d → length d.left ≤ length text) → length (definition_line text o).left ≤ length text
definition_line_leaves text None h = omega arith
definition_line_leaves text (Some d) h =
    defined_leaves text d (tail d.left) (λ left e. let shorter = (tail_leaves d.left).line left e in let within = h d refl in omega (arith, shorter, within))

include_line_leaves : (text : List ℕ) (o : Option (List ℕ)) → ((left : List ℕ) → o ≡ Some left → length left ≤ length text) → length (include_line text o).left ≤ length text
include_line_leaves text None h = definition_line_leaves text (definition text) (definition_leaves text)
include_line_leaves text (Some left) h = h left refl

pub directive_leaves : (first : Bool) (text : List ℕ) → length (directive first text).left ≤ length text
directive_leaves false text = omega arith
directive_leaves true text = include_line_leaves text (after_include text) (include_leaves text)
