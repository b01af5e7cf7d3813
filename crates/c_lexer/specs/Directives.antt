-- Preprocessor lines (ISO/IEC 9899:1999, section 6.10, narrowed): includes of five headers, and definitions of a name as a number.
use Rattle.std.specs.Prelude.{ℕ, ◌+◌, Bool, true, false, ◌&&◌, if◌then◌else◌, ◌==◌, nat_le, List, [], ◌∷◌, length, take, drop, codes, slice_index, Option, Some, None, Result, Ok, Err}
use Rattle.std.specs.List.{prefix_len}
use Rattle.std.specs.Option.{option_and_then}
use Rattle.c_lexer.specs.declared.piece.Fault.{Fault}
use Rattle.c_lexer.specs.declared.piece.Fault.TheVariants as f
use Rattle.c_lexer.specs.Classes.{is_letter, is_word, is_space, is_line_blank}
use Rattle.c_lexer.specs.Pieces.{Kind, Piece, Found}
use Rattle.c_lexer.specs.Words.{decimal, is_plain, largest}
use Rattle.c_lexer.specs.Readings.{after_close, after_line}

-- ---- parts of a line, each with what is left of the text after it

-- These bytes.
abbrev pub after_bytes : List ℕ → List ℕ → Option (List ℕ)
after_bytes [] text = Some text
after_bytes (b ∷ bytes) [] = None
after_bytes (b ∷ bytes) (c ∷ text) = if b == c then after_bytes bytes text else None

-- All the spaces and tabs that there are.
abbrev pub after_spaces : List ℕ → List ℕ
after_spaces text = drop (prefix_len is_space text) text

-- The same, but at least one.
abbrev pub after_gap : List ℕ → Option (List ℕ)
after_gap [] = None
after_gap (b ∷ text) = if is_space b then Some (after_spaces text) else None

-- The longest word at the front of a text, and what stands after it.
abbrev pub word : List ℕ → List ℕ
word text = take (prefix_len is_word text) text

abbrev pub after_word : List ℕ → List ℕ
after_word text = drop (prefix_len is_word text) text

-- ---- includes

-- What is left by the first of these, or else by the other.
abbrev pub or_else : Option (List ℕ) → Option (List ℕ) → Option (List ℕ)
or_else None other = other
or_else (Some left) other = Some left

-- The first of these that the text begins with.
abbrev pub after_one_of : List (List ℕ) → List ℕ → Option (List ℕ)
after_one_of [] text = None
after_one_of (bytes ∷ others) text = or_else (after_bytes bytes text) (after_one_of others text)

-- The headers that may be included.
abbrev pub headers : List (List ℕ)
headers = codes "<pthread.h>" ∷ codes "<stdio.h>" ∷ codes "<stdlib.h>" ∷ codes "<stdint.h>" ∷ codes "<unistd.h>" ∷ []

-- `include`, any spaces and tabs, and a header.
unfoldable pub after_include : List ℕ → Option (List ℕ)
after_include text = option_and_then (λ more. after_one_of headers (after_spaces more)) (after_bytes (codes "include") text)

-- ---- definitions

-- A name.
abbrev pub is_name : List ℕ → Bool
is_name w = is_letter (slice_index w 0) && nat_le (length w) 63

-- A number.
abbrev pub is_number : List ℕ → Bool
is_number w = is_plain w && nat_le (decimal w) largest

-- What a line defines, and what is left of the text after its number.
pub record Definition : Type 0 where
  pub name : List ℕ
  pub value : ℕ
  pub left : List ℕ

-- At the number of this name.
unfoldable pub defined_number : List ℕ → List ℕ → Option Definition
defined_number name text =
    if is_number (word text) then Some (record { name = name; value = decimal (word text); left = after_word text }) else None

-- At the name: a name, spaces or tabs, and a number.
unfoldable pub defined_name : List ℕ → Option Definition
defined_name text =
    if is_name (word text) then option_and_then (defined_number (word text)) (after_gap (after_word text)) else None

-- `define`, spaces or tabs, a name, spaces or tabs, and a number.
unfoldable pub definition : List ℕ → Option Definition
definition text = option_and_then (λ more. option_and_then defined_name (after_gap more)) (after_bytes (codes "define") text)

-- At a newline in a comment.
abbrev pub over_lines : Option (List ℕ) → Result (List ℕ) Fault
over_lines None = Err f.OpenComment
over_lines (Some left) = Err f.BadLine

abbrev mutual
  -- Spaces, tabs, carriage returns and comments up to the end of the line, which is left with what follows it; or what is at fault.
  pub tail : List ℕ → Result (List ℕ) Fault
  tail [] = Ok []
  tail (b ∷ text) =
      if b == 10 then Ok (b ∷ text)
      else (if is_line_blank b then tail text
      else (if b == 47 then tail_slash text else Err f.BadLine))

  -- The same after a `/`.
  pub tail_slash : List ℕ → Result (List ℕ) Fault
  tail_slash [] = Err f.BadLine
  tail_slash (b ∷ text) =
      if b == 42 then tail_comment text
      else (if b == 47 then Ok (after_line text) else Err f.BadLine)

  -- The same in a comment, which is to end on this line. One that is never closed is at fault as such, wherever its lines end.
  pub tail_comment : List ℕ → Result (List ℕ) Fault
  tail_comment [] = Err f.OpenComment
  tail_comment (b ∷ []) = Err f.OpenComment
  tail_comment (b ∷ c ∷ text) =
      if (b == 42) && (c == 47) then tail text
      else (if b == 10 then over_lines (after_close (c ∷ text)) else tail_comment (c ∷ text))

-- ---- all of them

-- A `#` that is refused, before this text.
abbrev pub refused_hash : Fault → List ℕ → Found
refused_hash fault text = record { piece = Piece.refused fault; left = text }

-- After the number of this definition, where its line goes on so; `text` stands after its `#`.
abbrev pub defined : List ℕ → Definition → Result (List ℕ) Fault → Found
defined text d (Ok left) = record { piece = Piece.token (Kind.define d.name d.value); left = left }
defined text d (Err fault) = refused_hash fault text

abbrev pub definition_line : List ℕ → Option Definition → Found
definition_line text None = refused_hash f.BadLine text
definition_line text (Some d) = defined text d (tail d.left)

abbrev pub include_line : List ℕ → Option (List ℕ) → Found
include_line text None = definition_line text (definition text)
include_line text (Some left) = record { piece = Piece.skip; left = left }

-- What stands after a `#`, which is the first byte on its line other than spaces and tabs or isn't.
abbrev pub directive : Bool → List ℕ → Found
directive false text = refused_hash f.BadLine text
directive true text = include_line text (after_include text)

-- How many bytes stand before the name of a definition with which this text begins: `#define`, and spaces and tabs.
abbrev pub name_place : List ℕ → ℕ
name_place text = 7 + prefix_len is_space (drop 7 text)
