-- Pieces that say themselves where they end: comments and texts. Each is read from the front of a text, and what stands after it is left.
use Rattle.std.specs.Prelude.{ℕ, ◌+◌, Bool, not, ◌&&◌, ◌||◌, if◌then◌else◌, ◌==◌, nat_le, List, [], ◌∷◌, length, drop, Option, Some, None}
use Rattle.std.specs.List.{prefix_len}
use Rattle.c_lexer.specs.declared.piece.Fault.TheVariants as f
use Rattle.c_lexer.specs.Classes.{in_line}
use Rattle.c_lexer.specs.Pieces.{Kind, Piece, Found}

-- ---- comments (ISO/IEC 9899:1999, section 6.4.9)

-- What stands after the first `*/`.
abbrev pub after_close : List ℕ → Option (List ℕ)
after_close [] = None
after_close (b ∷ []) = None
after_close (b ∷ c ∷ w) = if (b == 42) && (c == 47) then Some w else after_close (c ∷ w)

-- A comment that is closed, or one that isn't: all the rest of the text is then in it.
abbrev pub closed : Option (List ℕ) → Found
closed None = record { piece = Piece.refused f.OpenComment; left = [] }
closed (Some left) = record { piece = Piece.skip; left = left }

-- After `/*`.
abbrev pub block_comment : List ℕ → Found
block_comment text = closed (after_close text)

-- The text from the end of its first line on.
abbrev pub after_line : List ℕ → List ℕ
after_line text = drop (prefix_len in_line text) text

-- After `//`.
abbrev pub line_comment : List ℕ → Found
line_comment text = record { piece = Piece.skip; left = after_line text }

-- ---- texts (ISO/IEC 9899:1999, section 6.4.5)

-- The escapes \n \t \\ \" and the conversions %d %%.
abbrev pub is_pair : ℕ → ℕ → Bool
is_pair b c = ((b == 92) && ((c == 110) || (c == 116) || (c == 92) || (c == 34))) || ((b == 37) && ((c == 100) || (c == 37)))

-- A byte from space to `~` that stands for itself: none of " \ %.
abbrev pub is_single : ℕ → Bool
is_single b = nat_le 32 b && nat_le b 126 && not ((b == 34) || (b == 92) || (b == 37))

-- What stands after the first `"` that isn't part of `\"`, if all before it may stand in a text.
abbrev pub after_quote : List ℕ → Option (List ℕ)
after_quote [] = None
after_quote (b ∷ []) = if b == 34 then Some [] else None
after_quote (b ∷ c ∷ w) =
    if b == 34 then Some (c ∷ w)
    else (if is_pair b c then after_quote w
    else (if is_single b then after_quote (c ∷ w) else None))

-- A text of at most 120 bytes between its quotes, or a `"` that begins none.
abbrev pub quoted : List ℕ → Option (List ℕ) → Found
quoted text None = record { piece = Piece.refused f.BadText; left = text }
quoted text (Some left) =
    if nat_le (length text) (120 + 1 + length left) then record { piece = Piece.token Kind.text; left = left }
    else record { piece = Piece.refused f.BadText; left = text }

-- After `"`.
abbrev pub after_mark : List ℕ → Found
after_mark text = quoted text (after_quote text)
