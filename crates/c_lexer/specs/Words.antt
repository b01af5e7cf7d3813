-- Names and numbers: a letter or a digit and all the letters, digits and `_` that follow it.
-- A word is taken whole and judged then, so that a name that is too long isn't two names, nor `12x` a number and a name.
use Rattle.std.specs.Prelude.{ℕ, ◌+◌, ◌*◌, ◌-◌, Bool, not, ◌&&◌, ◌||◌, if◌then◌else◌, ◌==◌, nat_le, nat_lt, List, length, slice_index}
use Rattle.std.specs.List.{list_all, fold}
use Rattle.c_lexer.specs.declared.piece.Fault.TheVariants as f
use Rattle.c_lexer.specs.Classes.{is_digit}
use Rattle.c_lexer.specs.Pieces.{Kind, Piece}

-- What a word of this length is that begins with a letter or `_`.
unfoldable pub name_of : ℕ → Piece
name_of len = if nat_le len 63 then Piece.token Kind.name else Piece.refused f.LongName

-- The number that digits spell.
abbrev pub decimal : List ℕ → ℕ
decimal digits = fold (λ value digit. 10 * value + (digit - 48)) 0 digits

-- `0`, or digits that don't begin with `0`.
abbrev pub is_plain : List ℕ → Bool
is_plain w = nat_lt 0 (length w) && (list_all is_digit w && (not (slice_index w 0 == 48) || nat_le (length w) 1))

-- The largest number.
abbrev pub largest : ℕ
largest = 2147483647

-- What a word is that begins with a digit.
unfoldable pub number_of : List ℕ → Piece
number_of w = if is_plain w
    then (if nat_le (decimal w) largest then Piece.token (Kind.number (decimal w)) else Piece.refused f.NumberTooLarge)
    else Piece.refused f.BadNumber
