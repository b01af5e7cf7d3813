-- The kinds of bytes that the tokens of C are made of (ISO/IEC 9899:1999, sections 5.2.1 and 6.4).
use Rattle.std.specs.Prelude.{ℕ, Bool, not, ◌&&◌, ◌||◌, ◌==◌, nat_le}

-- A letter or `_`.
abbrev pub is_letter : ℕ → Bool
is_letter b = (nat_le 65 b && nat_le b 90) || (b == 95) || (nat_le 97 b && nat_le b 122)

-- A decimal digit.
abbrev pub is_digit : ℕ → Bool
is_digit b = nat_le 48 b && nat_le b 57

-- A byte of a name after its first one.
unfoldable pub is_word : ℕ → Bool
is_word b = is_letter b || is_digit b

-- A space or a tab.
abbrev pub is_space : ℕ → Bool
is_space b = (b == 32) || (b == 9)

-- A space, a tab or a carriage return: a blank that ends no line.
abbrev pub is_line_blank : ℕ → Bool
is_line_blank b = is_space b || (b == 13)

-- A newline.
abbrev pub is_newline : ℕ → Bool
is_newline b = b == 10

-- Any byte but a newline.
abbrev pub in_line : ℕ → Bool
in_line b = not (is_newline b)

-- A blank.
abbrev pub is_blank : ℕ → Bool
is_blank b = is_line_blank b || is_newline b
