-- Signs (ISO/IEC 9899:1999, section 6.4.6, narrowed).
use Rattle.std.specs.Prelude.{ℕ, if◌then◌else◌, ◌==◌, List, [], ◌∷◌, Option, Some, None}
use Rattle.c_lexer.specs.declared.token.Sign.{Sign}
use Rattle.c_lexer.specs.declared.token.Sign.TheVariants as s
use Rattle.c_lexer.specs.declared.piece.Fault.TheVariants as f
use Rattle.c_lexer.specs.Pieces.{Kind, Piece}

-- The signs of one byte: ( ) { } [ ] ; , & * = < > + - / % !
unfoldable pub single : ℕ → Option Sign
single b =
    if b == 40 then Some s.LeftParenthesis else (if b == 41 then Some s.RightParenthesis
    else (if b == 123 then Some s.LeftBrace else (if b == 125 then Some s.RightBrace
    else (if b == 91 then Some s.LeftBracket else (if b == 93 then Some s.RightBracket
    else (if b == 59 then Some s.Semicolon else (if b == 44 then Some s.Comma
    else (if b == 38 then Some s.Ampersand else (if b == 42 then Some s.Star
    else (if b == 61 then Some s.Assign else (if b == 60 then Some s.Less else (if b == 62 then Some s.Greater
    else (if b == 43 then Some s.Plus else (if b == 45 then Some s.Minus else (if b == 47 then Some s.Slash
    else (if b == 37 then Some s.Percent else (if b == 33 then Some s.Not
    else None)))))))))))))))))

-- The signs that end in `=`: == != <= >= += -= *= /= %=
abbrev pub with_equals : ℕ → Option Sign
with_equals b =
    if b == 61 then Some s.Equal else (if b == 33 then Some s.NotEqual else (if b == 60 then Some s.LessEqual
    else (if b == 62 then Some s.GreaterEqual else (if b == 43 then Some s.AddAssign else (if b == 45 then Some s.SubtractAssign
    else (if b == 42 then Some s.MultiplyAssign else (if b == 47 then Some s.DivideAssign else (if b == 37 then Some s.RemainderAssign
    else None))))))))

-- The signs of one byte twice but for `==`: && || ++ --
abbrev pub twice : ℕ → Option Sign
twice b = if b == 38 then Some s.And else (if b == 124 then Some s.Or else (if b == 43 then Some s.Increment else (if b == 45 then Some s.Decrement else None)))

-- The signs of two bytes.
unfoldable pub double : ℕ → ℕ → Option Sign
double b c = if c == 61 then with_equals b else (if b == c then twice b else None)

-- The one sign of three bytes: `...`
unfoldable pub triple : ℕ → ℕ → ℕ → Option Sign
triple b c d = if b == 46 then (if c == 46 then (if d == 46 then Some s.Ellipsis else None) else None) else None

-- The sign of three bytes that a text begins with.
abbrev pub three_bytes : List ℕ → Option Sign
three_bytes [] = None
three_bytes (b ∷ []) = None
three_bytes (b ∷ c ∷ []) = None
three_bytes (b ∷ c ∷ d ∷ w) = triple b c d

-- What one byte is by itself: a sign, or it is refused.
abbrev pub one_byte : Option Sign → Piece
one_byte None = Piece.refused f.BadByte
one_byte (Some sign) = Piece.token (Kind.sign sign)

-- What two or three bytes are: a sign, or no piece.
abbrev pub several_bytes : Option Sign → Option Piece
several_bytes None = None
several_bytes (Some sign) = Some (Piece.token (Kind.sign sign))

-- What a byte and those after it are, where nothing but a sign begins with it.
abbrev pub sign_of : ℕ → List ℕ → Option Piece
sign_of b [] = Some (one_byte (single b))
sign_of b (c ∷ []) = several_bytes (double b c)
sign_of b (c ∷ d ∷ []) = several_bytes (triple b c d)
sign_of b (c ∷ d ∷ e ∷ w) = None
