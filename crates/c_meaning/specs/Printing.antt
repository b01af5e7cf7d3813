-- What a print appends to the output.
use Rattle.std.specs.Prelude.{ℕ, ℤ, ◌==◌, if◌then◌else◌, List, [], ◌∷◌, ◌++◌, Some, None}
use Rattle.std.specs.declared.option.Option.{Option}
use Rattle.std.specs.Fmt.{signed_decimal}
use Rattle.c_meaning.specs.declared.Did.TheVariants as did
use Rattle.c_meaning.specs.declared.printing.Piece.{Piece}
use Rattle.c_meaning.specs.declared.printing.Piece.TheVariants.{Argument, Pair, Byte}
use Rattle.c_meaning.specs.State.{Frame, State, goes_on}
use Rattle.c_meaning.specs.Outcome.{Outcome, Undefined, Done}

-- the byte that a backslash and this one stand for: `\n` and `\t` are a new line and a tab, `\\` and `\"` the second byte itself
abbrev pub escaped : ℕ → ℕ
escaped b = if b == 110 then 10 else (if b == 116 then 9 else b)

-- the next argument in decimal, and what the remaining ones make of the format behind it
abbrev pub argument_then : List ℤ → (List ℤ → List ℕ) → List ℕ
argument_then [] behind = behind []
argument_then (z ∷ values) behind = signed_decimal z ++ behind values

-- what a percent sign and a byte stand for: `%d` is the next argument, and `%%` the sign itself
abbrev pub directive : ℕ → List ℤ → (List ℤ → List ℕ) → List ℕ
directive b values behind = if b == 100 then argument_then values behind else b ∷ behind values

-- the bytes of a format, read from left to right
abbrev pub formatted : List ℕ → List ℤ → List ℕ
formatted [] values = []
formatted (b ∷ []) values = b ∷ []
formatted (b ∷ c ∷ format) values =
    if b == 37 then directive c values (formatted format)
    else (if b == 92 then escaped c ∷ formatted format values else b ∷ formatted (c ∷ format) values)

-- what two bytes and the format behind them give, by what they begin with
abbrev pub given_by : Piece → ℕ → ℕ → List ℕ → List ℤ → List ℕ
given_by Argument b c format values = argument_then values (formatted format)
given_by Pair b c format values = (if b == 92 then escaped c else c) ∷ formatted format values
given_by Byte b c format values = b ∷ formatted (c ∷ format) values

-- Print: appends the bytes of the format
abbrev pub printed : State → ℕ → List Frame → List ℕ → Option (List ℤ) → Outcome
printed s t frames format (Some values) = Done did.Print (record (goes_on s t frames) { output = s.output ++ formatted format values })
printed s t frames format None = Undefined
