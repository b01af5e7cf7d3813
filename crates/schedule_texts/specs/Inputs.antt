-- Texts that are inputs, and what is wrong with others.
use Rattle.std.specs.Prelude.{◌≡◌, ◌≢◌, ℕ, ℤ, suc, ◌<◌, ◌||◌, Bool, true, false, ◌==◌, not, List, [], ◌∷◌, ◌++◌, length, take, filter, flat_map, slice_index, slice_index_or, ⊤, Contains, FitsSigned}
use Rattle.std.specs.List.{slice_split}
use Rattle.std.specs.Str.Parse.{IsNumeral, without_leading_sign, signed_digits_value}
use Rattle.std.specs.Int.{w32}
use Rattle.std.specs.declared.result.Result.{Result}
use Rattle.std.specs.declared.result.Result.TheVariants.{Ok, Err}
use Rattle.schedule_texts.specs.declared.input.InputError.{InputError}
use Rattle.schedule_texts.specs.declared.input.InputError.TheVariants.{BadInput, Memory}
use Rattle.schedule_texts.specs.Schedules.{lines_of}

-- whether a list has no elements
abbrev pub is_empty : List ℕ → Bool
is_empty [] = true
is_empty (b ∷ rest) = false

-- the pieces of a line, between blanks and tabs
abbrev pub pieces_of : List ℕ → List (List ℕ)
pieces_of line = slice_split (λ b. b == 32 || b == 9) line

-- those pieces that aren't empty
abbrev pub worded : List (List ℕ) → List (List ℕ)
worded pieces = filter (λ piece. not (is_empty piece)) pieces

-- the words of a line
abbrev pub words_of : List ℕ → List (List ℕ)
words_of line = worded (pieces_of line)

-- a word is a number: digits, with at most a minus before them, whose value fits 32 bits with its sign
pub record IsNumber (word : List ℕ) : Type 0 where
  pub no_plus : slice_index word 0 ≢ 43
  pub digits : IsNumeral 10 (without_leading_sign word)
  pub fits : FitsSigned w32 (signed_digits_value 10 word)

abbrev pub value_of : List ℕ → ℤ
value_of word = signed_digits_value 10 word

-- each word is a number, and has the value beside it
abbrev pub EachValued : List (List ℕ) → List ℤ → Type 0
EachValued [] [] = ⊤
EachValued [] (v ∷ vs) = ⊥
EachValued (word ∷ words) [] = ⊥
EachValued (word ∷ words) (v ∷ vs) = IsNumber word × (v ≡ value_of word) × EachValued words vs

-- the words of lines are numbers, with these values
abbrev pub AreNumbers : List (List ℕ) → List ℤ → Type 0
AreNumbers lines values = EachValued (flat_map words_of lines) values

-- some word of a line is no number
pub record IsBad (line : List ℕ) : Type 0 where
  pub word : List ℕ
  pub stands : Contains (words_of line) word
  pub no_number : IsNumber word → ⊥

-- the values of the words among pieces, behind those before them
abbrev pub HaveValues : List (List ℕ) → List ℤ → List ℤ → Type 0
HaveValues pieces old new = (values : List ℤ) × EachValued (worded pieces) values × (new ≡ old ++ values)

-- what is answered of a line, with the values before and after it
abbrev pub LineAnswers : List ℕ → Bool → List ℤ → List ℤ → Type 0
LineAnswers line true old new = HaveValues (pieces_of line) old new
LineAnswers line false old new = IsBad line

-- this line, counted from 1, has a word that is no number, and the words of those before it are numbers
pub record IsBadAt (text : List ℕ) (line : ℕ) : Type 0 where
  pub place : ℕ
  pub within : place < length (lines_of text)
  pub number : line ≡ suc place
  pub is_bad : IsBad (slice_index_or (lines_of text) place [])
  pub read : List ℤ
  pub are_numbers : AreNumbers (take place (lines_of text)) read

-- what an answer says of a text; want of memory says nothing
abbrev pub Answers : List ℕ → Result (List ℤ) InputError → Type 0
Answers text (Ok values) = AreNumbers (lines_of text) values
Answers text (Err (BadInput line)) = IsBadAt text line
Answers text (Err Memory) = ⊤

-- some answer that isn't want of memory says so of a text
pub record HasAnswer (text : List ℕ) : Type 0 where
  pub answer : Result (List ℤ) InputError
  pub is : Answers text answer
  pub told : answer ≢ Err Memory
