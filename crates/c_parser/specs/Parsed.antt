-- Which answer has which cause.
use Rattle.std.specs.Prelude.{◌≡◌, ◌≤◌, ◌<◌, ◌⊎◌, ℕ, List, [], ◌∷◌, ◌++◌, length, Some, Ok, Err}
use Rattle.c_lexer.specs.declared.token.LexError.{LexError}
use Rattle.c_lexer.specs.Tokens.{Word, Scan, Tokens, line}
use Rattle.c_tree.specs.Lined.{Program}
use Rattle.c_grammar.specs.Levels.{Tall, tall}
use Rattle.c_grammar.specs.Programs.{Spells, TextSpells, most_levels, IsOpen, FailsAsSyntax, FailsAsTooDeep, FailsAtEnd}
use Rattle.c_tokens.specs.Reading.{most, BeginsWith, GoesOn}
use Rattle.c_parser.specs.declared.error.ParseError.TheVariants as error
use Rattle.c_parser.specs.Answer.{Answer}

-- A text spells this program, with its lines, within the limits of tokens and levels.
pub record SpelledBy (text : List ℕ) (p : Program) : Type 0 where
  pub words : List Word
  pub tokens : Tokens text words
  pub few : length words ≤ most
  pub levels : ℕ
  pub spells : Spells (line text) words (tall p levels)
  pub within : levels ≤ most_levels

-- Its tokens up to what the lexer refuses so begin a program, and are few enough.
pub record RefusedBy (text : List ℕ) (e : LexError) : Type 0 where
  pub words : List Word
  pub scan : Scan [] text words (Some e)
  pub few : length words ≤ most
  pub begins : IsOpen words

-- A token on this line is the failing one, in this way, and is within the limit of tokens.
pub record TokenFails (Fails : List Word → Word → Type 0) (text : List ℕ) (on : ℕ) : Type 0 where
  pub words : List Word
  pub token : Word
  pub reads : BeginsWith text (words ++ token ∷ [])
  pub few : length words < most
  pub fails : Fails words token
  pub place : token.line ≡ on

-- The end of the text, which is on this line, is the failing one.
pub record EndFails (text : List ℕ) (on : ℕ) : Type 0 where
  pub words : List Word
  pub tokens : Tokens text words
  pub few : length words ≤ most
  pub fails : FailsAtEnd words
  pub place : line text ≡ on

-- No program has the failing token there, or ends where the text does.
abbrev pub FailsOnLine : List ℕ → ℕ → Type 0
FailsOnLine text on = TokenFails FailsAsSyntax text on ⊎ EndFails text on

-- Only programs with more levels have it there.
abbrev pub TooDeepOnLine : List ℕ → ℕ → Type 0
TooDeepOnLine text on = TokenFails FailsAsTooDeep text on

-- So many tokens as there may be begin a program, and another token follows.
pub record GoesOnTooLong (text : List ℕ) : Type 0 where
  pub words : List Word
  pub count : length words ≡ most
  pub begins : IsOpen words
  pub more : GoesOn text words

-- The cause of an answer; want of memory has none.
abbrev pub Parsed : List ℕ → Answer → Type 0
Parsed text (Ok p) = SpelledBy text p
Parsed text (Err (error.Lex e)) = RefusedBy text e
Parsed text (Err (error.Syntax on)) = FailsOnLine text on
Parsed text (Err (error.TooDeep on)) = TooDeepOnLine text on
Parsed text (Err error.TooManyTokens) = GoesOnTooLong text
Parsed text (Err error.Memory) = Unit {0}

-- an answer that isn't want of memory
abbrev pub IsAnswer : Answer → Type 0
IsAnswer (Err error.Memory) = ⊥
IsAnswer answer = Unit {0}

-- A text has this answer.
pub record HasAnswer (text : List ℕ) : Type 0 where
  pub answer : Answer
  pub cause : Parsed text answer
  pub told : IsAnswer answer

-- Each text has an answer, and no other one.
abbrev pub EachTextHasAnswer : Type 0
EachTextHasAnswer = (text : List ℕ) → HasAnswer text

abbrev pub OneAnswer : Type 0
OneAnswer = (text : List ℕ) (a b : Answer) → Parsed text a → IsAnswer a → Parsed text b → IsAnswer b → a ≡ b

-- An answer is this one, unless memory ran out.
abbrev pub Is : Answer → Answer → Type 0
Is (Err error.Memory) other = Unit {0}
Is answer other = answer ≡ other

-- A text spells at most one program, however many levels it takes.
abbrev pub OneProgram : Type 0
OneProgram = (text : List ℕ) (p q : Tall Program) → TextSpells text p → TextSpells text q → p ≡ q
