-- The rules by which clap reads the words behind a command.
use Rattle.std.proofs.Common.{◌≡◌, ℕ, true, false, List, [], ◌∷◌, ◌++◌, None, Option, codes, bytes_eq}
use Rattle.clap.specs.Lexer.{long_of, short_of}
use Rattle.clap.specs.Walk.{Rule, Row, Text}
use Rattle.clap.specs.Simple.{Shape, built}
use Rattle.clap.specs.Faults.{flag_word_fault}
use Rattle.command_words.specs.Behind.{app}
use Rattle.command_words.specs.Words.{Given, is_other, option_given}

abbrev pub shape : Shape
shape = (built app).top

abbrev pub rules : List Rule
rules = shape.rules

pub data Which : Type 0 where
  siphons : Which
  monitors : Which

abbrev pub name_of : Which → List ℕ
name_of Which.siphons = codes "siphons"
name_of Which.monitors = codes "monitors"

-- what a word looks like
pub data Looks (word : List ℕ) : Type 0 where
  dashes : word ≡ 45 ∷ 45 ∷ [] → Looks word
  plain : bytes_eq word (45 ∷ 45 ∷ []) ≡ false → is_other word ≡ true → long_of word ≡ None → short_of word ≡ None → Looks word
  flag : (which : Which) → word ≡ 45 ∷ 45 ∷ name_of which → Looks word
  valued : (which : Which) (value : List ℕ) → word ≡ 45 ∷ 45 ∷ (name_of which ++ 61 ∷ value) → Looks word
  strange : (rest : List ℕ) → word ≡ 45 ∷ rest → bytes_eq word (45 ∷ 45 ∷ []) ≡ false → is_other word ≡ false
      → ((g : Given) → option_given g word ≡ None) → ((rows : List Row) (pending : Option (Text × List Text)) → flag_word_fault rules false (long_of word) word (record { rows = rows; pending = pending; skip = 0 }) ≡ [] → ⊥) → Looks word
