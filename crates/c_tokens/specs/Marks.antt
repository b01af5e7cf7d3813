-- Words of a text, marked.
use Rattle.std.specs.Prelude.{◌≡◌, ℕ, Bool, true, nat_le, List, [], ◌∷◌, Option, Some, None}
use Rattle.c_lexer.specs.Pieces.{Kind}
use Rattle.c_lexer.specs.Words.{largest}
use Rattle.c_lexer.specs.Tokens.{Word}
use Rattle.c_grammar.specs.declared.words.FixedWord.{FixedWord}
use Rattle.c_grammar.specs.Items.{What, at, Defined, what_is, definition_of, undefined_name, defined_by}
use Rattle.c_expressions.specs.declared.token.What.TheVariants as marked
use Rattle.c_expressions.specs.declared.token.What as declared
use Rattle.c_expressions.specs.declared.token.Marked.{Marked}
use Rattle.c_expressions.specs.Marked.{item_of}

-- the word of the grammar that a name is, if any
abbrev pub word_of : What → Option FixedWord
word_of (What.Fixed word) = Some word
word_of what = None

-- A definition tells which word it takes away, if it is the first of its name.
abbrev pub TellsWord : List Defined → Kind → declared.What → Type 0
TellsWord defined (Kind.define name value) what = definition_of defined name ≡ None → what ≡ marked.Definition (word_of (undefined_name name))
TellsWord defined kind what = Unit {0}

-- A token of the code stands for a word of the text, after these definitions.
pub record Marks (text : List ℕ) (defined : List Defined) (word : Word) (token : Marked) : Type 0 where
  pub seen : item_of text token ≡ at word.line (what_is defined word.kind word.bytes)
  pub tells : TellsWord defined word.kind token.what

-- The number in a token is at most the largest one.
abbrev pub is_small : Kind → Bool
is_small (Kind.number value) = nat_le value largest
is_small (Kind.define name value) = nat_le value largest
is_small kind = true

abbrev pub AreSmall : List Word → Type 0
AreSmall [] = Unit {0}
AreSmall (word ∷ words) = (is_small word.kind ≡ true) × AreSmall words

-- So do tokens one after another.
abbrev pub AllMarked : List ℕ → List Defined → List Word → List Marked → Type 0
AllMarked text defined [] [] = Unit {0}
AllMarked text defined [] (token ∷ tokens) = ⊥
AllMarked text defined (word ∷ words) [] = ⊥
AllMarked text defined (word ∷ words) (token ∷ tokens) = Marks text defined word token × AllMarked text (defined_by defined word.kind) words tokens
