-- What a parser answers on the tokens of a text, and on its words.
use Rattle.std.specs.Prelude.{◌≡◌, ℕ, List, []}
use Rattle.c_lexer.specs.Tokens.{Word}
use Rattle.c_grammar.specs.Items.{Defined}
use Rattle.parse_laws.specs.Parser.{Outcome, Got, Failed}
use Rattle.c_expressions.specs.declared.token.Marked.{Marked}
use Rattle.c_tokens.specs.Marks.{AreSmall, AllMarked}
use Rattle.c_programs.specs.Parsers.{program}
use Rattle.c_programs.specs.Lexed.{word_views}
use Rattle.c_programs.specs.Gives.{views}

-- These tokens are those words, after some definitions.
abbrev pub LeftAlike : List ℕ → List Marked → List Word → Type 0
LeftAlike text tokens words = (defined : List Defined) × AllMarked text defined words tokens

-- The same value or the same fault, and what is left is alike.
abbrev pub SameOutcome : {A : Type 0} → List ℕ → Outcome Marked A → Outcome Word A → Type 0
SameOutcome text (Got a tokens) (Got b words) = (a ≡ b) × LeftAlike text tokens words
SameOutcome text (Failed e tokens) (Failed f words) = (e ≡ f) × LeftAlike text tokens words
SameOutcome text (Got a tokens) (Failed f words) = ⊥
SameOutcome text (Failed e tokens) (Got b words) = ⊥

-- The parser of programs answers the same on the marked tokens of a text and on its words, in each room and for each last line.
abbrev pub ReadAsWords : Type 0
ReadAsWords =
    (text : List ℕ) (room end : ℕ) (words : List Word) (tokens : List Marked) → AllMarked text [] words tokens → AreSmall words
    → SameOutcome text (program (views text) room end tokens) (program word_views room end words)
