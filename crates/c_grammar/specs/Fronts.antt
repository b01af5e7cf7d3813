-- What holds of the fronts of lists of tokens, and samples of the failing token.
use Rattle.std.specs.Prelude.{◌≡◌, ℕ, List, [], ◌∷◌, ◌++◌, codes}
use Rattle.c_lexer.specs.Pieces.{Kind}
use Rattle.c_lexer.specs.Tokens.{Word}
use Rattle.c_grammar.specs.Items.{Defined, items, defined_after}
use Rattle.c_grammar.specs.Programs.{Begins, IsOpen, FailsAsSyntax, FailsAtEnd}
use Rattle.c_grammar.specs.Samples.{words_of}

-- The tokens are told apart one after another: only the definitions before a token bear on it.
abbrev pub OneByOne : Type 0
OneByOne = (defined : List Defined) (front back : List Word) → items defined (front ++ back) ≡ items defined front ++ items (defined_after defined front) back

-- The front of what begins a program begins one too.
abbrev pub FrontsBegin : Type 0
FrontsBegin = (room : ℕ) (front back : List Word) → Begins room (front ++ back) → Begins room front

-- No tokens begin a program.
abbrev pub EmptyIsOpen : Type 0
EmptyIsOpen = IsOpen []

abbrev pub break_token : Word
break_token = record { kind = Kind.name; bytes = codes "break"; line = 1 }

-- `break` fails at the front of a file, whatever follows it.
abbrev pub BreakFails : Type 0
BreakFails = FailsAsSyntax [] break_token

-- A declaration without its `;` fails at the end of the file.
abbrev pub OpenDeclarationFails : Type 0
OpenDeclarationFails = FailsAtEnd (words_of (codes "int x" ∷ []))
