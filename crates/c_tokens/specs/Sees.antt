-- What is known of a token, where what is known of names is.
use Rattle.std.specs.Prelude.{◌≡◌, ◌≤◌, ℕ, ◌+◌, List, length, drop}
use Rattle.std.specs.HashMap.{HashMap}
use denote.Ref.{Bor}
use Rattle.c_lexer.specs.declared.token.Token.{Token}
use Rattle.c_lexer.specs.declared.token.Span.{Span}
use Rattle.c_lexer.specs.Pieces.{Kind}
use Rattle.c_lexer.specs.Tokens.{token_of}
use Rattle.c_lexer.specs.Directives.{name_place}
use Rattle.c_lexer.specs.Laws.{slice}
use Rattle.c_grammar.specs.Items.{Defined, definition_of, named, what_is, defined_by}
use Rattle.c_expressions.specs.declared.token.What as declared
use Rattle.c_expressions.specs.Marked.{what_of, bytes_at}
use Rattle.c_tokens.specs.Known.{Knows}
use Rattle.c_tokens.specs.Marks.{TellsWord}

-- a name is seen by what is known
abbrev pub SeesName : {S : Type 0} → List ℕ → HashMap (Bor (List ℕ)) declared.What S → Span → declared.What → Type 0
SeesName text known place what = (defined : List Defined) → Knows known defined → what_of text what ≡ named (bytes_at text place) (definition_of defined (bytes_at text place))

-- a definition is seen so, and known from now on
abbrev pub SeesDefinition : {S : Type 0} → HashMap (Bor (List ℕ)) declared.What S → HashMap (Bor (List ℕ)) declared.What S → List ℕ → ℕ → declared.What → Type 0
SeesDefinition old new name value what = (text : List ℕ) (defined : List Defined) → Knows old defined
    → (what_of text what ≡ what_is defined (Kind.define name value) name) × TellsWord defined (Kind.define name value) what × Knows new (defined_by defined (Kind.define name value))

-- the name that a token defines stands in it
abbrev pub Named : List ℕ → Span → Kind → Type 0
Named text span (Kind.define name value) = (slice text (span.start + name_place (drop span.start text)) (span.start + name_place (drop span.start text) + length name) ≡ name)
    × (span.start + name_place (drop span.start text) + length name ≤ span.end)
Named text span kind = Unit {0}

-- a token of a kind, at a span
abbrev pub Sees : {S : Type 0} → List ℕ → HashMap (Bor (List ℕ)) declared.What S → HashMap (Bor (List ℕ)) declared.What S → Span → Token → declared.What → Type 0
Sees text old new span token what = (kind : Kind) (defined : List Defined) → Knows old defined → token ≡ token_of span.start (drop span.start text) kind → Named text span kind
    → (what_of text what ≡ what_is defined kind (slice text span.start span.end)) × TellsWord defined kind what × Knows new (defined_by defined kind)
