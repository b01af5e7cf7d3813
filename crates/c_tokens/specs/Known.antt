-- What is known of names: which words they are, and what they are defined as.
use Rattle.std.specs.Prelude.{◌≡◌, ℕ, if◌then◌else◌, List, fold, map, reverse, bytes_eq, Option, Some, None}
use Rattle.std.specs.HashMap.{HashMap, get_by}
use denote.Ref.{Bor}
use Rattle.c_grammar.specs.declared.words.FixedWord.{FixedWord}
use Rattle.c_grammar.specs.Items.{What, other_keywords, is_spelled, Defined, definition_of, named}
use Rattle.c_expressions.specs.declared.token.What as declared
use Rattle.c_expressions.specs.declared.token.What.TheVariants as marked

-- what a table has at a name
abbrev pub found : {S : Type 0} → HashMap (Bor (List ℕ)) declared.What S → List ℕ → Option declared.What
found known name = get_by (λ key. bytes_eq name key.now) known

-- The last of these words that is spelled so; else what was there.
abbrev pub latest : List FixedWord → Option declared.What → List ℕ → Option declared.What
latest words before name = fold (λ so word. if is_spelled name word then Some (marked.Fixed word) else so) before words

abbrev pub latest_keyword : List (List ℕ) → Option declared.What → List ℕ → Option declared.What
latest_keyword words before name = fold (λ so word. if bytes_eq word name then Some marked.Keyword else so) before words

-- the bytes that slices hold
abbrev pub texts : List (Bor (List ℕ)) → List (List ℕ)
texts words = map (λ word. word.now) words

-- the keywords that have no place in the grammar
abbrev pub others : List (List ℕ)
others = reverse other_keywords

-- How a name is marked, where it isn't by its place alone.
abbrev pub mark : What → Option declared.What
mark (What.Number value) = Some (marked.Number value)
mark (What.Fixed word) = Some (marked.Fixed word)
mark What.Keyword = Some marked.Keyword
mark what = None

-- What a definition is, where its name was marked so before.
abbrev pub told : Option declared.What → declared.What
told (Some (marked.Number value)) = marked.Repeated
told (Some (marked.Fixed word)) = marked.Definition (Some word)
told before = marked.Definition None

-- A table knows each word, and each name as it is defined.
abbrev pub Knows : {S : Type 0} → HashMap (Bor (List ℕ)) declared.What S → List Defined → Type 0
Knows known defined = (name : List ℕ) → found known name ≡ mark (named name (definition_of defined name))
