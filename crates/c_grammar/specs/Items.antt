-- The tokens as the grammar sees them: words are told apart, and a name that is defined is a number.
use Rattle.std.specs.Prelude.{ℕ, ◌-◌, Bool, if◌then◌else◌, List, [], ◌∷◌, length, take, drop, codes, bytes_eq, find, Option, Some, None}
use Rattle.std.specs.List.{list_any}
use Rattle.c_lexer.specs.declared.token.Sign.{Sign as AnySign}
use Rattle.c_lexer.specs.Pieces.{Kind}
use Rattle.c_lexer.specs.Tokens.{Word}
use Rattle.c_grammar.specs.declared.words.FixedWord.{FixedWord}
use Rattle.c_grammar.specs.declared.words.FixedWord.TheVariants as w

-- What a token is.
pub data What : Type 0 where
  -- a name that is none of the words below
  Name : (name : List ℕ) → What
  -- a word that the grammar spells out
  Fixed : (word : FixedWord) → What
  -- a keyword of C that has no place in the grammar
  Keyword : What
  -- a number, or a name that is defined as one
  Number : (value : ℕ) → What
  -- a text: the bytes between its quotes
  Text : (format : List ℕ) → What
  Sign : (sign : AnySign) → What
  -- a definition of a name
  Definition : What
  -- a definition of a name that has one already, which has no place in the grammar
  Repeated : What

-- A token with its line.
pub data Item : Type 0 where
  at : (line : ℕ) (what : What) → Item

abbrev pub sign : ℕ → AnySign → Item
sign line s = at line (What.Sign s)

abbrev pub fixed : ℕ → FixedWord → Item
fixed line word = at line (Fixed word)

-- The line of the first of these tokens.
abbrev pub line_at : List Item → ℕ
line_at [] = 0
line_at (at line what ∷ rest) = line

-- ---- words

-- How a word is spelled.
abbrev pub spelling : FixedWord → List ℕ
spelling w.Int = codes "int"
spelling w.Void = codes "void"
spelling w.Static = codes "static"
spelling w.Long = codes "long"
spelling w.If = codes "if"
spelling w.Else = codes "else"
spelling w.While = codes "while"
spelling w.For = codes "for"
spelling w.Return = codes "return"
spelling w.Main = codes "main"
spelling w.Parameter = codes "k"
spelling w.ConditionParameter = codes "c"
spelling w.MutexParameter = codes "m"
spelling w.Null = codes "NULL"
spelling w.IntPointer = codes "intptr_t"
spelling w.Print = codes "printf"
spelling w.Scan = codes "scanf"
spelling w.Thread = codes "pthread_t"
spelling w.Mutex = codes "pthread_mutex_t"
spelling w.Condition = codes "pthread_cond_t"
spelling w.MutexInitializer = codes "PTHREAD_MUTEX_INITIALIZER"
spelling w.ConditionInitializer = codes "PTHREAD_COND_INITIALIZER"
spelling w.Create = codes "pthread_create"
spelling w.Join = codes "pthread_join"
spelling w.InitMutex = codes "pthread_mutex_init"
spelling w.InitCondition = codes "pthread_cond_init"
spelling w.Lock = codes "pthread_mutex_lock"
spelling w.TryLock = codes "pthread_mutex_trylock"
spelling w.Unlock = codes "pthread_mutex_unlock"
spelling w.Wait = codes "pthread_cond_wait"
spelling w.Signal = codes "pthread_cond_signal"
spelling w.Broadcast = codes "pthread_cond_broadcast"
spelling w.Capacities = codes "gd_cap"
spelling w.Take = codes "gd_take"
spelling w.Give = codes "gd_give"
spelling w.ControlledWait = codes "gd_cond_wait"

-- The words that the grammar spells out and that are keywords of C (ISO/IEC 9899:1999, section 6.4.1).
abbrev pub fixed_keywords : List FixedWord
fixed_keywords = w.Int ∷ w.Void ∷ w.Static ∷ w.Long ∷ w.If ∷ w.Else ∷ w.While ∷ w.For ∷ w.Return ∷ []

-- Those that aren't.
abbrev pub fixed_names : List FixedWord
fixed_names =
    w.Main ∷ w.Parameter ∷ w.ConditionParameter ∷ w.MutexParameter ∷ w.Null ∷ w.IntPointer ∷ w.Print ∷ w.Scan ∷ w.Thread ∷ w.Mutex ∷ w.Condition ∷ w.MutexInitializer ∷ w.ConditionInitializer
    ∷ w.Create ∷ w.Join ∷ w.InitMutex ∷ w.InitCondition ∷ w.Lock ∷ w.TryLock ∷ w.Unlock ∷ w.Wait ∷ w.Signal ∷ w.Broadcast
    ∷ w.Capacities ∷ w.Take ∷ w.Give ∷ w.ControlledWait ∷ []

-- The other keywords of C.
abbrev pub other_keywords : List (List ℕ)
other_keywords =
    codes "auto" ∷ codes "break" ∷ codes "case" ∷ codes "char" ∷ codes "const" ∷ codes "continue" ∷ codes "default" ∷ codes "do" ∷ codes "double"
    ∷ codes "enum" ∷ codes "extern" ∷ codes "float" ∷ codes "goto" ∷ codes "inline" ∷ codes "register" ∷ codes "restrict" ∷ codes "short"
    ∷ codes "signed" ∷ codes "sizeof" ∷ codes "struct" ∷ codes "switch" ∷ codes "typedef" ∷ codes "union" ∷ codes "unsigned" ∷ codes "volatile"
    ∷ codes "_Bool" ∷ codes "_Complex" ∷ codes "_Imaginary" ∷ []

abbrev pub is_spelled : List ℕ → FixedWord → Bool
is_spelled name word = bytes_eq (spelling word) name

-- The first of these words that is spelled so, or else this.
abbrev pub word_or : List FixedWord → What → List ℕ → What
word_or [] other name = other
word_or (word ∷ words) other name = if is_spelled name word then Fixed word else word_or words other name

-- A name that isn't defined.
abbrev pub undefined_name : List ℕ → What
undefined_name name = if list_any (bytes_eq name) other_keywords then Keyword else word_or fixed_keywords (word_or fixed_names (Name name) name) name

-- ---- what a token may stand for

abbrev pub is_keyword : FixedWord → Bool
is_keyword word = list_any (is_spelled (spelling word)) fixed_keywords

-- The name that a token is, where it is none of the 37 keywords of C.
abbrev pub name_of : What → Option (List ℕ)
name_of (Name name) = Some name
name_of (Fixed word) = if is_keyword word then None else Some (spelling word)
name_of what = None

-- A name for a scalar or an array outside functions: any but `gd_cap`.
abbrev pub cell_name : What → Option (List ℕ)
cell_name (Fixed w.Capacities) = None
cell_name what = name_of what

-- A name for a function: any but `main`, which has a form of its own.
abbrev pub function_name : What → Option (List ℕ)
function_name (Fixed w.Main) = None
function_name what = name_of what

-- A name that may be called: of those that the grammar spells out only `main` and the parameters `k`, `c` and `m`.
abbrev pub callee : What → Option (List ℕ)
callee (Fixed w.Main) = Some (spelling w.Main)
callee (Fixed w.Parameter) = Some (spelling w.Parameter)
callee (Fixed w.ConditionParameter) = Some (spelling w.ConditionParameter)
callee (Fixed w.MutexParameter) = Some (spelling w.MutexParameter)
callee (Fixed word) = None
callee what = name_of what

-- ---- definitions

-- A name that is defined, and its number.
pub record Defined : Type 0 where
  pub name : List ℕ
  pub value : ℕ

abbrev pub defines : List ℕ → Defined → Bool
defines name d = bytes_eq d.name name

-- The definition of a name, where it has one.
abbrev pub definition_of : List Defined → List ℕ → Option Defined
definition_of defined name = find (defines name) defined

abbrev pub named : List ℕ → Option Defined → What
named name None = undefined_name name
named name (Some d) = Number d.value

-- A definition, of a name that has none yet or has one.
abbrev pub first_or_repeated : Option Defined → What
first_or_repeated None = Definition
first_or_repeated (Some d) = Repeated

-- A text without its quotes.
abbrev pub unquoted : List ℕ → List ℕ
unquoted bytes = take (length bytes - 2) (drop 1 bytes)

-- What a token is after these definitions. A name may be any word, a keyword too.
abbrev pub what_is : List Defined → Kind → List ℕ → What
what_is defined Kind.name bytes = named bytes (definition_of defined bytes)
what_is defined (Kind.number value) bytes = Number value
what_is defined Kind.text bytes = Text (unquoted bytes)
what_is defined (Kind.sign s) bytes = What.Sign s
what_is defined (Kind.define name value) bytes = first_or_repeated (definition_of defined name)

-- The definitions after a token.
abbrev pub defined_by : List Defined → Kind → List Defined
defined_by defined (Kind.define name value) = record { name = name; value = value } ∷ defined
defined_by defined kind = defined

-- The tokens that stand after these definitions.
abbrev pub items : List Defined → List Word → List Item
items defined [] = []
items defined (word ∷ words) = at word.line (what_is defined word.kind word.bytes) ∷ items (defined_by defined word.kind) words

-- The definitions after these tokens.
abbrev pub defined_after : List Defined → List Word → List Defined
defined_after defined [] = defined
defined_after defined (word ∷ words) = defined_after (defined_by defined word.kind) words
