-- What tokens stand for in declarations.
use Rattle.std.specs.Prelude.{ℕ, Bool, false, nat_lt, if◌then◌else◌, Option, Some, None}
use denote.Enum.Bare.{sameb}
use Rattle.c_grammar.specs.declared.words.FixedWord.{FixedWord}
use Rattle.c_grammar.specs.contracts.words.FixedWord.{the_type}
use Rattle.c_grammar.specs.declared.words.FixedWord.TheVariants as w
use Rattle.c_grammar.specs.Items.{What, Item, at}
use Rattle.c_declarations.specs.declared.tree.Sort.{Sort}
use Rattle.c_declarations.specs.declared.tree.Sort.TheVariants as sort

unfoldable pub same_word : FixedWord → FixedWord → Bool
same_word = sameb the_type

-- a token is this word of the grammar
abbrev pub is_word : FixedWord → What → Bool
is_word word (What.Fixed found) = same_word word found
is_word word other = false

abbrev pub number_of : What → Option ℕ
number_of (What.Number value) = Some value
number_of other = None

-- a number, if an initial value may be as large
abbrev pub if_held : (ℕ → Bool) → Option ℕ → Option ℕ
if_held holds None = None
if_held holds (Some value) = if holds value then Some value else None

abbrev pub held : (ℕ → Bool) → What → Option ℕ
held holds what = if_held holds (number_of what)

-- the numbers of type `int`
abbrev pub int_holds : ℕ → Bool
int_holds value = nat_lt value 2147483648

abbrev pub line_in : Item → ℕ
line_in (at line what) = line

-- the word before mutexes, and before conditions
abbrev pub type_word : Sort → FixedWord
type_word sort.Mutex = w.Mutex
type_word sort.Condition = w.Condition

-- the word that they begin with
abbrev pub initial_word : Sort → FixedWord
initial_word sort.Mutex = w.MutexInitializer
initial_word sort.Condition = w.ConditionInitializer
