-- What the parser of programs asks of the lexer's words, whatever is defined.
use Rattle.std.proofs.Common.{◌≡◌, ℕ, List, [], refl}
use Rattle.c_lexer.specs.Tokens.{Word}
use Rattle.c_grammar.specs.declared.words.FixedWord.TheVariants as w
use Rattle.c_lexer.specs.Pieces.{Kind}
use Rattle.c_grammar.specs.Items.{What, Defined, spelling}
use Rattle.c_expressions.proofs.Words.{Words, SeenAs}
use Rattle.c_expressions.proofs.LexerWords.{lexer_words}
use Rattle.c_declarations.proofs.Viable.{CapacityWords}
use Rattle.c_statements.proofs.ViableBodies.{body_viable, slot_list_viable}
use Rattle.c_programs.specs.Lexed.{word_sight, word_views}
use Rattle.c_programs.proofs.RunningWords.{words_seen}
use Rattle.c_programs.proofs.Viable.{Offers}

abbrev pub words_of : (defined : List Defined) → Words (word_sight defined)
words_of defined = lexer_words defined (word_sight defined) (words_seen defined)

word : Kind → List ℕ → Word
word kind bytes = record { kind = kind; bytes = bytes; line = 1 }

nought : (defined : List Defined) → SeenAs (word_sight defined) (λ a. a ≡ What.Number 0)
unfolding word
nought defined = (word (Kind.number 0) [], refl)

pub word_offers : (defined : List Defined) → Offers (word_sight defined) word_views.holds
word_offers defined = record {
  words = words_of defined;
  value_holds = refl;
  bodies = λ kind r lt. body_viable (word_sight defined) (words_of defined) (nought defined) kind r lt;
  slots = λ ends r. slot_list_viable (word_sight defined) (words_of defined) {r = r} {ends = ends};
}

-- where nothing is defined, the words of the capacities can come
pub word_capacities : CapacityWords (word_sight []) (words_of [])
unfolding word
word_capacities = (
  (word Kind.name (spelling w.Void), refl),
  (word Kind.name (spelling w.Int), refl),
  (word Kind.name (spelling w.Parameter), refl),
  (word Kind.name (spelling w.Take), refl),
  (word Kind.name (spelling w.Give), refl),
  (word Kind.name (spelling w.ControlledWait), refl),
  (word Kind.name (spelling w.Condition), refl),
  (word Kind.name (spelling w.ConditionParameter), refl),
  (word Kind.name (spelling w.Mutex), refl),
  (word Kind.name (spelling w.MutexParameter), refl),
)
