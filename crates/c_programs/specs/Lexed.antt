-- The words of the lexer as the parser sees them, by the definitions before them.
use Rattle.std.specs.Prelude.{Bool, true, ◌||◌, List, [], is_none}
use Rattle.c_lexer.specs.Tokens.{Word}
use Rattle.c_grammar.specs.declared.words.FixedWord.{FixedWord}
use Rattle.c_grammar.specs.declared.words.FixedWord.TheVariants as w
use Rattle.c_grammar.specs.Items.{at, spelling, Defined, definition_of, what_is, defined_by}
use Rattle.c_expressions.specs.Parsers.{Sight}
use Rattle.c_programs.specs.Parsers.{Views}

-- a word that has no definition
abbrev pub free : List Defined → FixedWord → Bool
free defined word = is_none (definition_of defined (spelling word))

abbrev pub word_sight : List Defined → Sight Word
word_sight defined = record {
  item = λ u. at u.line (what_is defined u.kind u.bytes);
  casts = free defined w.Long || free defined w.IntPointer;
  void = free defined w.Void;
  null = free defined w.Null;
  ready_mutexes = free defined w.MutexInitializer;
  ready_conditions = free defined w.ConditionInitializer;
  threads = free defined w.Thread;
  declarations = free defined w.Int || (free defined w.Void || (free defined w.Thread || (free defined w.Mutex || free defined w.Condition)));
}

-- where first values are any numbers
abbrev pub word_views : Views Word (List Defined)
word_views = record { none = []; then = λ defined u. defined_by defined u.kind; sight = word_sight; holds = λ value. true }
