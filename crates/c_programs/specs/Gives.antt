-- What the functions of this crate ensure: what they answer is what a parser over their tokens reads.
use Rattle.std.specs.Prelude.{ℕ, true, false, ◌||◌, List, Result, Option, Some, None}
use denote.Ref.{Bor}
use Rattle.c_tree.specs.declared.program.Program as shown_program
use Rattle.c_tree.specs.Lined.{Program, program_of, function_of}
use Rattle.c_grammar.specs.declared.words.FixedWord.{FixedWord}
use Rattle.c_grammar.specs.declared.words.FixedWord.TheVariants as w
use Rattle.c_grammar.specs.Levels.{Tall}
use Rattle.c_grammar.specs.Declarations.{Defined}
use Rattle.parse_laws.specs.declared.fault.Refusal.{Refusal}
use Rattle.parse_laws.specs.Parser.{Outcome}
use Rattle.c_expressions.specs.declared.token.Marked.{Marked}
use Rattle.c_expressions.specs.declared.token.What.{What}
use Rattle.c_expressions.specs.declared.token.What.TheVariants as marked
use Rattle.c_expressions.specs.declared.tall.Tall as shown
use Rattle.c_expressions.specs.Marked.{item_of}
use Rattle.c_expressions.specs.Gives.{Shows, tall_of}
use Rattle.c_expressions.specs.Parsers.{Sight}
use Rattle.c_declarations.specs.Words.{int_holds}
use Rattle.c_programs.specs.declared.token.Free.{Free}
use Rattle.c_programs.specs.declared.tree.Defined as shown_defined
use Rattle.c_programs.specs.declared.tree.Reading as shown_reading
use Rattle.c_programs.specs.Parsers.{Views, Reading}

-- no word has a definition
abbrev pub all_free : Free
all_free = record {
  int = true;
  long = true;
  int_pointer = true;
  void = true;
  null = true;
  threads = true;
  mutexes = true;
  conditions = true;
  ready_mutexes = true;
  ready_conditions = true;
}

-- with a definition of this word
abbrev pub without : Free → FixedWord → Free
without free w.Int = record free { int = false }
without free w.Long = record free { long = false }
without free w.IntPointer = record free { int_pointer = false }
without free w.Void = record free { void = false }
without free w.Null = record free { null = false }
without free w.Thread = record free { threads = false }
without free w.Mutex = record free { mutexes = false }
without free w.Condition = record free { conditions = false }
without free w.MutexInitializer = record free { ready_mutexes = false }
without free w.ConditionInitializer = record free { ready_conditions = false }
without free _ = free

abbrev pub after_word : Free → Option FixedWord → Free
after_word free None = free
after_word free (Some word) = without free word

abbrev pub after_what : Free → What → Free
after_what free (marked.Definition word) = after_word free word
after_what free _ = free

-- the tokens of a text, where these words have no definition
abbrev pub sight_of : List ℕ → Free → Sight Marked
sight_of text free = record {
  item = item_of text;
  casts = free.long || free.int_pointer;
  void = free.void;
  null = free.null;
  ready_mutexes = free.ready_mutexes;
  ready_conditions = free.ready_conditions;
  threads = free.threads;
  declarations = free.int || free.void || free.threads || free.mutexes || free.conditions;
}

-- how the code sees its tokens
abbrev pub views : List ℕ → Views Marked Free
views text = record { none = all_free; then = λ free token. after_what free token.what; sight = sight_of text; holds = int_holds }

abbrev pub defined_of : shown_defined.Defined → Defined
defined_of f = record { function = function_of f.function; slots = f.slots }

abbrev pub reading_of : shown_reading.Reading → Reading Free
reading_of r = record { defined = r.defined; program = tall_of program_of r.program }

abbrev pub GivesFunction : Result (shown.Tall shown_defined.Defined × Bor (List Marked)) (Refusal Marked) → Outcome Marked (Tall Defined) → Type 0
GivesFunction result o = Shows (tall_of defined_of) result o

abbrev pub GivesProgram : Result (shown.Tall shown_program.Program × Bor (List Marked)) (Refusal Marked) → Outcome Marked (Tall Program) → Type 0
GivesProgram result o = Shows (tall_of program_of) result o

abbrev pub GivesReading : Result (shown_reading.Reading × Bor (List Marked)) (Refusal Marked) → Outcome Marked (Reading Free) → Type 0
GivesReading result o = Shows reading_of result o
