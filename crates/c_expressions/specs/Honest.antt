-- What the flags of a sight say of its tokens.
use Rattle.std.specs.Prelude.{◌≡◌, Bool, true, false}
use Rattle.c_grammar.specs.declared.words.FixedWord.{FixedWord}
use Rattle.c_grammar.specs.declared.words.FixedWord.TheVariants as w
use Rattle.c_grammar.specs.Items.{What}
use Rattle.c_expressions.specs.Parsers.{Sight, seen, is_cast_word}

-- the words that may follow `static` outside functions
abbrev pub declares : FixedWord → Bool
declares w.Int = true
declares w.Void = true
declares w.Thread = true
declares w.Mutex = true
declares w.Condition = true
declares _ = false

-- A token that is seen as a word can come: the word has no definition.
pub record Honest {Token : Type 0} (v : Sight Token) : Type 0 where
  pub casts : (u : Token) → is_cast_word v u ≡ true → v.casts ≡ true
  pub void : (u : Token) → seen v u ≡ What.Fixed w.Void → v.void ≡ true
  pub null : (u : Token) → seen v u ≡ What.Fixed w.Null → v.null ≡ true
  pub ready_mutexes : (u : Token) → seen v u ≡ What.Fixed w.MutexInitializer → v.ready_mutexes ≡ true
  pub ready_conditions : (u : Token) → seen v u ≡ What.Fixed w.ConditionInitializer → v.ready_conditions ≡ true
  pub threads : (u : Token) → seen v u ≡ What.Fixed w.Thread → v.threads ≡ true
  pub declarations : (u : Token) (word : FixedWord) → declares word ≡ true → seen v u ≡ What.Fixed word → v.declarations ≡ true
