-- The words of the lexer are enough to complete texts with, whatever is defined.
use Rattle.std.proofs.Common.{◌≡◌, ℕ, ◌<◌, max, Bool, true, false, ◌||◌, List, [], ◌∷◌, length, replicate, cond, codes, bytes_eq, Option, Some, None, is_none, refl, ap, ◌∙◌, arith}
use Rattle.std.proofs.lemmas.List.{length-replicate}
use Rattle.std.proofs.lemmas.Slice.Eq.{bytes_eq-Decides}
use Rattle.c_lexer.specs.Pieces.{Kind}
use Rattle.c_lexer.specs.Tokens.{Word}
use Rattle.c_grammar.specs.declared.words.FixedWord.{FixedWord}
use Rattle.c_grammar.specs.declared.words.FixedWord.TheVariants as w
use Rattle.c_grammar.specs.Items.{What, at, spelling, Defined, definition_of, named, undefined_name, what_is}
use Rattle.c_expressions.specs.Words.{inner}
use Rattle.c_expressions.specs.Parsers.{Sight, seen, what_at, is_cast_inner}
use Rattle.c_expressions.proofs.Words.{SeenAs, begins_declaration, Words}

-- a word that has no definition
abbrev pub free : List Defined → FixedWord → Bool
free defined word = is_none (definition_of defined (spelling word))

-- The lexer's words are seen by these definitions, and no flag is set without a reason.
pub record Sees (defined : List Defined) (v : Sight Word) : Type 0 where
  pub items : (u : Word) → v.item u ≡ at u.line (what_is defined u.kind u.bytes)
  pub casts : v.casts ≡ true → free defined w.Long || free defined w.IntPointer ≡ true
  pub void : v.void ≡ true → free defined w.Void ≡ true
  pub null : v.null ≡ true → free defined w.Null ≡ true
  pub ready_mutexes : v.ready_mutexes ≡ true → free defined w.MutexInitializer ≡ true
  pub ready_conditions : v.ready_conditions ≡ true → free defined w.ConditionInitializer ≡ true
  pub threads : v.threads ≡ true → free defined w.Thread ≡ true
  pub declarations : v.declarations ≡ true → free defined w.Int || (free defined w.Void || (free defined w.Thread || (free defined w.Mutex || free defined w.Condition))) ≡ true

-- ---- a name that has no definition: longer than all that have one

abbrev longest : List Defined → ℕ
longest [] = 0
longest (d ∷ defined) = max (length d.name) (longest defined)

-- `Z`, and as many more: no word of the grammar begins so
abbrev fresh : List Defined → List ℕ
fresh defined = 90 ∷ replicate (longest defined) 90

none_longer : (defined : List Defined) (name : List ℕ) → longest defined < length name → definition_of defined name ≡ None
none_longer [] name lt = refl
none_longer (d ∷ defined) name lt = go (bytes_eq d.name name) refl (none_longer defined name (omega (arith, lt)))
  where
    go : (b : Bool) → bytes_eq d.name name ≡ b → definition_of defined name ≡ None → cond b (Some d) (definition_of defined name) ≡ None
    go true e h = let same = (bytes_eq-Decides d.name name).0 e in absurd (omega (arith, lt, ap length same))
    go false e h = h

fresh_undefined : (defined : List Defined) → definition_of defined (fresh defined) ≡ None
fresh_undefined defined = none_longer defined (fresh defined) (omega (arith, length-replicate {A = ℕ} (longest defined) 90))

fresh_name : (rest : List ℕ) → undefined_name (90 ∷ rest) ≡ What.Name (90 ∷ rest)
fresh_name rest = refl

-- ---- words

word : Kind → List ℕ → Word
word kind bytes = record { kind = kind; bytes = bytes; line = 1 }

module _ (defined : List Defined) (v : Sight Word) (sees : Sees defined v) where
  unfolding_seen : (kind : Kind) (bytes : List ℕ) → seen v (word kind bytes) ≡ what_is defined kind bytes
  unfolding word
  unfolding_seen kind bytes = ap what_at (sees.items (word kind bytes))

  -- a word of the grammar, if it has no definition
  fixed_seen : (x : FixedWord) → undefined_name (spelling x) ≡ What.Fixed x → free defined x ≡ true → seen v (word Kind.name (spelling x)) ≡ What.Fixed x
  fixed_seen x e f = unfolding_seen Kind.name (spelling x) ∙ go (definition_of defined (spelling x)) f
    where
      go : (o : Option Defined) → is_none o ≡ true → named (spelling x) o ≡ What.Fixed x
      go None f = e
      go (Some d) f = absurd cc

  either : (P : What → Bool) (x : FixedWord) (b : Bool) → undefined_name (spelling x) ≡ What.Fixed x → P (What.Fixed x) ≡ true → free defined x || b ≡ true → (b ≡ true → SeenAs v (λ a. P a ≡ true)) → SeenAs v (λ a. P a ≡ true)
  either P x b e y f other = go (free defined x) refl f
    where
      go : (c : Bool) → free defined x ≡ c → c || b ≡ true → SeenAs v (λ a. P a ≡ true)
      go true d f = (word Kind.name (spelling x), ap P (fixed_seen x e d) ∙ y)
      go false d f = other f

  last : (P : What → Bool) (x : FixedWord) → undefined_name (spelling x) ≡ What.Fixed x → P (What.Fixed x) ≡ true → free defined x ≡ true → SeenAs v (λ a. P a ≡ true)
  last P x e y f = (word Kind.name (spelling x), ap P (fixed_seen x e f) ∙ y)

  exactly : (x : FixedWord) → undefined_name (spelling x) ≡ What.Fixed x → free defined x ≡ true → SeenAs v (λ a. a ≡ What.Fixed x)
  exactly x e f = (word Kind.name (spelling x), fixed_seen x e f)

  pub lexer_words : Words v
  lexer_words = record {
    sign = λ x. word (Kind.sign x) [];
    sign_is = λ x. unfolding_seen (Kind.sign x) [];
    name = word Kind.name (fresh defined);
    letters = fresh defined;
    name_is = unfolding_seen Kind.name (fresh defined) ∙ rw (fresh_undefined defined) (fresh_name (replicate (longest defined) 90));
    number = word (Kind.number 0) [];
    value = 0;
    number_is = unfolding_seen (Kind.number 0) [];
    one = word (Kind.number 1) [];
    one_is = unfolding_seen (Kind.number 1) [];
    format = word Kind.text (codes "\"%d\"");
    format_is = unfolding_seen Kind.text (codes "\"%d\"");
    cast = λ e. either (λ a. is_cast_inner (inner a)) w.Long (free defined w.IntPointer) refl refl (sees.casts e) (λ f. last (λ a. is_cast_inner (inner a)) w.IntPointer refl refl f);
    void = λ e. exactly w.Void refl (sees.void e);
    null = λ e. exactly w.Null refl (sees.null e);
    ready_mutex = λ e. exactly w.MutexInitializer refl (sees.ready_mutexes e);
    ready_condition = λ e. exactly w.ConditionInitializer refl (sees.ready_conditions e);
    thread = λ e. exactly w.Thread refl (sees.threads e);
    declaration = λ e. either begins_declaration w.Int (free defined w.Void || (free defined w.Thread || (free defined w.Mutex || free defined w.Condition))) refl refl (sees.declarations e)
        (λ f. either begins_declaration w.Void (free defined w.Thread || (free defined w.Mutex || free defined w.Condition)) refl refl f
        (λ f. either begins_declaration w.Thread (free defined w.Mutex || free defined w.Condition) refl refl f (λ f. either begins_declaration w.Mutex (free defined w.Condition) refl refl f (λ f. last begins_declaration w.Condition refl refl f))));
  }
