-- What the parser of a text is told of the words that definitions take away is what the definitions say.
use Rattle.std.proofs.Common.{◌≡◌, ℕ, Bool, true, false, cond, List, ◌∷◌, bytes_eq, Option, Some, None, is_none, refl, sym, ap, ◌∙◌}
use Rattle.std.proofs.lemmas.Slice.Eq.{bytes_eq-Decides}
use Rattle.c_grammar.specs.declared.words.FixedWord.{FixedWord}
use Rattle.c_grammar.specs.declared.words.FixedWord.TheVariants as w
use Rattle.c_grammar.specs.Items.{What, spelling, undefined_name, Defined, definition_of}
use Rattle.c_expressions.specs.declared.token.What.TheVariants as marked
use Rattle.c_programs.specs.declared.token.Free.{Free}
use Rattle.c_programs.specs.Lexed.{free}
use Rattle.c_programs.specs.Gives.{after_word, after_what}
use Rattle.c_programs.proofs.WordHonest.{spelled_so}
use Rattle.c_tokens.specs.Marks.{word_of}

-- the words that these definitions leave
abbrev pub left_by : List Defined → Free
left_by d = record {
  int = free d w.Int;
  long = free d w.Long;
  int_pointer = free d w.IntPointer;
  void = free d w.Void;
  null = free d w.Null;
  threads = free d w.Thread;
  mutexes = free d w.Mutex;
  conditions = free d w.Condition;
  ready_mutexes = free d w.MutexInitializer;
  ready_conditions = free d w.ConditionInitializer;
}

-- one more definition
module _ (d : List Defined) (name : List ℕ) (value : ℕ) where
  abbrev more : List Defined
  more = record { name = name; value = value } ∷ d

  abbrev taken : Option FixedWord
  taken = word_of (undefined_name name)

  word_is : (x : FixedWord) (a : What) → word_of a ≡ Some x → a ≡ What.Fixed x
  word_is x (What.Fixed y) e = let same : y ≡ x = cc in ap What.Fixed same
  word_is x _ e = absurd cc

  -- the word that it takes away is spelled as its name
  spelled : (x : FixedWord) → taken ≡ Some x → spelling x ≡ name
  spelled x e = (bytes_eq-Decides (spelling x) name).0 (spelled_so name x (word_is x (undefined_name name) e))

  -- a word of another name stays as it was, and this one is gone
  free_by : (x : FixedWord) (kept : Bool) → undefined_name (spelling x) ≡ What.Fixed x → (taken ≡ Some x → kept ≡ false) → ((taken ≡ Some x → ⊥) → kept ≡ free d x) → kept ≡ free more x
  free_by x kept u gone same = go (bytes_eq name (spelling x)) refl
    where
      go : (b : Bool) → bytes_eq name (spelling x) ≡ b → kept ≡ is_none (cond b (Some (record { name = name; value = value })) (definition_of d (spelling x)))
      go true e = let n : name ≡ spelling x = (bytes_eq-Decides name (spelling x)).0 e in gone (ap (λ (n : List ℕ). word_of (undefined_name n)) n ∙ ap word_of u)
      go false e = same (λ t. let b : bytes_eq name (spelling x) ≡ true = (bytes_eq-Decides name (spelling x)).1 (sym (spelled x t)) in absurd cc)

-- what a word takes away from words that are free
module _ (f : Free) where
  int_gone : (o : Option FixedWord) → o ≡ Some w.Int → (after_word f o).int ≡ false
  int_gone o e = rw e refl

  int_kept : (o : Option FixedWord) → (o ≡ Some w.Int → ⊥) → (after_word f o).int ≡ f.int
  int_kept None n = refl
  int_kept (Some w.Int) n = absurd (n refl)
  int_kept (Some _) n = refl

  long_kept : (o : Option FixedWord) → (o ≡ Some w.Long → ⊥) → (after_word f o).long ≡ f.long
  long_kept None n = refl
  long_kept (Some w.Long) n = absurd (n refl)
  long_kept (Some _) n = refl

  int_pointer_kept : (o : Option FixedWord) → (o ≡ Some w.IntPointer → ⊥) → (after_word f o).int_pointer ≡ f.int_pointer
  int_pointer_kept None n = refl
  int_pointer_kept (Some w.IntPointer) n = absurd (n refl)
  int_pointer_kept (Some _) n = refl

  void_kept : (o : Option FixedWord) → (o ≡ Some w.Void → ⊥) → (after_word f o).void ≡ f.void
  void_kept None n = refl
  void_kept (Some w.Void) n = absurd (n refl)
  void_kept (Some _) n = refl

  null_kept : (o : Option FixedWord) → (o ≡ Some w.Null → ⊥) → (after_word f o).null ≡ f.null
  null_kept None n = refl
  null_kept (Some w.Null) n = absurd (n refl)
  null_kept (Some _) n = refl

  threads_kept : (o : Option FixedWord) → (o ≡ Some w.Thread → ⊥) → (after_word f o).threads ≡ f.threads
  threads_kept None n = refl
  threads_kept (Some w.Thread) n = absurd (n refl)
  threads_kept (Some _) n = refl

  mutexes_kept : (o : Option FixedWord) → (o ≡ Some w.Mutex → ⊥) → (after_word f o).mutexes ≡ f.mutexes
  mutexes_kept None n = refl
  mutexes_kept (Some w.Mutex) n = absurd (n refl)
  mutexes_kept (Some _) n = refl

  conditions_kept : (o : Option FixedWord) → (o ≡ Some w.Condition → ⊥) → (after_word f o).conditions ≡ f.conditions
  conditions_kept None n = refl
  conditions_kept (Some w.Condition) n = absurd (n refl)
  conditions_kept (Some _) n = refl

  ready_mutexes_kept : (o : Option FixedWord) → (o ≡ Some w.MutexInitializer → ⊥) → (after_word f o).ready_mutexes ≡ f.ready_mutexes
  ready_mutexes_kept None n = refl
  ready_mutexes_kept (Some w.MutexInitializer) n = absurd (n refl)
  ready_mutexes_kept (Some _) n = refl

  ready_conditions_kept : (o : Option FixedWord) → (o ≡ Some w.ConditionInitializer → ⊥) → (after_word f o).ready_conditions ≡ f.ready_conditions
  ready_conditions_kept None n = refl
  ready_conditions_kept (Some w.ConditionInitializer) n = absurd (n refl)
  ready_conditions_kept (Some _) n = refl

same_words : (f g : Free) → f.int ≡ g.int → f.long ≡ g.long → f.int_pointer ≡ g.int_pointer → f.void ≡ g.void → f.null ≡ g.null → f.threads ≡ g.threads → f.mutexes ≡ g.mutexes → f.conditions ≡ g.conditions
    → f.ready_mutexes ≡ g.ready_mutexes → f.ready_conditions ≡ g.ready_conditions → f ≡ g
same_words f g a b c d e h i j k l = rw (a, b, c, d, e, h, i, j, k, l) refl

-- after the first definition of a name
pub left_after : (d : List Defined) (name : List ℕ) (value : ℕ) → after_what (left_by d) (marked.Definition (word_of (undefined_name name))) ≡ left_by (record { name = name; value = value } ∷ d)
left_after d name value =
    same_words (after_word (left_by d) (taken d name value)) (left_by (more d name value))
    (one w.Int (after.int) refl (λ e. rw e refl) (int_kept (left_by d) (taken d name value)))
    (one w.Long (after.long) refl (λ e. rw e refl) (long_kept (left_by d) (taken d name value)))
    (one w.IntPointer (after.int_pointer) refl (λ e. rw e refl) (int_pointer_kept (left_by d) (taken d name value)))
    (one w.Void (after.void) refl (λ e. rw e refl) (void_kept (left_by d) (taken d name value)))
    (one w.Null (after.null) refl (λ e. rw e refl) (null_kept (left_by d) (taken d name value)))
    (one w.Thread (after.threads) refl (λ e. rw e refl) (threads_kept (left_by d) (taken d name value)))
    (one w.Mutex (after.mutexes) refl (λ e. rw e refl) (mutexes_kept (left_by d) (taken d name value)))
    (one w.Condition (after.conditions) refl (λ e. rw e refl) (conditions_kept (left_by d) (taken d name value)))
    (one w.MutexInitializer (after.ready_mutexes) refl (λ e. rw e refl) (ready_mutexes_kept (left_by d) (taken d name value)))
    (one w.ConditionInitializer (after.ready_conditions) refl (λ e. rw e refl) (ready_conditions_kept (left_by d) (taken d name value)))
  where
    after : Free
    after = after_word (left_by d) (taken d name value)

    one : (x : FixedWord) (kept : Bool) → undefined_name (spelling x) ≡ What.Fixed x → (taken d name value ≡ Some x → kept ≡ false) → ((taken d name value ≡ Some x → ⊥) → kept ≡ free d x) → kept ≡ free (more d name value) x
    one x kept u gone same = free_by d name value x kept u gone same
