-- What is put into a table of names is found there.
use Rattle.std.proofs.Common.{◌≡◌, ℕ, ◌+◌, ◌<◌, Bool, true, false, cond, ◌||◌, List, [], ◌∷◌, length, get_or, drop, bytes_eq, Option, Some, None, refl, sym, ap, subst, ◌∙◌}
use Rattle.std.specs.HashMap.{HashMap, UpdatesBy}
use Rattle.std.specs.List.{list_any}
use Rattle.std.proofs.lemmas.List.{drop_more}
use Rattle.std.proofs.lemmas.Map.Text.{hash_map_updates_str}
use Rattle.std.proofs.lemmas.Slice.Eq.{bytes_eq-Decides}
use denote.Ref.{Bor}
use Rattle.c_grammar.specs.declared.words.FixedWord.{FixedWord}
use Rattle.c_grammar.specs.declared.words.FixedWord.TheVariants as w
use Rattle.c_grammar.specs.Items.{What, spelling, is_spelled, word_or, other_keywords, fixed_keywords, fixed_names, undefined_name, Defined, definition_of, named, first_or_repeated}
use Rattle.c_expressions.specs.declared.token.What as declared
use Rattle.c_expressions.specs.declared.token.What.TheVariants as marked
use Rattle.c_expressions.specs.Marked.{what_of}
use Rattle.c_tokens.specs.Known.{found, latest, latest_keyword, texts, others, mark, told, Knows}
use Rattle.c_tokens.specs.Marks.{word_of}

abbrev pub Table : Type 0 → Type 0
Table S = HashMap (Bor (List ℕ)) declared.What S

-- the same bytes
abbrev pub alike : Bor (List ℕ) → Bor (List ℕ) → Bool
alike x y = bytes_eq x.now y.now

module _ {S : Type 0} where
  -- after an insert
  pub found_after : (old new : Table S) (key : List ℕ) (what : declared.What) → UpdatesBy alike (λ k. bytes_eq key k.now) old new (Some what) → (name : List ℕ) → found new name ≡ cond (bytes_eq key name) (Some what) (found old name)
  found_after old new key what h name = hash_map_updates_str key old new (Some what) h name

  -- one more word of a table
  pub put_word : (words : List FixedWord) (i : ℕ) (d : FixedWord) (old new : Table S) (key : List ℕ) → i < length words → key ≡ spelling (get_or words i d)
      → UpdatesBy alike (λ k. bytes_eq key k.now) old new (Some (marked.Fixed (get_or words i d))) → (name : List ℕ) → latest (drop (i + 1) words) (found new name) name ≡ latest (drop i words) (found old name) name
  put_word words i d old new key lt e h name = rw (drop_more words i d lt, found_after old new key (marked.Fixed (get_or words i d)) h name, e) refl

  pub put_keyword : (words : List (Bor (List ℕ))) (i : ℕ) (d : Bor (List ℕ)) (old new : Table S) → i < length words
      → UpdatesBy alike (λ k. bytes_eq (get_or words i d).now k.now) old new (Some marked.Keyword) → (name : List ℕ) → latest_keyword (texts (drop (i + 1) words)) (found new name) name ≡ latest_keyword (texts (drop i words)) (found old name) name
  put_keyword words i d old new lt h name = rw (drop_more words i d lt, found_after old new (get_or words i d).now marked.Keyword h name) refl

-- ---- what is known before any definition

-- the words of the grammar, in the order in which they are put
abbrev pub names_table : List FixedWord
names_table =
    w.ControlledWait ∷ w.Give ∷ w.Take ∷ w.Capacities ∷ w.Broadcast ∷ w.Signal ∷ w.Wait ∷ w.Unlock ∷ w.TryLock ∷ w.Lock ∷ w.InitCondition ∷ w.InitMutex ∷ w.Join ∷ w.Create
    ∷ w.ConditionInitializer ∷ w.MutexInitializer ∷ w.Condition ∷ w.Mutex ∷ w.Thread ∷ w.Scan ∷ w.Print ∷ w.IntPointer ∷ w.Null ∷ w.MutexParameter ∷ w.ConditionParameter
    ∷ w.Parameter ∷ w.Main ∷ []

abbrev pub keywords_table : List FixedWord
keywords_table = w.Return ∷ w.For ∷ w.While ∷ w.Else ∷ w.If ∷ w.Long ∷ w.Static ∷ w.Void ∷ w.Int ∷ []

-- the first of these words that is spelled so
abbrev earliest : List FixedWord → Option declared.What → List ℕ → Option declared.What
earliest [] other name = other
earliest (word ∷ words) other name = cond (is_spelled name word) (Some (marked.Fixed word)) (earliest words other name)

marked_either : (b : Bool) (word : FixedWord) (a : What) → mark (cond b (What.Fixed word) a) ≡ cond b (Some (marked.Fixed word)) (mark a)
marked_either true word a = refl
marked_either false word a = refl

mark_words : (words : List FixedWord) (other : What) (name : List ℕ) → mark (word_or words other name) ≡ earliest words (mark other) name
mark_words [] other name = refl
mark_words (word ∷ words) other name =
    marked_either (is_spelled name word) word (word_or words other name) ∙ ap (λ (x : Option declared.What). cond (is_spelled name word) (Some (marked.Fixed word)) x) (mark_words words other name)

marked_other : (b : Bool) (a : What) → mark (cond b What.Keyword a) ≡ cond b (Some marked.Keyword) (mark a)
marked_other true a = refl
marked_other false a = refl

-- bytes compare alike either way
either_way : (a b : List ℕ) → bytes_eq a b ≡ bytes_eq b a
either_way a b = go (bytes_eq a b) (bytes_eq b a) refl refl
  where
    go : (x y : Bool) → bytes_eq a b ≡ x → bytes_eq b a ≡ y → bytes_eq a b ≡ bytes_eq b a
    go true true e f = e ∙ sym f
    go false false e f = e ∙ sym f
    go true false e f = e ∙ sym ((bytes_eq-Decides b a).1 (sym ((bytes_eq-Decides a b).0 e)))
    go false true e f = (bytes_eq-Decides a b).1 (sym ((bytes_eq-Decides b a).0 f)) ∙ sym f

-- the first of these keywords
abbrev first_keyword : List (List ℕ) → Option declared.What → List ℕ → Option declared.What
first_keyword [] before name = before
first_keyword (word ∷ words) before name = cond (bytes_eq word name) (Some marked.Keyword) (first_keyword words before name)

any_keyword : (words : List (List ℕ)) (before : Option declared.What) (name : List ℕ) → first_keyword words before name ≡ cond (list_any (bytes_eq name) words) (Some marked.Keyword) before
any_keyword [] before name = refl
any_keyword (word ∷ words) before name = rw (either_way word name, any_keyword words before name) (go (bytes_eq name word) (list_any (bytes_eq name) words))
  where
    go : (b c : Bool) → cond b (Some marked.Keyword) (cond c (Some marked.Keyword) before) ≡ cond (b || c) (Some marked.Keyword) before
    go true c = refl
    go false c = refl

-- the other keywords, in the order in which they are put
others_known : (before : Option declared.What) (name : List ℕ) → latest_keyword others before name ≡ cond (list_any (bytes_eq name) other_keywords) (Some marked.Keyword) before
others_known before name = in_order ∙ any_keyword other_keywords before name
  where
    in_order : latest_keyword others before name ≡ first_keyword other_keywords before name
    in_order = refl

-- all words, put into an empty table
pub words_known : (name : List ℕ) → latest_keyword others (latest keywords_table (latest names_table None name) name) name ≡ mark (undefined_name name)
words_known name = others_known (latest keywords_table (latest names_table None name) name) name ∙ sym (
    marked_other (list_any (bytes_eq name) other_keywords) (word_or fixed_keywords (word_or fixed_names (What.Name name) name) name)
    ∙ ap (λ (x : Option declared.What). cond (list_any (bytes_eq name) other_keywords) (Some marked.Keyword) x)
    (mark_words fixed_keywords (word_or fixed_names (What.Name name) name) name ∙ ap (λ (x : Option declared.What). earliest fixed_keywords x name) (mark_words fixed_names (What.Name name) name))
    )

-- ---- names and definitions

-- a name that a mark or its place gives
abbrev marked_or : Option declared.What → declared.What → declared.What
marked_or None other = other
marked_or (Some what) other = what

-- a token of this kind says what the name is
abbrev Says : List ℕ → declared.What → List ℕ → What → Type 0
Says text plain name what = what_of text (marked_or (mark what) plain) ≡ what

-- a name that isn't defined is a keyword, a word, or plain
shaped_either : (P : What → Type 0) {x y : What} (b : Bool) → P x → P y → P (cond b x y)
shaped_either P true h k = h
shaped_either P false h k = k

shaped_words : (P : What → Type 0) → ((word : FixedWord) → P (What.Fixed word)) → (name : List ℕ) (words : List FixedWord) (other : What) → P other → P (word_or words other name)
shaped_words P f name [] other h = h
shaped_words P f name (word ∷ words) other h = shaped_either P (is_spelled name word) (f word) (shaped_words P f name words other h)

pub shaped_undefined : (P : What → Type 0) → P What.Keyword → ((word : FixedWord) → P (What.Fixed word)) → (name : List ℕ) → P (What.Name name) → P (undefined_name name)
shaped_undefined P k f name h =
    shaped_either P (list_any (bytes_eq name) other_keywords) k (shaped_words P f name fixed_keywords (word_or fixed_names (What.Name name) name) (shaped_words P f name fixed_names (What.Name name) h))

says_undefined : (text : List ℕ) (plain : declared.What) (name : List ℕ) → what_of text plain ≡ What.Name name → Says text plain name (undefined_name name)
says_undefined text plain name h = shaped_undefined (Says text plain name) refl (λ word. refl) name h

-- what a definition is
pub definition_told : (text name : List ℕ) (d : Option Defined)
    → (what_of text (told (mark (named name d))) ≡ first_or_repeated d) × (d ≡ None → told (mark (named name d)) ≡ marked.Definition (word_of (undefined_name name)))
definition_told text name (Some d) = (refl, λ e. absurd cc)
definition_told text name None = (
  shaped_undefined (λ a. what_of text (told (mark a)) ≡ What.Definition) refl (λ word. refl) name refl,
  λ e. shaped_undefined (λ a. told (mark a) ≡ marked.Definition (word_of a)) refl (λ word. refl) name refl,
)

pub says_named : (text : List ℕ) (plain : declared.What) (name : List ℕ) (d : Option Defined) → what_of text plain ≡ What.Name name → Says text plain name (named name d)
says_named text plain name None h = says_undefined text plain name h
says_named text plain name (Some d) h = refl

module _ {S : Type 0} where
  -- a name that is found
  pub name_found : (text : List ℕ) (known : Table S) (defined : List Defined) (name : List ℕ) (plain what : declared.What) → Knows known defined → found known name ≡ Some what → what_of text plain ≡ What.Name name
      → what_of text what ≡ named name (definition_of defined name)
  name_found text known defined name plain what h e p =
      let m : mark (named name (definition_of defined name)) ≡ Some what = sym (h name) ∙ e in
      subst (λ (x : Option declared.What). what_of text (marked_or x plain) ≡ named name (definition_of defined name)) m (says_named text plain name (definition_of defined name) p)

  -- and one that isn't
  pub name_plain : (text : List ℕ) (known : Table S) (defined : List Defined) (name : List ℕ) (plain : declared.What) → Knows known defined → found known name ≡ None → what_of text plain ≡ What.Name name
      → what_of text plain ≡ named name (definition_of defined name)
  name_plain text known defined name plain h e p =
      let m : mark (named name (definition_of defined name)) ≡ None = sym (h name) ∙ e in
      subst (λ (x : Option declared.What). what_of text (marked_or x plain) ≡ named name (definition_of defined name)) m (says_named text plain name (definition_of defined name) p)

  -- one more definition
  pub defines_more : (old new : Table S) (defined : List Defined) (name : List ℕ) (value : ℕ) → Knows old defined → UpdatesBy alike (λ k. bytes_eq name k.now) old new (Some (marked.Number value)) → Knows new (record { name = name; value = value } ∷ defined)
  defines_more old new defined name value h u = λ other. found_after old new name (marked.Number value) u other ∙ go other (bytes_eq name other) refl
    where
      go : (other : List ℕ) (b : Bool) → bytes_eq name other ≡ b → cond b (Some (marked.Number value)) (found old other) ≡ mark (named other (cond b (Some (record { name = name; value = value })) (definition_of defined other)))
      go other true e = refl
      go other false e = h other

pub found_empty : {S : Type 0} (known : Table S) (name : List ℕ) → known.entries ≡ [] → found known name ≡ None
found_empty known name e = rw e refl

-- what was known of a name makes its definition
module _ {S : Type 0} where
  pub told_before : (text : List ℕ) (old : Table S) (defined : List Defined) (name : List ℕ) (before : Option declared.What) → Knows old defined → before ≡ found old name
      → (what_of text (told before) ≡ first_or_repeated (definition_of defined name)) × (definition_of defined name ≡ None → told before ≡ marked.Definition (word_of (undefined_name name)))
  told_before text old defined name before h e = rw (e, h name) (definition_told text name (definition_of defined name))
