-- Each word takes a state to a state, or to what no command takes.
use Rattle.std.proofs.Common.{◌≡◌, ℕ, Bool, true, false, ◌&&◌, List, [], ◌∷◌, Some, None, Option, is_some, refl, sym, ap, ◌∙◌, codes, subst, bytes_eq}
use Rattle.std.specs.Prelude.{if◌then◌else◌}
use Rattle.clap.specs.declared.builder.value_parser.Reading.TheVariants.{AsWritten}
use Rattle.clap.specs.declared.parser.matches.ValueSource.TheVariants.{CommandLine}
use Rattle.clap.specs.declared.error.kind.ErrorKind.TheVariants as kind
use Rattle.clap.specs.Kinds.{Kinds, or_else}
use Rattle.clap.specs.Lexer.{long_of, short_of}
use Rattle.clap.specs.Walk as walk
use Rattle.clap.specs.Walk.{Held, Row, Text, Waiting, Walk, has_row, settled_rows, walked, plain_word, after_step}
use Rattle.clap.specs.Faults.{settle_fault, turn_fault, step_fault, flag_word_fault}
use Rattle.command_words.specs.Words.{Given, Next, given_as, with_file}
use Rattle.command_words.proofs.ClapApp.{shape, rules, Which, name_of, Looks}
use Rattle.command_words.proofs.ClapStates.{held, at, Shows, State, Doomed, IsFree, GetsNone, Turn, IsBad, given_for, with_value, next_for, setting, bad_value, option_added}
use Rattle.command_words.proofs.ClapTurns.{to_files, file_state, fault_for_files, plain_turn, plain_walked, other_turn, plain_given, strange_given, free_fault, free_walked, shown_next, dashes_fault, dashes_walked, flagged, flag_fault, flag_walked, flag_given, valued, against, with_option, value_fault, value_walked, value_given, after_flag_at, dashes_word}

fault_first : (a b : Kinds) → (a ≡ [] → ⊥) → or_else a b ≡ [] → ⊥
fault_first [] b some none = some refl
fault_first (k ∷ ks) b some none = absurd (cc none)

-- another word than `--` that fails in itself
strange_fails : (rows : List Row) (pending : Option (Text × List Text)) (waiting : Waiting) (word : List ℕ) → bytes_eq word (45 ∷ 45 ∷ []) ≡ false
    → (flag_word_fault rules false (long_of word) word (held rows pending) ≡ [] → ⊥) → turn_fault shape [] (at rows pending waiting false) word ≡ [] → ⊥
strange_fails rows pending waiting word e fails none = fault_first _ _ fails (sym (other_turn rows pending waiting word e) ∙ none)

-- ---- where no option waits

module _ (rows : List Row) (pending : Option (Text × List Text)) (waiting : Waiting) (g : Given) (is_free : IsFree waiting)
    (settles : settle_fault rules false (held rows pending) ≡ []) (shows : Shows (settled_rows rules pending rows) g) (next : g.next ≡ Next.any) where
  abbrev w : Walk
  w = at rows pending waiting false

  -- what is given by the next word
  given : (word : List ℕ) (o : Option Given) → given_as Next.any g word ≡ o → given_as g.next g word ≡ o
  given word o e = ap (λ (n : Next). given_as n g word) next ∙ e

  bad : (word : List ℕ) → given_as Next.any g word ≡ None → IsBad (given_as g.next g word)
  bad word e = subst IsBad (sym (given word None e)) tt

  -- an option with its value, by whether it stands there already
  value_turn : (which : Which) (v : List ℕ) (o : Option (List ℕ)) → given_for which g ≡ o → Turn w g (valued which v)
  value_turn which v None e =
      let rows' = settled_rows rules pending rows in
      let none : has_row (name_of which) rows' ≡ false = shows.has which ∙ ap is_some e in
      Turn.goes (at (with_option which v rows') None walk.idle false) (setting which g v)
      (value_fault which v rows pending waiting ∙ ap (λ (k : Kinds). against k (has_row (name_of which) rows')) settles ∙ ap (λ (b : Bool). against [] b) none)
      (value_walked which v rows pending waiting)
      (given (valued which v) _ (value_given which v g ∙ ap (λ (x : Option (List ℕ)). with_value which x g v) e ∙ set which))
      (State.free (with_option which v rows') None walk.idle (setting which g v) tt refl (option_added AsWritten CommandLine rows' g v shows which e) (any which))
    where
      set : (u : Which) → with_value u None g v ≡ Some (setting u g v)
      set Which.siphons = refl
      set Which.monitors = refl

      any : (u : Which) → (setting u g v).next ≡ Next.any
      any Which.siphons = refl
      any Which.monitors = refl
  value_turn which v (Some before) e =
      let rows' = settled_rows rules pending rows in
      let some : has_row (name_of which) rows' ≡ true = shows.has which ∙ ap is_some e in
      let fault = value_fault which v rows pending waiting ∙ ap (λ (k : Kinds). against k (has_row (name_of which) rows')) settles ∙ ap (λ (b : Bool). against [] b) some in
      Turn.fails (λ none. absurd (cc (sym fault ∙ none)))
      (bad (valued which v) (value_given which v g ∙ ap (λ (x : Option (List ℕ)). with_value which x g v) e ∙ unset which))
    where
      unset : (u : Which) → with_value u (Some before) g v ≡ None
      unset Which.siphons = refl
      unset Which.monitors = refl

  pub free_turn : (word : List ℕ) → Looks word → Turn w g word
  free_turn word (Looks.dashes e) =
      subst (Turn w g) (sym e)
      (Turn.goes (at rows pending waiting true) (record g { next = Next.other }) (dashes_fault rows pending waiting) (dashes_walked rows pending waiting) (given dashes_word _ refl)
      (State.trails rows pending waiting (record g { next = Next.other }) settles (shown_next _ g Next.other shows) refl))
  free_turn word (Looks.plain e o l s) =
      let now = file_state rows pending word g shows in
      Turn.goes (to_files rows pending word false) (with_file g word)
      (plain_turn rows pending waiting word e l s ∙ free_fault rows pending waiting word is_free ∙ fault_for_files rows pending ∙ settles)
      (plain_walked rows pending waiting word e l s ∙ free_walked rows pending waiting word is_free)
      (given word _ (plain_given g word e o))
      (State.free (settled_rows rules pending rows) (Some (codes "files", word ∷ [])) walk.positional (with_file g word) tt now.0 now.1 next)
  free_turn word (Looks.flag which e) =
      subst (Turn w g) (sym e)
      (Turn.goes (after_flag_at which rows pending) (record g { next = next_for which })
      (flag_fault which rows pending waiting ∙ ap (λ (k : Kinds). or_else k []) settles)
      (flag_walked which rows pending waiting)
      (given (flagged which) _ (flag_given which g))
      (State.waits which (settled_rows rules pending rows) (record g { next = next_for which }) (shown_next _ g (next_for which) shows) refl))
  free_turn word (Looks.valued which v e) = subst (Turn w g) (sym e) (value_turn which v (given_for which g) refl)
  free_turn word (Looks.strange rest is e o none fails) =
      Turn.fails (strange_fails rows pending waiting word e (fails rows pending)) (bad word (strange_given g word e o (none g)))

-- ---- where an option waits for its value

pub waits_fault : (which : Which) (rows : List Row) → settle_fault rules false (held rows (Some (name_of which, []))) ≡ [] → ⊥
waits_fault Which.siphons rows none = absurd (cc none)
waits_fault Which.monitors rows none = absurd (cc none)

against_some : (k : Kinds) (b : Bool) → (k ≡ [] → ⊥) → against k b ≡ [] → ⊥
against_some [] b some none = some refl
against_some (x ∷ k) b some none = absurd (cc none)

valued_now : (which : Which) (rows : List Row) (word : List ℕ)
    → settle_fault rules false (held rows (Some (name_of which, word ∷ []))) ≡ or_else (if has_row (name_of which) rows && true then kind.ArgumentConflict ∷ [] else []) []
valued_now Which.siphons rows word = refl
valued_now Which.monitors rows word = refl

rows_now : (which : Which) (rows : List Row) (word : List ℕ) → settled_rows rules (Some (name_of which, word ∷ [])) rows ≡ with_option which word rows
rows_now Which.siphons rows word = refl
rows_now Which.monitors rows word = refl

taken_fault : (which : Which) (rows : List Row) (word : List ℕ)
    → step_fault shape 1 (plain_word rules (walk.option (name_of which)) word (held rows (Some (name_of which, [])))).0 (plain_word rules (walk.option (name_of which)) word (held rows (Some (name_of which, [])))).1 ≡ []
taken_fault Which.siphons rows word = refl
taken_fault Which.monitors rows word = refl

taken_walked : (which : Which) (rows : List Row) (word : List ℕ)
    → after_step rules word (at rows (Some (name_of which, [])) (walk.option (name_of which)) false)
    (plain_word rules (walk.option (name_of which)) word (held rows (Some (name_of which, [])))).0 (plain_word rules (walk.option (name_of which)) word (held rows (Some (name_of which, [])))).1
    ≡ at rows (Some (name_of which, word ∷ [])) walk.idle false
taken_walked Which.siphons rows word = refl
taken_walked Which.monitors rows word = refl

module _ (which : Which) (rows : List Row) (g : Given) (shows : Shows rows g) (next : g.next ≡ next_for which) where
  abbrev pending : Option (Text × List Text)
  pending = Some (name_of which, [])

  abbrev waiting : Waiting
  waiting = walk.option (name_of which)

  -- the next word is the value
  as_value : (word : List ℕ) → given_as g.next g word ≡ with_value which (given_for which g) g word
  as_value word = ap (λ (n : Next). given_as n g word) next ∙ by which
    where
      by : (u : Which) → given_as (next_for u) g word ≡ with_value u (given_for u g) g word
      by Which.siphons = refl
      by Which.monitors = refl

  bad_dash : (word rest : List ℕ) → word ≡ 45 ∷ rest → IsBad (given_as g.next g word)
  bad_dash word rest e = subst IsBad (sym (as_value word)) (subst (λ (x : List ℕ). IsBad (with_value which (given_for which g) g x)) (sym e) (bad_value which (given_for which g) g rest))

  taken_turn : (word : List ℕ) → bytes_eq word (45 ∷ 45 ∷ []) ≡ false → long_of word ≡ None → short_of word ≡ None → (o : Option (List ℕ)) → given_for which g ≡ o
      → Turn (at rows pending waiting false) g word
  taken_turn word e l s None unset =
      let none : has_row (name_of which) rows ≡ false = shows.has which ∙ ap is_some unset in
      Turn.goes (at rows (Some (name_of which, word ∷ [])) walk.idle false) (setting which g word)
      (plain_turn rows pending waiting word e l s ∙ taken_fault which rows word)
      (plain_walked rows pending waiting word e l s ∙ taken_walked which rows word)
      (as_value word ∙ ap (λ (x : Option (List ℕ)). with_value which x g word) unset ∙ set which)
      (State.free rows (Some (name_of which, word ∷ [])) walk.idle (setting which g word) tt
      (valued_now which rows word ∙ ap (λ (b : Bool). or_else (if b && true then kind.ArgumentConflict ∷ [] else []) []) none)
      (subst (λ (rs : List Row). Shows rs (setting which g word)) (sym (rows_now which rows word)) (option_added AsWritten CommandLine rows g word shows which unset))
      (any which))
    where
      set : (u : Which) → with_value u None g word ≡ Some (setting u g word)
      set Which.siphons = refl
      set Which.monitors = refl

      any : (u : Which) → (setting u g word).next ≡ Next.any
      any Which.siphons = refl
      any Which.monitors = refl
  taken_turn word e l s (Some before) there =
      let some : has_row (name_of which) rows ≡ true = shows.has which ∙ ap is_some there in
      let fault = valued_now which rows word ∙ ap (λ (b : Bool). or_else (if b && true then kind.ArgumentConflict ∷ [] else []) []) some in
      Turn.dooms (at rows (Some (name_of which, word ∷ [])) walk.idle false)
      (plain_turn rows pending waiting word e l s ∙ taken_fault which rows word)
      (plain_walked rows pending waiting word e l s ∙ taken_walked which rows word)
      (Doomed.doomed rows (Some (name_of which, word ∷ [])) walk.idle false tt (λ none. absurd (cc (sym fault ∙ none))))
      (subst IsBad (sym (as_value word ∙ ap (λ (x : Option (List ℕ)). with_value which x g word) there ∙ unset which)) tt)
    where
      unset : (u : Which) → with_value u (Some before) g word ≡ None
      unset Which.siphons = refl
      unset Which.monitors = refl

  pub waits_turn : (word : List ℕ) → Looks word → Turn (at rows pending waiting false) g word
  waits_turn word (Looks.dashes e) =
      let bad = bad_dash word (45 ∷ []) e in
      let w = at rows pending waiting false in
      Turn.dooms (at rows pending waiting true)
      (subst (λ (x : List ℕ). turn_fault shape [] w x ≡ []) (sym e) (dashes_fault rows pending waiting))
      (subst (λ (x : List ℕ). walked rules [] w x ≡ at rows pending waiting true) (sym e) (dashes_walked rows pending waiting))
      (Doomed.doomed rows pending waiting true tt (waits_fault which rows)) bad
  waits_turn word (Looks.plain e o l s) = taken_turn word e l s (given_for which g) refl
  waits_turn word (Looks.flag other e) =
      Turn.fails
      (λ none. fault_first _ _ (waits_fault which rows) (sym (flag_fault other rows pending waiting) ∙ subst (λ (x : List ℕ). turn_fault shape [] (at rows pending waiting false) x ≡ []) e none))
      (bad_dash word _ e)
  waits_turn word (Looks.valued other v e) =
      Turn.fails
      (λ none. against_some _ _ (waits_fault which rows) (sym (value_fault other v rows pending waiting) ∙ subst (λ (x : List ℕ). turn_fault shape [] (at rows pending waiting false) x ≡ []) e none))
      (bad_dash word _ e)
  waits_turn word (Looks.strange rest is e o none fails) = Turn.fails (strange_fails rows pending waiting word e (fails rows pending)) (bad_dash word rest is)

-- ---- where the walk is doomed

pub data DoomedTurn (w : Walk) (word : List ℕ) : Type 0 where
  stays : (after : Walk) → walked rules [] w word ≡ after → Doomed after → DoomedTurn w word
  ends : (turn_fault shape [] w word ≡ [] → ⊥) → DoomedTurn w word

free_of : (waiting : Waiting) → GetsNone false waiting → IsFree waiting
free_of waiting gets = gets

pub doomed_turn : (w : Walk) (word : List ℕ) → Doomed w → Looks word → DoomedTurn w word
doomed_turn _ word (Doomed.doomed rows pending waiting true gets fails) is = DoomedTurn.ends (λ none. fails (sym (fault_for_files rows pending) ∙ none))
doomed_turn _ word (Doomed.doomed rows pending waiting false gets fails) (Looks.dashes e) =
    DoomedTurn.stays (at rows pending waiting true)
    (subst (λ (x : List ℕ). walked rules [] (at rows pending waiting false) x ≡ at rows pending waiting true) (sym e) (dashes_walked rows pending waiting))
    (Doomed.doomed rows pending waiting true tt fails)
doomed_turn _ word (Doomed.doomed rows pending waiting false gets fails) (Looks.plain e o l s) =
    DoomedTurn.ends (λ none. fails (sym (plain_turn rows pending waiting word e l s ∙ free_fault rows pending waiting word (free_of waiting gets) ∙ fault_for_files rows pending) ∙ none))
doomed_turn _ word (Doomed.doomed rows pending waiting false gets fails) (Looks.flag which e) =
    DoomedTurn.ends (λ none. fault_first _ _ fails (sym (flag_fault which rows pending waiting) ∙ subst (λ (x : List ℕ). turn_fault shape [] (at rows pending waiting false) x ≡ []) e none))
doomed_turn _ word (Doomed.doomed rows pending waiting false gets fails) (Looks.valued which v e) =
    DoomedTurn.ends (λ none. against_some _ _ fails (sym (value_fault which v rows pending waiting) ∙ subst (λ (x : List ℕ). turn_fault shape [] (at rows pending waiting false) x ≡ []) e none))
doomed_turn _ word (Doomed.doomed rows pending waiting false gets fails) (Looks.strange rest is e o none bad) =
    DoomedTurn.ends (strange_fails rows pending waiting word e (bad rows pending))
