-- What one more word does, to clap's walk and to what the words give.
use Rattle.std.proofs.Common.{◌≡◌, ℕ, Bool, true, false, ◌&&◌, List, [], ◌∷◌, ◌++◌, Some, None, Option, is_some, refl, ap, ◌∙◌, codes, bytes_eq}
use Rattle.std.specs.Prelude.{if◌then◌else◌}
use Rattle.std.specs.Option.{option_map_or}
use Rattle.clap.specs.declared.builder.value_parser.Reading.TheVariants.{AsWritten}
use Rattle.clap.specs.declared.parser.matches.ValueSource.TheVariants.{CommandLine}
use Rattle.clap.specs.declared.error.kind.ErrorKind.TheVariants as kind
use Rattle.clap.specs.Kinds.{Kinds, or_else}
use Rattle.clap.specs.Lexer.{long_of, short_of}
use Rattle.clap.specs.Simple.{filled, with_index}
use Rattle.clap.specs.Walk as walk
use Rattle.clap.specs.Walk.{Held, Row, Rule, Step, Text, Waiting, Walk, with_values, without, has_row, settled, settled_rows, used, walked, is_pending, positional_held, to_positional, after_step, subcommand_met, subcommand_or_other, long_or_other, short_or_plain, plain_word, arg_by_index}
use Rattle.clap.specs.Faults.{settle_fault, turn_fault, other_fault, step_fault, positional_fault, flag_word_fault, bundle_fault}
use Rattle.command_words.specs.Behind.{files_rule}
use Rattle.command_words.specs.Words.{Given, Next, given_as, with_file, is_other, option_given}
use Rattle.command_words.proofs.ClapApp.{shape, rules, Which, name_of}
use Rattle.command_words.proofs.ClapRows.{listed}
use Rattle.command_words.proofs.ClapStates.{held, at, values, Shows, State, IsFree, Turn, given_for, with_value, next_for, file_added}

and_false : (b : Bool) → (b && false) ≡ false
and_false true = refl
and_false false = refl

-- ---- a name of a file

abbrev pub files : Rule
files = with_index 1 (filled files_rule)

-- where the word goes to the files
abbrev pub to_files : List Row → Option (Text × List Text) → List ℕ → Bool → Walk
to_files rows pending word trailing = at (settled_rows rules pending rows) (Some (codes "files", word ∷ [])) walk.positional trailing

held_for_files : (rows : List Row) (pending : Option (Text × List Text)) (word : List ℕ)
    → positional_held rules files word (held rows pending) ≡ held (settled_rows rules pending rows) (Some (codes "files", word ∷ []))
held_for_files rows pending word = by (is_pending files pending && false) (and_false (is_pending files pending))
  where
    by : (b : Bool) → b ≡ false → walk.pushed (codes "files") word (if b then held rows pending else settled rules (held rows pending)) ≡ held (settled_rows rules pending rows) (Some (codes "files", word ∷ []))
    by true e = absurd (cc e)
    by false e = refl

pub fault_for_files : (rows : List Row) (pending : Option (Text × List Text)) → positional_fault rules false files (held rows pending) ≡ settle_fault rules false (held rows pending)
fault_for_files rows pending = ap (λ (b : Bool). if b then [] else settle_fault rules false (held rows pending)) (and_false (is_pending files pending))

pub file_state : (rows : List Row) (pending : Option (Text × List Text)) (word : List ℕ) (g : Given) → Shows (settled_rows rules pending rows) g
    → (settle_fault rules false (held (settled_rows rules pending rows) (Some (codes "files", word ∷ []))) ≡ [])
    × Shows (settled_rows rules (Some (codes "files", word ∷ [])) (settled_rows rules pending rows)) (with_file g word)
file_state rows pending word g shows = (refl, file_added AsWritten CommandLine (settled_rows rules pending rows) g shows word)

pub trails_turn : (rows : List Row) (pending : Option (Text × List Text)) (waiting : Waiting) (g : Given) → settle_fault rules false (held rows pending) ≡ []
    → Shows (settled_rows rules pending rows) g → g.next ≡ Next.other → (word : List ℕ) → Turn (at rows pending waiting true) g word
unfolding walked
trails_turn rows pending waiting g settles shows next word =
    let now = file_state rows pending word g shows in
    Turn.goes (to_files rows pending word true) (with_file g word)
    (fault_for_files rows pending ∙ settles)
    (ap (λ (h : Held). record { held = h; waiting = walk.positional; position = 1; is_trailing = true; stopped = None }) (held_for_files rows pending word))
    (ap (λ (n : Next). given_as n g word) next)
    (State.trails (settled_rows rules pending rows) (Some (codes "files", word ∷ [])) walk.positional (with_file g word) now.0 now.1 next)

-- ---- a word that is no option

no_subcommand : (waiting : Waiting) (word : List ℕ) → subcommand_met [] waiting word ≡ None
no_subcommand walk.idle word = refl
no_subcommand (walk.option id) word = refl
no_subcommand walk.positional word = refl

module _ (rows : List Row) (pending : Option (Text × List Text)) (waiting : Waiting) (word : List ℕ) where
  abbrev pub h : Held
  h = held rows pending

  -- the fault of a word that isn't `--`, and what it is
  abbrev pub fault_by : Option (Text × Option Text) → Kinds
  fault_by l = or_else (flag_word_fault rules false l word h) (step_fault shape 1 (long_or_other rules waiting word l h).0 (long_or_other rules waiting word l h).1)

  pub other_turn : bytes_eq word (45 ∷ 45 ∷ []) ≡ false → turn_fault shape [] (at rows pending waiting false) word ≡ fault_by (long_of word)
  other_turn e =
      ap (λ (n : Option Text). or_else (other_fault shape n word h) (step_fault shape 1 (subcommand_or_other rules n waiting 1 word h).0 (subcommand_or_other rules n waiting 1 word h).1)) (no_subcommand waiting word)
      ∙ ap (λ (b : Bool). or_else (if b then [] else flag_word_fault rules false (long_of word) word h)
      (step_fault shape 1 (if b then (h, walk.trailing 1) else long_or_other rules waiting word (long_of word) h).0 (if b then (h, walk.trailing 1) else long_or_other rules waiting word (long_of word) h).1)) e

  other_walked : bytes_eq word (45 ∷ 45 ∷ []) ≡ false → walked rules [] (at rows pending waiting false) word
      ≡ after_step rules word (at rows pending waiting false) (long_or_other rules waiting word (long_of word) h).0 (long_or_other rules waiting word (long_of word) h).1
  unfolding walked
  other_walked e =
      ap (λ (n : Option Text). after_step rules word (at rows pending waiting false) (subcommand_or_other rules n waiting 1 word h).0 (subcommand_or_other rules n waiting 1 word h).1) (no_subcommand waiting word)
      ∙ ap (λ (b : Bool). after_step rules word (at rows pending waiting false) (if b then (h, walk.trailing 1) else long_or_other rules waiting word (long_of word) h).0
      (if b then (h, walk.trailing 1) else long_or_other rules waiting word (long_of word) h).1) e

  pub plain_turn : bytes_eq word (45 ∷ 45 ∷ []) ≡ false → long_of word ≡ None → short_of word ≡ None
      → turn_fault shape [] (at rows pending waiting false) word ≡ step_fault shape 1 (plain_word rules waiting word h).0 (plain_word rules waiting word h).1
  plain_turn e l s =
      other_turn e
      ∙ ap fault_by l
      ∙ ap (λ (x : Option Text). or_else (option_map_or (λ flags. bundle_fault rules false flags h) x []) (step_fault shape 1 (short_or_plain rules waiting word x h).0 (short_or_plain rules waiting word x h).1)) s

  pub plain_walked : bytes_eq word (45 ∷ 45 ∷ []) ≡ false → long_of word ≡ None → short_of word ≡ None
      → walked rules [] (at rows pending waiting false) word ≡ after_step rules word (at rows pending waiting false) (plain_word rules waiting word h).0 (plain_word rules waiting word h).1
  plain_walked e l s =
      other_walked e
      ∙ ap (λ (x : Option (Text × Option Text)). after_step rules word (at rows pending waiting false) (long_or_other rules waiting word x h).0 (long_or_other rules waiting word x h).1) l
      ∙ ap (λ (x : Option Text). after_step rules word (at rows pending waiting false) (short_or_plain rules waiting word x h).0 (short_or_plain rules waiting word x h).1) s

pub plain_given : (g : Given) (word : List ℕ) → bytes_eq word (45 ∷ 45 ∷ []) ≡ false → is_other word ≡ true → given_as Next.any g word ≡ Some (with_file g word)
plain_given g word e o =
    ap (λ (b : Bool). if b then Some (record g { next = Next.other }) else if is_other word then Some (with_file g word) else option_given g word) e
    ∙ ap (λ (b : Bool). if b then Some (with_file g word) else option_given g word) o

pub strange_given : (g : Given) (word : List ℕ) → bytes_eq word (45 ∷ 45 ∷ []) ≡ false → is_other word ≡ false → option_given g word ≡ None → given_as Next.any g word ≡ None
strange_given g word e o none =
    ap (λ (b : Bool). if b then Some (record g { next = Next.other }) else if is_other word then Some (with_file g word) else option_given g word) e
    ∙ ap (λ (b : Bool). if b then Some (with_file g word) else option_given g word) o
    ∙ none

pub free_fault : (rows : List Row) (pending : Option (Text × List Text)) (waiting : Waiting) (word : List ℕ) → IsFree waiting
    → step_fault shape 1 (plain_word rules waiting word (held rows pending)).0 (plain_word rules waiting word (held rows pending)).1 ≡ positional_fault rules false files (held rows pending)
free_fault rows pending walk.idle word free = refl
free_fault rows pending (walk.option id) word free = absurd free
free_fault rows pending walk.positional word free = refl

pub free_walked : (rows : List Row) (pending : Option (Text × List Text)) (waiting : Waiting) (word : List ℕ) → IsFree waiting
    → after_step rules word (at rows pending waiting false) (plain_word rules waiting word (held rows pending)).0 (plain_word rules waiting word (held rows pending)).1 ≡ to_files rows pending word false
free_walked rows pending walk.idle word free = ap (λ (h : Held). record { held = h; waiting = walk.positional; position = 1; is_trailing = false; stopped = None }) (held_for_files rows pending word)
free_walked rows pending (walk.option id) word free = absurd free
free_walked rows pending walk.positional word free = ap (λ (h : Held). record { held = h; waiting = walk.positional; position = 1; is_trailing = false; stopped = None }) (held_for_files rows pending word)

-- what is shown doesn't depend on what comes next
pub shown_next : (rows : List Row) (g : Given) (n : Next) → Shows rows g → Shows rows (record g { next = n })
shown_next rows g n shows = record { files = shows.files; options = options; has = has }
  where
    options : (which : Which) → listed (name_of which) rows ≡ values (given_for which (record g { next = n }))
    options Which.siphons = shows.options Which.siphons
    options Which.monitors = shows.options Which.monitors

    has : (which : Which) → has_row (name_of which) rows ≡ is_some (given_for which (record g { next = n }))
    has Which.siphons = shows.has Which.siphons
    has Which.monitors = shows.has Which.monitors

-- ---- `--`

pub dashes_fault : (rows : List Row) (pending : Option (Text × List Text)) (waiting : Waiting) → turn_fault shape [] (at rows pending waiting false) (45 ∷ 45 ∷ []) ≡ []
dashes_fault rows pending walk.idle = refl
dashes_fault rows pending (walk.option id) = refl
dashes_fault rows pending walk.positional = refl

pub dashes_walked : (rows : List Row) (pending : Option (Text × List Text)) (waiting : Waiting) → walked rules [] (at rows pending waiting false) (45 ∷ 45 ∷ []) ≡ at rows pending waiting true
unfolding walked
dashes_walked rows pending walk.idle = refl
dashes_walked rows pending (walk.option id) = refl
dashes_walked rows pending walk.positional = refl

-- ---- an option

abbrev pub flagged : Which → List ℕ
flagged which = 45 ∷ 45 ∷ name_of which

abbrev pub after_flag_at : Which → List Row → Option (Text × List Text) → Walk
after_flag_at which rows pending = at (settled_rows rules pending rows) (Some (name_of which, [])) (walk.option (name_of which)) false

pub flag_fault : (which : Which) (rows : List Row) (pending : Option (Text × List Text)) (waiting : Waiting)
    → turn_fault shape [] (at rows pending waiting false) (flagged which) ≡ or_else (settle_fault rules false (held rows pending)) []
flag_fault Which.siphons rows pending waiting = other_turn rows pending waiting (flagged Which.siphons) refl
flag_fault Which.monitors rows pending waiting = other_turn rows pending waiting (flagged Which.monitors) refl

pub flag_walked : (which : Which) (rows : List Row) (pending : Option (Text × List Text)) (waiting : Waiting)
    → walked rules [] (at rows pending waiting false) (flagged which) ≡ after_flag_at which rows pending
flag_walked Which.siphons rows pending waiting = other_walked rows pending waiting (flagged Which.siphons) refl
flag_walked Which.monitors rows pending waiting = other_walked rows pending waiting (flagged Which.monitors) refl

pub flag_given : (which : Which) (g : Given) → given_as Next.any g (flagged which) ≡ Some (record g { next = next_for which })
flag_given Which.siphons g = refl
flag_given Which.monitors g = refl

-- ---- an option with its value

abbrev pub valued : Which → List ℕ → List ℕ
valued which v = 45 ∷ 45 ∷ (name_of which ++ 61 ∷ v)

-- what stands against the use of an option: what is pending, or that it stands there already
abbrev pub against : Kinds → Bool → Kinds
against pending there = or_else (or_else pending (or_else (if there && true then kind.ArgumentConflict ∷ [] else []) [])) []

abbrev pub with_option : Which → List ℕ → List Row → List Row
with_option which v rows = with_values (name_of which) AsWritten CommandLine (v ∷ []) (without (name_of which) rows)

pub value_fault : (which : Which) (v : List ℕ) (rows : List Row) (pending : Option (Text × List Text)) (waiting : Waiting)
    → turn_fault shape [] (at rows pending waiting false) (valued which v) ≡ against (settle_fault rules false (held rows pending)) (has_row (name_of which) (settled_rows rules pending rows))
value_fault Which.siphons v rows pending waiting = other_turn rows pending waiting (valued Which.siphons v) refl
value_fault Which.monitors v rows pending waiting = other_turn rows pending waiting (valued Which.monitors v) refl

pub value_walked : (which : Which) (v : List ℕ) (rows : List Row) (pending : Option (Text × List Text)) (waiting : Waiting)
    → walked rules [] (at rows pending waiting false) (valued which v) ≡ at (with_option which v (settled_rows rules pending rows)) None walk.idle false
value_walked Which.siphons v rows pending waiting = other_walked rows pending waiting (valued Which.siphons v) refl
value_walked Which.monitors v rows pending waiting = other_walked rows pending waiting (valued Which.monitors v) refl

pub value_given : (which : Which) (v : List ℕ) (g : Given) → given_as Next.any g (valued which v) ≡ with_value which (given_for which g) g v
value_given Which.siphons v g = refl
value_given Which.monitors v g = refl

abbrev pub dashes_word : List ℕ
dashes_word = 45 ∷ 45 ∷ []
