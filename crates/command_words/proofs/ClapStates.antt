-- Where clap's walk over the words stands, beside what the words so far give.
use Rattle.std.proofs.Common.{◌≡◌, ℕ, Bool, true, false, ◌⊎◌, List, [], ◌∷◌, ◌++◌, Some, None, Option, is_some, refl, sym, ap, ◌∙◌, codes, inl, inr, subst}
use Rattle.std.specs.Prelude.{⊤}
use Rattle.std.proofs.lemmas.Bool.{and_right}
use Rattle.clap.specs.declared.builder.value_parser.Reading.{Reading}
use Rattle.clap.specs.declared.parser.matches.ValueSource.{ValueSource}
use Rattle.clap.specs.Walk as walk
use Rattle.clap.specs.Walk.{Held, Row, Rule, Text, Waiting, Walk, with_values, without, has_row, settled_rows, walked}
use Rattle.clap.specs.Faults.{settle_fault, turn_fault}
use Rattle.command_words.specs.Words.{Given, Next, given_as, with_siphons, with_monitors, with_file, is_number}
use Rattle.command_words.proofs.ClapRows.{listed, listed_same, has_same, listed_other, has_other, none_listed, none_without}
use Rattle.command_words.proofs.ClapNames.{same_bytes}
use Rattle.command_words.proofs.ClapApp.{shape, rules, Which, name_of}

abbrev pub held : List Row → Option (Text × List Text) → Held
held rows pending = record { rows = rows; pending = pending; skip = 0 }

abbrev pub at : List Row → Option (Text × List Text) → Waiting → Bool → Walk
at rows pending waiting trailing = record { held = held rows pending; waiting = waiting; position = 1; is_trailing = trailing; stopped = None }

-- ---- what rows show

abbrev pub values : Option (List ℕ) → List (List ℕ)
values None = []
values (Some v) = v ∷ []

abbrev pub given_for : Which → Given → Option (List ℕ)
given_for Which.siphons g = g.siphons
given_for Which.monitors g = g.monitors

abbrev pub with_value : Which → Option (List ℕ) → Given → List ℕ → Option Given
with_value Which.siphons = with_siphons
with_value Which.monitors = with_monitors

abbrev pub next_for : Which → Next
next_for Which.siphons = Next.siphons
next_for Which.monitors = Next.monitors

-- the names of files and the values of the options
pub record Shows (rows : List Row) (g : Given) : Type 0 where
  pub files : listed (codes "files") rows ≡ g.files
  pub options : (which : Which) → listed (name_of which) rows ≡ values (given_for which g)
  pub has : (which : Which) → has_row (name_of which) rows ≡ is_some (given_for which g)

-- ---- states

-- no option waits for its value
abbrev pub IsFree : Waiting → Type 0
IsFree walk.idle = ⊤
IsFree (walk.option id) = ⊥
IsFree walk.positional = ⊤

pub data State : Walk → Given → Type 0 where
  free : (rows : List Row) (pending : Option (Text × List Text)) (waiting : Waiting) (g : Given) → IsFree waiting
      → settle_fault rules false (held rows pending) ≡ [] → Shows (settled_rows rules pending rows) g → g.next ≡ Next.any → State (at rows pending waiting false) g
  trails : (rows : List Row) (pending : Option (Text × List Text)) (waiting : Waiting) (g : Given)
      → settle_fault rules false (held rows pending) ≡ [] → Shows (settled_rows rules pending rows) g → g.next ≡ Next.other → State (at rows pending waiting true) g
  waits : (which : Which) (rows : List Row) (g : Given) → Shows rows g → g.next ≡ next_for which → State (at rows (Some (name_of which, [])) (walk.option (name_of which)) false) g

-- what is pending can't be used, and gets no value any more
abbrev pub GetsNone : Bool → Waiting → Type 0
GetsNone true waiting = ⊤
GetsNone false waiting = IsFree waiting

pub data Doomed : Walk → Type 0 where
  doomed : (rows : List Row) (pending : Option (Text × List Text)) (waiting : Waiting) (trailing : Bool) → GetsNone trailing waiting
      → (settle_fault rules false (held rows pending) ≡ [] → ⊥) → Doomed (at rows pending waiting trailing)

-- ---- what no command takes

abbrev pub IsBadValue : Option (List ℕ) → Type 0
IsBadValue None = ⊥
IsBadValue (Some v) = is_number v ≡ false

-- words of no known shape, or an option whose value is no number
abbrev pub IsBad : Option Given → Type 0
IsBad None = ⊤
IsBad (Some g) = IsBadValue g.siphons ⊎ IsBadValue g.monitors

dash_is_no_number : (rest : List ℕ) → is_number (45 ∷ rest) ≡ false
dash_is_no_number rest = and_right _ _ (and_right _ _ refl)

pub bad_value : (which : Which) (o : Option (List ℕ)) (g : Given) (rest : List ℕ) → IsBad (with_value which o g (45 ∷ rest))
bad_value Which.siphons None g rest = inl (dash_is_no_number rest)
bad_value Which.siphons (Some v) g rest = tt
bad_value Which.monitors None g rest = inr (dash_is_no_number rest)
bad_value Which.monitors (Some v) g rest = tt

-- ---- what a turn does

pub data Turn (w : Walk) (g : Given) (word : List ℕ) : Type 0 where
  goes : (after : Walk) (more : Given) → turn_fault shape [] w word ≡ [] → walked rules [] w word ≡ after → given_as g.next g word ≡ Some more → State after more → Turn w g word
  dooms : (after : Walk) → turn_fault shape [] w word ≡ [] → walked rules [] w word ≡ after → Doomed after → IsBad (given_as g.next g word) → Turn w g word
  fails : (turn_fault shape [] w word ≡ [] → ⊥) → IsBad (given_as g.next g word) → Turn w g word

-- ---- rows after a use

module _ (how : Reading) (s : ValueSource) (rows : List Row) (g : Given) (shows : Shows rows g) where
  pub file_added : (word : List ℕ) → Shows (with_values (codes "files") how s (word ∷ []) rows) (with_file g word)
  file_added word = record {
    files = listed_same (codes "files") how s (word ∷ []) refl rows ∙ ap (λ (xs : List (List ℕ)). xs ++ word ∷ []) shows.files;
    options = options;
    has = has;
  }
    where
      options : (which : Which) → listed (name_of which) (with_values (codes "files") how s (word ∷ []) rows) ≡ values (given_for which (with_file g word))
      options Which.siphons = listed_other (codes "files") how s (word ∷ []) (codes "siphons") refl (λ x e. same_bytes x (codes "files") e) rows ∙ shows.options Which.siphons
      options Which.monitors = listed_other (codes "files") how s (word ∷ []) (codes "monitors") refl (λ x e. same_bytes x (codes "files") e) rows ∙ shows.options Which.monitors

      has : (which : Which) → has_row (name_of which) (with_values (codes "files") how s (word ∷ []) rows) ≡ is_some (given_for which (with_file g word))
      has Which.siphons = has_other (codes "files") how s (word ∷ []) (codes "siphons") refl (λ x e. same_bytes x (codes "files") e) rows ∙ shows.has Which.siphons
      has Which.monitors = has_other (codes "files") how s (word ∷ []) (codes "monitors") refl (λ x e. same_bytes x (codes "files") e) rows ∙ shows.has Which.monitors

abbrev pub setting : Which → Given → List ℕ → Given
setting Which.siphons g v = record g { siphons = Some v; next = Next.any }
setting Which.monitors g v = record g { monitors = Some v; next = Next.any }

module _ (how : Reading) (s : ValueSource) (rows : List Row) (g : Given) (v : List ℕ) (shows : Shows rows g) where
  -- an option that has no value gets one
  plainly_added : (which : Which) → given_for which g ≡ None → Shows (with_values (name_of which) how s (v ∷ []) rows) (setting which g v)
  plainly_added Which.siphons e =
      let none : has_row (codes "siphons") rows ≡ false = shows.has Which.siphons ∙ ap is_some e in
      record {
        files = listed_other (codes "siphons") how s (v ∷ []) (codes "files") refl (λ x e. same_bytes x (codes "siphons") e) rows ∙ shows.files;
        options = options none;
        has = has;
      }
    where
      options : has_row (codes "siphons") rows ≡ false → (which : Which) → listed (name_of which) (with_values (codes "siphons") how s (v ∷ []) rows) ≡ values (given_for which (setting Which.siphons g v))
      options none Which.siphons = listed_same (codes "siphons") how s (v ∷ []) refl rows ∙ ap (λ (xs : List (List ℕ)). xs ++ v ∷ []) (none_listed (codes "siphons") rows none)
      options none Which.monitors = listed_other (codes "siphons") how s (v ∷ []) (codes "monitors") refl (λ x e. same_bytes x (codes "siphons") e) rows ∙ shows.options Which.monitors

      has : (which : Which) → has_row (name_of which) (with_values (codes "siphons") how s (v ∷ []) rows) ≡ is_some (given_for which (setting Which.siphons g v))
      has Which.siphons = has_same (codes "siphons") how s (v ∷ []) refl rows
      has Which.monitors = has_other (codes "siphons") how s (v ∷ []) (codes "monitors") refl (λ x e. same_bytes x (codes "siphons") e) rows ∙ shows.has Which.monitors
  plainly_added Which.monitors e =
      let none : has_row (codes "monitors") rows ≡ false = shows.has Which.monitors ∙ ap is_some e in
      record {
        files = listed_other (codes "monitors") how s (v ∷ []) (codes "files") refl (λ x e. same_bytes x (codes "monitors") e) rows ∙ shows.files;
        options = options none;
        has = has;
      }
    where
      options : has_row (codes "monitors") rows ≡ false → (which : Which) → listed (name_of which) (with_values (codes "monitors") how s (v ∷ []) rows) ≡ values (given_for which (setting Which.monitors g v))
      options none Which.monitors = listed_same (codes "monitors") how s (v ∷ []) refl rows ∙ ap (λ (xs : List (List ℕ)). xs ++ v ∷ []) (none_listed (codes "monitors") rows none)
      options none Which.siphons = listed_other (codes "monitors") how s (v ∷ []) (codes "siphons") refl (λ x e. same_bytes x (codes "monitors") e) rows ∙ shows.options Which.siphons

      has : (which : Which) → has_row (name_of which) (with_values (codes "monitors") how s (v ∷ []) rows) ≡ is_some (given_for which (setting Which.monitors g v))
      has Which.monitors = has_same (codes "monitors") how s (v ∷ []) refl rows
      has Which.siphons = has_other (codes "monitors") how s (v ∷ []) (codes "siphons") refl (λ x e. same_bytes x (codes "monitors") e) rows ∙ shows.has Which.siphons

  pub option_added : (which : Which) → given_for which g ≡ None → Shows (with_values (name_of which) how s (v ∷ []) (without (name_of which) rows)) (setting which g v)
  option_added which e =
      let same = none_without (name_of which) rows (shows.has which ∙ ap is_some e) in
      subst (λ (rs : List Row). Shows (with_values (name_of which) how s (v ∷ []) rs) (setting which g v)) (sym same) (plainly_added which e)
