-- What clap answers of the words behind a command, and what they give.
use Rattle.std.proofs.Common.{◌≡◌, ℕ, Bool, true, false, ◌⊎◌, ◌||◌, List, [], ◌∷◌, Some, None, Option, is_some, refl, sym, ap, ◌∙◌, codes, inl, inr, bytes_eq, is_some, slice_get}
use Rattle.std.specs.Str.Parse.{digits_value}
use Rattle.std.specs.Prelude.{if◌then◌else◌, option_and_then, option_map, unwrap_or, find}
use Rattle.clap.specs.Kinds.{Kinds, or_else}
use Rattle.clap.specs.Walk as walk
use Rattle.clap.specs.Walk.{Held, Row, Rule, Text, Walk, settled, settled_rows, with_default, default_rows, has_row, reading_by, finished, nothing_held, walk_from, all_of, first_of}
use Rattle.clap.specs.Simple.{built, matches_of, filled, with_index}
use Rattle.clap.specs.Faults.{fault_of, settle_fault, walk_fault, defaults_fault, check_fault, given_default_fault}
use Rattle.clap.proofs.FaultLemmas.{leaf_fault}
use Rattle.command_words.specs.Behind.{app, files_rule, siphons_rule, monitors_rule, AreAsGiven}
use Rattle.command_words.specs.Tasks.{Task}
use Rattle.command_words.specs.declared.command.Command.{Command}
use Rattle.command_words.specs.declared.command.Command.TheVariants.{Instrument, Run, Runtime}
use Rattle.command_words.specs.Words.{Given, Next, nothing, given_behind, command_given, instrument_given, plain_given, number_within, ranged, with_count}
use Rattle.command_words.proofs.ClapRows.{listed}
use Rattle.command_words.proofs.ClapApp.{shape, rules, Which, name_of}
use Rattle.command_words.proofs.ClapStates.{Shows, State, IsBad, IsBadValue, values, given_for}
use Rattle.command_words.proofs.ClapWalks.{AreUtf8, end_of, Outcome, outcome, first_of_two, second_of_two}

abbrev start : Walk
start = walk_from nothing_held

abbrev end_held : List (List ℕ) → Held
end_held words = (end_of start words).held

begins_so : State start nothing
begins_so = State.free [] None walk.idle nothing tt refl (record { files = refl; options = options; has = has }) refl
  where
    options : (which : Which) → listed (name_of which) [] ≡ values (given_for which nothing)
    options Which.siphons = refl
    options Which.monitors = refl

    has : (which : Which) → has_row (name_of which) [] ≡ is_some (given_for which nothing)
    has Which.siphons = refl
    has Which.monitors = refl

-- ---- the fault at the end

abbrev behind_walk : List (List ℕ) → Kinds
behind_walk words = or_else (settle_fault rules false (end_held words)) (or_else (defaults_fault (settled rules (end_held words)).rows rules) (check_fault shape (finished rules (end_held words)) false))

fault_is : (words : List (List ℕ)) → fault_of app words ≡ or_else (walk_fault shape [] start words) (behind_walk words)
fault_is words = leaf_fault (built app) nothing_held words refl

either_way : (b : Bool) (k : Kinds) → (if b || true then [] else k) ≡ []
either_way true k = refl
either_way false k = refl

either_rows : (b : Bool) (rows : List Row) → (if b then rows else rows) ≡ rows
either_rows true rows = refl
either_rows false rows = refl

no_default : (rows : List Row) (rest : List Rule) (id : Text) (k : Kinds) → defaults_fault rows rest ≡ []
    → or_else (if has_row id rows || true then [] else k) (defaults_fault (if has_row id rows then rows else rows) rest) ≡ []
no_default rows rest id k e =
    ap (λ (x : Kinds). or_else x (defaults_fault (if has_row id rows then rows else rows) rest)) (either_way (has_row id rows) k)
    ∙ ap (λ (rs : List Row). defaults_fault rs rest) (either_rows (has_row id rows) rows) ∙ e

abbrev option_rule : Which → Rule
option_rule Which.siphons = with_index 2 (filled siphons_rule)
option_rule Which.monitors = with_index 2 (filled monitors_rule)

abbrev files_built : Rule
files_built = with_index 1 (filled files_rule)

no_defaults : (rows : List Row) → defaults_fault rows rules ≡ []
unfolding defaults_fault
no_defaults rows =
    no_default rows (option_rule Which.siphons ∷ option_rule Which.monitors ∷ []) (codes "files") (given_default_fault files_built [])
    (no_default rows (option_rule Which.monitors ∷ []) (codes "siphons") (given_default_fault (option_rule Which.siphons) [])
    (no_default rows [] (codes "monitors") (given_default_fault (option_rule Which.monitors) []) refl))

finished_is : (h : Held) → finished rules h ≡ settled_rows rules h.pending h.rows
finished_is h =
    let rows = settled_rows rules h.pending h.rows in
    ap (λ (rs : List Row). with_default (with_default rs (option_rule Which.siphons)) (option_rule Which.monitors)) (either_rows (has_row (codes "files") rows) rows)
    ∙ ap (λ (rs : List Row). with_default rs (option_rule Which.monitors)) (either_rows (has_row (codes "siphons") rows) rows)
    ∙ either_rows (has_row (codes "monitors") rows) rows

no_check : (rows : List Row) → check_fault shape rows false ≡ []
no_check rows = refl

pub fault_parts : (words : List (List ℕ)) → fault_of app words ≡ [] → (walk_fault shape [] start words ≡ []) × (settle_fault rules false (end_held words) ≡ [])
fault_parts words none =
    let both = sym (fault_is words) ∙ none in
    (first_of_two _ _ both, first_of_two _ _ (second_of_two _ _ both))

pub no_fault : (words : List (List ℕ)) → walk_fault shape [] start words ≡ [] → settle_fault rules false (end_held words) ≡ [] → fault_of app words ≡ []
no_fault words walks settles =
    fault_is words
    ∙ ap (λ (k : Kinds). or_else k (behind_walk words)) walks
    ∙ ap (λ (k : Kinds). or_else k (or_else (defaults_fault (settled rules (end_held words)).rows rules) (check_fault shape (finished rules (end_held words)) false))) settles
    ∙ ap (λ (k : Kinds). or_else k (check_fault shape (finished rules (end_held words)) false)) (no_defaults (settled rules (end_held words)).rows)

-- ---- what no command takes

none_within : (least most unless : ℕ) (o : Option (List ℕ)) → IsBadValue o → number_within least most unless o ≡ None
none_within least most unless None bad = absurd bad
none_within least most unless (Some v) bad = ap (λ (b : Bool). option_and_then (ranged least most) (if b then Some (digits_value 10 v) else None)) bad

abbrev no_task : ℕ → Option Task
no_task n = None

none_after : (o : Option ℕ) → option_and_then no_task o ≡ None
none_after None = refl
none_after (Some n) = refl

bad_instrument : (g : Given) → IsBadValue g.siphons ⊎ IsBadValue g.monitors → instrument_given g ≡ None
bad_instrument g (inl bad) =
    ap (λ (o : Option ℕ). option_and_then (λ siphons. option_and_then (λ monitors. with_count 1 (Instrument siphons monitors) g) (number_within 0 16 16 g.monitors)) o) (none_within 1 512 256 g.siphons bad)
bad_instrument g (inr bad) =
    ap (λ (o : Option ℕ). option_and_then (λ siphons. option_and_then (λ monitors. with_count 1 (Instrument siphons monitors) g) o) (number_within 1 512 256 g.siphons)) (none_within 0 16 16 g.monitors bad)
    ∙ none_after (number_within 1 512 256 g.siphons)

bad_is_some : (o : Option (List ℕ)) → IsBadValue o → is_some o ≡ true
bad_is_some None bad = absurd bad
bad_is_some (Some v) bad = refl

none_or : (b : Bool) (o : Option Task) → o ≡ None → (if b then None else o) ≡ None
none_or true o e = refl
none_or false o e = e

bad_plain : (count : ℕ) (command : Command) (g : Given) → IsBadValue g.siphons ⊎ IsBadValue g.monitors → plain_given count command g ≡ None
bad_plain count command g (inl bad) = ap (λ (b : Bool). if b then None else if is_some g.monitors then None else with_count count command g) (bad_is_some g.siphons bad)
bad_plain count command g (inr bad) =
    none_or (is_some g.siphons) _ (ap (λ (b : Bool). if b then None else with_count count command g) (bad_is_some g.monitors bad))

all_none : (a b c : Bool) (x y z : Option Task) → x ≡ None → y ≡ None → z ≡ None → (if a then x else if b then y else if c then z else None) ≡ None
all_none true b c x y z p q r = p
all_none false true c x y z p q r = q
all_none false false true x y z p q r = r
all_none false false false x y z p q r = refl

bad_command : (o : Option Given) → IsBad o → (command : List ℕ) → option_and_then (command_given command) o ≡ None
bad_command None bad command = refl
bad_command (Some g) bad command =
    all_none (bytes_eq command (codes "instrument")) (bytes_eq command (codes "run")) (bytes_eq command (codes "runtime")) (instrument_given g) (plain_given 3 Run g) (plain_given 0 Runtime g)
    (bad_instrument g bad) (bad_plain 3 Run g bad) (bad_plain 0 Runtime g bad)

-- ---- where clap takes the words, and where it doesn't

outcome_of : (words : List (List ℕ)) → AreUtf8 words → Outcome start words (given_behind nothing words)
outcome_of words text = outcome words text start nothing begins_so

pub refused : (words : List (List ℕ)) → AreUtf8 words → (fault_of app words ≡ [] → ⊥) → AreAsGiven None (given_behind nothing words)
refused words text fails command = by (outcome_of words text)
  where
    by : Outcome start words (given_behind nothing words) → None ≡ option_and_then (command_given command) (given_behind nothing words)
    by (Outcome.taken g walks settles shows got) = absurd (fails (no_fault words walks settles))
    by (Outcome.refused never bad) = sym (bad_command (given_behind nothing words) bad command)

-- what clap's rows hold of an argument, in its own words
all_listed : (id : Text) (rows : List Row) → unwrap_or (all_of id rows) [] ≡ listed id rows
all_listed id [] = refl
all_listed id (r ∷ rs) = by (bytes_eq r.id id) (all_listed id rs)
  where
    by : (b : Bool) → unwrap_or (all_of id rs) [] ≡ listed id rs
        → unwrap_or (option_map (λ (x : Row). x.values) (if b then Some r else find (λ (x : Row). bytes_eq x.id id) rs)) [] ≡ (if b then r.values else listed id rs)
    by true e = refl
    by false e = e

first_listed : (id : Text) (rows : List Row) → first_of id rows ≡ slice_get (listed id rows) 0
first_listed id [] = refl
first_listed id (r ∷ rs) = by (bytes_eq r.id id) (first_listed id rs)
  where
    by : (b : Bool) → first_of id rs ≡ slice_get (listed id rs) 0
        → option_and_then (λ (x : Row). slice_get x.values 0) (if b then Some r else find (λ (x : Row). bytes_eq x.id id) rs) ≡ slice_get (if b then r.values else listed id rs) 0
    by true e = refl
    by false e = e

first_value : (o : Option (List ℕ)) → slice_get (values o) 0 ≡ o
first_value None = refl
first_value (Some v) = refl

-- what is given, from the rows
abbrev pub read_from : List Row → Given
read_from rows = record {
  files = unwrap_or (all_of (codes "files") rows) [];
  siphons = first_of (codes "siphons") rows;
  monitors = first_of (codes "monitors") rows;
  next = Next.any;
}

read_as_shown : (rows : List Row) (g : Given) → Shows rows g → read_from rows ≡ record g { next = Next.any }
read_as_shown rows g shows =
    let files = all_listed (codes "files") rows ∙ shows.files in
    let siphons = first_listed (codes "siphons") rows ∙ ap (λ (xs : List Text). slice_get xs 0) (shows.options Which.siphons) ∙ first_value g.siphons in
    let monitors = first_listed (codes "monitors") rows ∙ ap (λ (xs : List Text). slice_get xs 0) (shows.options Which.monitors) ∙ first_value g.monitors in
    ap (λ (fs : List (List ℕ)). record { files = fs; siphons = first_of (codes "siphons") rows; monitors = first_of (codes "monitors") rows; next = Next.any }) files
    ∙ ap (λ (s : Option (List ℕ)). record { files = g.files; siphons = s; monitors = first_of (codes "monitors") rows; next = Next.any }) siphons
    ∙ ap (λ (m : Option (List ℕ)). record { files = g.files; siphons = g.siphons; monitors = m; next = Next.any }) monitors

pub accepted : (words : List (List ℕ)) → AreUtf8 words → fault_of app words ≡ [] → AreAsGiven (Some (read_from (matches_of app words))) (given_behind nothing words)
accepted words text none command = by (outcome_of words text)
  where
    by : Outcome start words (given_behind nothing words) → command_given command (read_from (matches_of app words)) ≡ option_and_then (command_given command) (given_behind nothing words)
    by (Outcome.taken g walks settles shows got) =
        let same : matches_of app words ≡ settled_rows rules (end_held words).pending (end_held words).rows = finished_is (end_held words) in
        ap (λ (rows : List Row). command_given command (read_from rows)) same
        ∙ ap (command_given command) (read_as_shown _ g shows)
        ∙ sym (ap (λ (o : Option Given). option_and_then (command_given command) o) got)
    by (Outcome.refused never bad) = let parts = fault_parts words none in absurd (never parts.0 parts.1)
