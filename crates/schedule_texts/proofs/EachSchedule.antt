-- Each text is a schedule, or wrong in some way.
use Rattle.std.proofs.Common.{◌≡◌, ◌<◌, ◌≤◌, ◌+◌, ℕ, zero, suc, Bool, true, false, List, [], ◌∷◌, ◌++◌, length, take, get_or, ◌⊎◌, inl, inr, ⊎_elim, refl, ap, subst, ◌∙◌, arith}
use Rattle.std.specs.Prelude.{codes, decimal, bytes_eq, Ok, Err}
use Rattle.std.proofs.lemmas.Bool.{cases_lt}
use Rattle.std.proofs.lemmas.List.{take_all, length-append}
use Rattle.std.proofs.lemmas.Slice.Eq.{bytes_eq-Decides}
use Rattle.c_meaning.specs.declared.Event.{Event}
use Rattle.c_meaning.specs.declared.EventKind.{EventKind}
use Rattle.c_meaning.specs.declared.EventKind.TheVariants.{Go, Choose, Wake}
use Rattle.schedule_texts.specs.declared.schedule.ScheduleError.TheVariants.{BadEvent, TooLong}
use Rattle.schedule_texts.specs.Events.{words_of, kind_words, KindSpelled, WordsSpell, Spells}
use Rattle.schedule_texts.specs.Schedules.{lines_of, is_silent, Say, IsBad, most_events, HasAnswer}
use Rattle.schedule_texts.proofs.Sayings.{next_silent, next_event, too_long}

pub same_or : (xs ys : List ℕ) → (xs ≡ ys) ⊎ (xs ≡ ys → ⊥)
same_or xs ys = go (bytes_eq xs ys) refl
  where
    go : (b : Bool) → bytes_eq xs ys ≡ b → (xs ≡ ys) ⊎ (xs ≡ ys → ⊥)
    go true e = inl ((bytes_eq-Decides xs ys).0 e)
    go false e = inr (λ s. let b : bytes_eq xs ys ≡ true = (bytes_eq-Decides xs ys).1 s in absurd cc)

-- ---- an event

-- a word is the number of a thread below this one, or of none
abbrev ThreadBelow : ℕ → List ℕ → Type 0
ThreadBelow n word = ((t : ℕ) × (t < n) × (word ≡ decimal t)) ⊎ ((t : ℕ) → t < n → word ≡ decimal t → ⊥)

thread_below : (n : ℕ) (word : List ℕ) → ThreadBelow n word
thread_below zero word = inr (λ t low e. omega (arith, low))
thread_below (suc n) word = ⊎_elim
    (λ same. inl (n, omega arith, same))
    (λ other. ⊎_elim
    (λ is. inl (is.0, omega (arith, is.1), is.2))
    (λ none. inr (λ t low e. ⊎_elim
    (λ less. none t less e)
    (λ least. let last : t ≡ n = omega (arith, low, least) in other (e ∙ ap decimal last))
    (cases_lt t n)))
    (thread_below n word))
    (same_or word (decimal n))

abbrev KindOr : List (List ℕ) → Type 0
KindOr words = ((kind : EventKind) × KindSpelled words kind) ⊎ ((kind : EventKind) → KindSpelled words kind → ⊥)

choice_or : (word : List ℕ) → word ≡ codes "choose" → (thread : List ℕ) → ThreadBelow 32 thread → KindOr (word ∷ thread ∷ [])
choice_or word same thread (inl is) = inl (Choose is.0, (rw (same, is.2) refl, is.1))
choice_or word same thread (inr none) = inr no
  where
    no : (kind : EventKind) → KindSpelled (word ∷ thread ∷ []) kind → ⊥
    no Go s = let e = s.0 in absurd (cc e)
    no Wake s = let e = s.0 in absurd (cc e)
    no (Choose u) s = let e : thread ≡ decimal u = cc s.0 in none u s.1 e

kind_or : (words : List (List ℕ)) → KindOr words
kind_or [] = inr no
  where
    no : (kind : EventKind) → KindSpelled [] kind → ⊥
    no Go s = let e = s.0 in absurd (cc e)
    no Wake s = let e = s.0 in absurd (cc e)
    no (Choose u) s = let e = s.0 in absurd (cc e)
kind_or (word ∷ []) = ⊎_elim
    (λ go. inl (Go, (rw go refl, tt)))
    (λ not_go. ⊎_elim
    (λ wake. inl (Wake, (rw wake refl, tt)))
    (λ not_wake. inr (no not_go not_wake))
    (same_or word (codes "wake")))
    (same_or word (codes "go"))
  where
    no : (word ≡ codes "go" → ⊥) → (word ≡ codes "wake" → ⊥) → (kind : EventKind) → KindSpelled (word ∷ []) kind → ⊥
    no not_go not_wake Go s = not_go (cc s.0)
    no not_go not_wake Wake s = not_wake (cc s.0)
    no not_go not_wake (Choose u) s = let e = s.0 in absurd (cc e)
kind_or (word ∷ thread ∷ []) = ⊎_elim
    (λ same. choice_or word same thread (thread_below 32 thread))
    (λ other. inr (no other))
    (same_or word (codes "choose"))
  where
    no : (word ≡ codes "choose" → ⊥) → (kind : EventKind) → KindSpelled (word ∷ thread ∷ []) kind → ⊥
    no other Go s = let e = s.0 in absurd (cc e)
    no other Wake s = let e = s.0 in absurd (cc e)
    no other (Choose u) s = other (cc s.0)
kind_or (word ∷ thread ∷ third ∷ more) = inr no
  where
    no : (kind : EventKind) → KindSpelled (word ∷ thread ∷ third ∷ more) kind → ⊥
    no Go s = let e = s.0 in absurd (cc e)
    no Wake s = let e = s.0 in absurd (cc e)
    no (Choose u) s = let e = s.0 in absurd (cc e)

abbrev EventOr : List (List ℕ) → Type 0
EventOr words = ((e : Event) × WordsSpell words e) ⊎ ((e : Event) → WordsSpell words e → ⊥)

event_by : (word : List ℕ) (words : List (List ℕ)) → ThreadBelow 32 word → KindOr words → EventOr (word ∷ words)
event_by word words (inr none) kinds = inr (λ e s. let same : word ≡ decimal e.thread = cc s.0 in none e.thread s.1.0 same)
event_by word words (inl is) (inr none) = inr (λ e s. let same : words ≡ kind_words e.kind = cc s.0 in none e.kind (same, s.1.1))
event_by word words (inl is) (inl kind) = inl (record { thread = is.0; kind = kind.0 }, (rw (is.2, kind.1.0) refl, (is.1, kind.1.1)))

event_or : (words : List (List ℕ)) → EventOr words
event_or [] = inr (λ e s. let x = s.0 in absurd (cc x))
event_or (word ∷ words) = event_by word words (thread_below 32 word) (kind_or words)

-- ---- a line

data LineOr (line : List ℕ) : Type 0 where
  silent : is_silent line ≡ true → LineOr line
  says : is_silent line ≡ false → (e : Event) → Spells line e → LineOr line
  bad : IsBad line → LineOr line

line_or : (line : List ℕ) → LineOr line
line_or line = go (is_silent line) refl
  where
    by : is_silent line ≡ false → EventOr (words_of line) → LineOr line
    by loud (inl is) = LineOr.says loud is.0 is.1
    by loud (inr none) = LineOr.bad (record { says = loud; none = none })

    go : (b : Bool) → is_silent line ≡ b → LineOr line
    go true e = LineOr.silent e
    go false e = by e (event_or (words_of line))

-- ---- a text

module _ (text : List ℕ) where
  -- the lines behind this place are judged, where those before them say events
  abbrev Rest : ℕ → Type 0
  Rest k = (es : List Event) → Say (take k (lines_of text)) es → length es ≤ most_events → HasAnswer text

  module _ (k : ℕ) (es : List Event) (within : k < length (lines_of text)) (say : Say (take k (lines_of text)) es) (few : length es ≤ most_events) (rest : Rest (k + 1)) where
    with_event : (e : Event) → is_silent (get_or (lines_of text) k []) ≡ false → Spells (get_or (lines_of text) k []) e → (length es < most_events) ⊎ (most_events ≤ length es) → HasAnswer text
    with_event e loud spells (inl room) =
        rest (es ++ e ∷ []) (next_event (lines_of text) k es e within say loud spells) (omega (arith, room, length-append es (e ∷ [])))
    with_event e loud spells (inr full) = record {
      answer = Err TooLong;
      is = too_long text k es e within say (omega (arith, few, full)) loud spells;
      told = λ x. absurd (cc x);
    }

    with_line : LineOr (get_or (lines_of text) k []) → HasAnswer text
    with_line (LineOr.silent e) = rest es (next_silent (lines_of text) k es within say e) few
    with_line (LineOr.says loud e spells) = with_event e loud spells (cases_lt (length es) most_events)
    with_line (LineOr.bad is) = record {
      answer = Err (BadEvent (suc k));
      is = record { place = k; within = within; number = refl; is_bad = is; events = es; say = say; few = few };
      told = λ x. absurd (cc x);
    }

  -- so many lines are left
  from : (left k : ℕ) → k + left ≡ length (lines_of text) → Rest k
  from zero k all es say few = record {
    answer = Ok es;
    is = record { say = subst (λ lines. Say lines es) (take_all k (lines_of text) (omega (arith, all))) say; few = few };
    told = λ e. absurd (cc e);
  }
  from (suc left) k all es say few =
      with_line k es (omega (arith, all)) say few (λ more said room. from left (k + 1) (omega (arith, all)) more said room) (line_or (get_or (lines_of text) k []))

pub each_schedule : (text : List ℕ) → HasAnswer text
each_schedule text = from text (length (lines_of text)) 0 (omega arith) [] tt (omega arith)
