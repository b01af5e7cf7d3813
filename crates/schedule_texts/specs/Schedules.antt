-- Texts that are schedules, and what is wrong with others.
use Rattle.std.specs.Prelude.{◌≡◌, ◌≢◌, ℕ, suc, ◌<◌, ◌≤◌, Bool, true, false, ◌==◌, not, List, [], ◌∷◌, length, take, slice_index_or, ⊤, filter}
use Rattle.std.specs.List.{slice_split}
use Rattle.std.specs.declared.result.Result.{Result}
use Rattle.std.specs.declared.result.Result.TheVariants.{Ok, Err}
use Rattle.c_meaning.specs.declared.Event.{Event}
use Rattle.schedule_texts.specs.declared.schedule.ScheduleError.{ScheduleError}
use Rattle.schedule_texts.specs.declared.schedule.ScheduleError.TheVariants.{BadEvent, TooLong, Memory}
use Rattle.schedule_texts.specs.declared.event.Line.{Line}
use Rattle.schedule_texts.specs.declared.event.Line.TheVariants.{Silent, Says, Bad}
use Rattle.schedule_texts.specs.Events.{Spells}

-- the lines of a text; the last is empty where the text ends with a line break
abbrev pub lines_of : List ℕ → List (List ℕ)
lines_of text = slice_split (λ b. b == 10) text

-- an empty line, and one that begins with `#`
abbrev pub is_silent : List ℕ → Bool
is_silent [] = true
is_silent (b ∷ rest) = b == 35

-- a line that says something, and no event
pub record IsBad (line : List ℕ) : Type 0 where
  pub says : is_silent line ≡ false
  pub none : (e : Event) → Spells line e → ⊥

-- what is answered of a line
abbrev pub LineIs : List ℕ → Line → Type 0
LineIs line Silent = is_silent line ≡ true
LineIs line (Says e) = (is_silent line ≡ false) × Spells line e
LineIs line Bad = IsBad line

-- the lines that say something
abbrev pub said : List (List ℕ) → List (List ℕ)
said lines = filter (λ line. not (is_silent line)) lines

-- each line spells the event beside it
abbrev pub EachSpells : List (List ℕ) → List Event → Type 0
EachSpells [] [] = ⊤
EachSpells [] (e ∷ es) = ⊥
EachSpells (line ∷ lines) [] = ⊥
EachSpells (line ∷ lines) (e ∷ es) = Spells line e × EachSpells lines es

-- lines that say these events
abbrev pub Say : List (List ℕ) → List Event → Type 0
Say lines es = EachSpells (said lines) es

-- the most events of a schedule
abbrev pub most_events : ℕ
most_events = 100000

-- the text is the schedule of these events
pub record IsSchedule (text : List ℕ) (es : List Event) : Type 0 where
  pub say : Say (lines_of text) es
  pub few : length es ≤ most_events

-- this line, counted from 1, is bad, and those before it say events, which aren't too many
pub record IsBadAt (text : List ℕ) (line : ℕ) : Type 0 where
  pub place : ℕ
  pub within : place < length (lines_of text)
  pub number : line ≡ suc place
  pub is_bad : IsBad (slice_index_or (lines_of text) place [])
  pub events : List Event
  pub say : Say (take place (lines_of text)) events
  pub few : length events ≤ most_events

-- the lines up to a place say too many events, so these stand before any bad line
pub record IsTooLong (text : List ℕ) : Type 0 where
  pub place : ℕ
  pub events : List Event
  pub say : Say (take place (lines_of text)) events
  pub many : most_events < length events

-- what an answer says of a text; want of memory says nothing
abbrev pub Answers : List ℕ → Result (List Event) ScheduleError → Type 0
Answers text (Ok es) = IsSchedule text es
Answers text (Err (BadEvent line)) = IsBadAt text line
Answers text (Err TooLong) = IsTooLong text
Answers text (Err Memory) = ⊤

-- some answer that isn't want of memory says so of a text
pub record HasAnswer (text : List ℕ) : Type 0 where
  pub answer : Result (List Event) ScheduleError
  pub is : Answers text answer
  pub told : answer ≢ Err Memory
