-- What `run` answers of a program, a schedule and an input.
use Rattle.std.specs.Prelude.{◌≡◌, ◌≢◌, ℕ, ℤ, List, codes}
use Rattle.c_tree.specs.declared.program.Mode.TheVariants.{Any}
use Rattle.c_tree.specs.Lined as lined
use Rattle.c_tree.specs.Lined.{bare_program}
use Rattle.c_check.specs.Tables.{numbers_of}
use Rattle.c_meaning.specs.declared.Event.{Event}
use Rattle.schedule_texts.specs.Schedules as schedules
use Rattle.schedule_texts.specs.Schedules.{IsSchedule, lines_of}
use Rattle.schedule_texts.specs.Inputs as inputs
use Rattle.schedule_texts.specs.Inputs.{AreNumbers}
use Rattle.schedule_runner.specs.declared.runs.Trace.{Trace}
use Rattle.schedule_runner.specs.declared.runs.TraceEnd.{TraceEnd}
use Rattle.schedule_runner.specs.declared.runs.TraceEnd.TheVariants.{All, NotEnabled, Undefined}
use Rattle.schedule_runner.specs.Traces.{IsTrace}
use Rattle.answers.specs.declared.status.Status.{Status}
use Rattle.answers.specs.declared.status.Status.TheVariants.{Done, No}
use Rattle.answers.specs.Answered.{Answered, telling}
use Rattle.answers.specs.Causes.{Causes}
use Rattle.answers.specs.Lines.{refused_line, limit_line}
use Rattle.answers.specs.Programs as programs
use Rattle.answers.specs.Programs.{SpellsFormed}
use Rattle.answers.specs.Traced.{trace_text}

-- the names of the three files, and their contents
pub record Texts : Type 0 where
  pub program : List ℕ
  pub schedule : List ℕ
  pub input : List ℕ

-- the contents are a well-formed program, with monitors or without, a schedule and an input
pub record IsAccepted (read : Texts) : Type 0 where
  pub program : lined.Program
  pub spells : SpellsFormed Any read.program program
  pub events : List Event
  pub schedule : IsSchedule read.schedule events
  pub values : List ℤ
  pub input : AreNumbers (lines_of read.input) values

-- the trace of such a run
pub record IsTraced (read : Texts) (trace : Trace) : Type 0 where
  pub accepted : IsAccepted read
  pub is : IsTrace (bare_program accepted.program) (numbers_of (bare_program accepted.program)) accepted.values accepted.events trace

-- the whole schedule is a run, and this is the text of its trace
pub record Runs (read : Texts) (told : List ℕ) : Type 0 where
  pub trace : Trace
  pub traced : IsTraced read trace
  pub whole : trace.end ≡ All
  pub says : told ≡ trace_text trace

-- the schedule is no run: an event isn't enabled in its turn, or is undefined
pub record Stops (read : Texts) (told : List ℕ) : Type 0 where
  pub trace : Trace
  pub traced : IsTraced read trace
  pub short : trace.end ≢ All
  pub says : told ≡ trace_text trace

-- the line that names the first line of a schedule that says something and no event
pub record HasNoEvent (name bytes told : List ℕ) : Type 0 where
  pub line : ℕ
  pub bad : schedules.IsBadAt bytes line
  pub says : told ≡ refused_line name line (codes "not an event")

-- the line of a schedule in which too many events stand before any such line
pub record HasTooManyEvents (name bytes told : List ℕ) : Type 0 where
  pub long : schedules.IsTooLong bytes
  pub says : told ≡ limit_line name (codes "events") 100000

-- the line that names the line of the first word of an input that is no number
pub record HasNoNumber (name bytes told : List ℕ) : Type 0 where
  pub line : ℕ
  pub bad : inputs.IsBadAt bytes line
  pub says : told ≡ refused_line name line (codes "not a number")

-- the causes of a text that is no schedule, and of one that is no input
abbrev pub schedule_flaws : List ℕ → List ℕ → Causes
schedule_flaws name bytes = record { accepted = ⊥; done = λ told. ⊥; no = λ told. ⊥; refused = HasNoEvent name bytes; limit = HasTooManyEvents name bytes; no_monitor = λ told. ⊥ }

abbrev pub input_flaws : List ℕ → List ℕ → Causes
input_flaws name bytes = record { accepted = ⊥; done = λ told. ⊥; no = λ told. ⊥; refused = HasNoNumber name bytes; limit = λ told. ⊥; no_monitor = λ told. ⊥ }

-- the lines that say why a file isn't taken: the program is judged first, then the schedule, then the input
pub data Refuses (names read : Texts) (told : List ℕ) : Type 0 where
  flawed : programs.Refuses Any names.program read.program told → Refuses names read told
  no_event : (program : lined.Program) → SpellsFormed Any read.program program → HasNoEvent names.schedule read.schedule told → Refuses names read told
  no_number : (program : lined.Program) → SpellsFormed Any read.program program → (events : List Event) → IsSchedule read.schedule events
      → HasNoNumber names.input read.input told → Refuses names read told

pub data Limits (names read : Texts) (told : List ℕ) : Type 0 where
  flawed : programs.Limits Any names.program read.program told → Limits names read told
  events : (program : lined.Program) → SpellsFormed Any read.program program → HasTooManyEvents names.schedule read.schedule told → Limits names read told

abbrev pub causes : Texts → Texts → Causes
causes names read = record {
  accepted = IsAccepted read;
  done = Runs read;
  no = Stops read;
  refused = Refuses names read;
  limit = Limits names read;
  no_monitor = λ told. ⊥;
}

-- what is answered of a trace
abbrev pub status_of : TraceEnd → Status
status_of All = Done
status_of (NotEnabled number) = No
status_of (Undefined number) = No

abbrev pub traced_answer : Trace → Answered
traced_answer trace = telling (status_of trace.end) (trace_text trace)
