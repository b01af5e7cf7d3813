-- Texts have one answer of `run`.
use Rattle.std.proofs.Common.{◌≡◌, ◌≢◌, ℕ, true, List, refl, sym, ap, subst, ◌∙◌}
use Rattle.std.specs.Prelude.{ℤ, Result, Ok, Err, codes}
use Rattle.c_tree.specs.declared.program.Mode.TheVariants.{Any}
use Rattle.c_tree.specs.Bare.{Program}
use Rattle.c_tree.specs.Lined as lined
use Rattle.c_tree.specs.Lined.{bare_program}
use Rattle.c_check.specs.Tables.{Numbers, numbers_of}
use Rattle.c_meaning.specs.declared.Event.{Event}
use Rattle.schedule_texts.specs.declared.input.InputError.{InputError}
use Rattle.schedule_texts.specs.declared.input.InputError.TheVariants as input_error
use Rattle.schedule_texts.specs.declared.schedule.ScheduleError.{ScheduleError}
use Rattle.schedule_texts.specs.declared.schedule.ScheduleError.TheVariants as schedule_error
use Rattle.schedule_texts.specs.Schedules as schedules
use Rattle.schedule_texts.specs.Inputs as inputs
use Rattle.schedule_runner.specs.declared.runs.Trace.{Trace}
use Rattle.schedule_runner.specs.declared.runs.TraceEnd.{TraceEnd}
use Rattle.schedule_runner.specs.declared.runs.TraceEnd.TheVariants as end
use Rattle.schedule_runner.specs.Traces.{IsTrace}
use Rattle.answers.specs.declared.status.Status.{Status}
use Rattle.answers.specs.declared.status.Status.TheVariants as status
use Rattle.answers.specs.Answered.{Answered, telling}
use Rattle.answers.specs.Causes.{CauseOf, Decides, HasAnswer, HasOneAnswer}
use Rattle.answers.specs.Lines.{refused_line, limit_line}
use Rattle.answers.specs.Programs.{SpellsFormed, flaws}
use Rattle.answers.specs.Statuses.{is_written}
use Rattle.answers.specs.Traced.{trace_text}
use Rattle.answers.specs.Run as run
use Rattle.answers.specs.Run.{Texts, IsAccepted, causes, status_of, traced_answer}
use Rattle.answers.proofs.Judging.{RuleLaws}
use Rattle.answers.proofs.Verdicts.{Verdict, IsVerdict, one_verdict, some_verdict}

-- what is used of schedules, inputs and traces: there is one of each, and no other
pub record RunLaws : Type 0 where
  pub one_schedule : (text : List ℕ) (r q : Result (List Event) ScheduleError) → schedules.Answers text r → schedules.Answers text q
      → r ≢ Err schedule_error.Memory → q ≢ Err schedule_error.Memory → r ≡ q
  pub one_input : (text : List ℕ) (r q : Result (List ℤ) InputError) → inputs.Answers text r → inputs.Answers text q
      → r ≢ Err input_error.Memory → q ≢ Err input_error.Memory → r ≡ q
  pub each_schedule : (text : List ℕ) → schedules.HasAnswer text
  pub each_input : (text : List ℕ) → inputs.HasAnswer text
  pub each_trace : (p : Program) (n : Numbers) (values : List ℤ) (es : List Event) → (t : Trace) × IsTrace p n values es t
  pub one_trace : (p : Program) (n : Numbers) (values : List ℤ) (es : List Event) (t u : Trace) → IsTrace p n values es t → IsTrace p n values es u
      → t ≡ u

-- the end of a trace, and its status
whole_done : (e : TraceEnd) → e ≡ end.All → status_of e ≡ status.Done
whole_done e same = ap status_of same

short_no : (e : TraceEnd) → e ≢ end.All → status_of e ≡ status.No
short_no end.All other = absurd (other refl)
short_no (end.NotEnabled k) other = refl
short_no (end.Undefined k) other = refl

status_written : (e : TraceEnd) → is_written (status_of e) ≡ true
status_written end.All = refl
status_written (end.NotEnabled k) = refl
status_written (end.Undefined k) = refl

module _ (laws : RuleLaws) (own : RunLaws) (names read : Texts) where
  -- an answer by what was read of the input, of the schedule and of the program
  abbrev ByInput : Program → List Event → Result (List ℤ) InputError → Answered → Type 0
  ByInput p es (Ok values) a = (t : Trace) × IsTrace p (numbers_of p) values es t × (a ≡ traced_answer t)
  ByInput p es (Err (input_error.BadInput line)) a = a ≡ telling status.Refused (refused_line names.input line (codes "not a number"))
  ByInput p es (Err input_error.Memory) a = ⊥

  record InputRead (p : Program) (es : List Event) (a : Answered) : Type 0 where
    found : Result (List ℤ) InputError
    is : inputs.Answers read.input found
    told : found ≢ Err input_error.Memory
    by : ByInput p es found a

  abbrev BySchedule : Program → Result (List Event) ScheduleError → Answered → Type 0
  BySchedule p (Ok es) a = InputRead p es a
  BySchedule p (Err (schedule_error.BadEvent line)) a = a ≡ telling status.Refused (refused_line names.schedule line (codes "not an event"))
  BySchedule p (Err schedule_error.TooLong) a = a ≡ telling status.Limit (limit_line names.schedule (codes "events") 100000)
  BySchedule p (Err schedule_error.Memory) a = ⊥

  record ScheduleRead (p : Program) (a : Answered) : Type 0 where
    found : Result (List Event) ScheduleError
    is : schedules.Answers read.schedule found
    told : found ≢ Err schedule_error.Memory
    by : BySchedule p found a

  abbrev ByVerdict : Verdict → Answered → Type 0
  ByVerdict (Verdict.formed p) a = ScheduleRead (bare_program p) a
  ByVerdict (Verdict.flawed f) a = a ≡ f

  record Comes (a : Answered) : Type 0 where
    verdict : Verdict
    is : IsVerdict Any names.program read.program verdict
    by : ByVerdict verdict a

  -- ---- there is one at most

  one_by_input : (p : Program) (es : List Event) (found : Result (List ℤ) InputError) (a b : Answered) → ByInput p es found a → ByInput p es found b → a ≡ b
  one_by_input p es (Ok values) a b x y = x.2 ∙ ap traced_answer (own.one_trace p (numbers_of p) values es x.0 y.0 x.1 y.1) ∙ sym y.2
  one_by_input p es (Err (input_error.BadInput line)) a b x y = x ∙ sym y
  one_by_input p es (Err input_error.Memory) a b x y = absurd x

  one_input_read : (p : Program) (es : List Event) (a b : Answered) → InputRead p es a → InputRead p es b → a ≡ b
  one_input_read p es a b x y =
      let same = own.one_input read.input x.found y.found x.is y.is x.told y.told in
      one_by_input p es y.found a b (subst (λ f. ByInput p es f a) same x.by) y.by

  one_by_schedule : (p : Program) (found : Result (List Event) ScheduleError) (a b : Answered) → BySchedule p found a → BySchedule p found b → a ≡ b
  one_by_schedule p (Ok es) a b x y = one_input_read p es a b x y
  one_by_schedule p (Err (schedule_error.BadEvent line)) a b x y = x ∙ sym y
  one_by_schedule p (Err schedule_error.TooLong) a b x y = x ∙ sym y
  one_by_schedule p (Err schedule_error.Memory) a b x y = absurd x

  one_schedule_read : (p : Program) (a b : Answered) → ScheduleRead p a → ScheduleRead p b → a ≡ b
  one_schedule_read p a b x y =
      let same = own.one_schedule read.schedule x.found y.found x.is y.is x.told y.told in
      one_by_schedule p y.found a b (subst (λ f. BySchedule p f a) same x.by) y.by

  one_by_verdict : (v : Verdict) (a b : Answered) → ByVerdict v a → ByVerdict v b → a ≡ b
  one_by_verdict (Verdict.formed p) a b x y = one_schedule_read (bare_program p) a b x y
  one_by_verdict (Verdict.flawed f) a b x y = x ∙ sym y

  one_comes : (a b : Answered) → Comes a → Comes b → a ≡ b
  one_comes a b x y =
      let same = one_verdict laws Any names.program read.program x.verdict y.verdict x.is y.is in
      one_by_verdict y.verdict a b (subst (λ v. ByVerdict v a) same x.by) y.by

  -- ---- each answer comes so

  traced_comes : (acc : IsAccepted read) (t : Trace) → IsTrace (bare_program acc.program) (numbers_of (bare_program acc.program)) acc.values acc.events t
      → Comes (traced_answer t)
  traced_comes acc t is = record {
    verdict = Verdict.formed acc.program;
    is = acc.spells;
    by = record {
      found = Ok acc.events;
      is = acc.schedule;
      told = λ e. absurd cc;
      by = record { found = Ok acc.values; is = acc.input; told = λ e. absurd cc; by = (t, is, refl) };
    };
  }

  runs_come : (told : List ℕ) → run.Runs read told → Comes (telling status.Done told)
  runs_come told x = subst Comes (rw (whole_done x.trace.end x.whole, x.says) refl) (traced_comes x.traced.accepted x.trace x.traced.is)

  stops_come : (told : List ℕ) → run.Stops read told → Comes (telling status.No told)
  stops_come told x = subst Comes (rw (short_no x.trace.end x.short, x.says) refl) (traced_comes x.traced.accepted x.trace x.traced.is)

  refused_comes : (told : List ℕ) → run.Refuses names read told → Comes (telling status.Refused told)
  refused_comes told (run.Refuses.flawed x) = record { verdict = Verdict.flawed (telling status.Refused told); is = x; by = refl }
  refused_comes told (run.Refuses.no_event p spells x) = record {
    verdict = Verdict.formed p;
    is = spells;
    by = record { found = Err (schedule_error.BadEvent x.line); is = x.bad; told = λ e. absurd cc; by = ap (telling status.Refused) x.says };
  }
  refused_comes told (run.Refuses.no_number p spells es says x) = record {
    verdict = Verdict.formed p;
    is = spells;
    by = record {
      found = Ok es;
      is = says;
      told = λ e. absurd cc;
      by = record { found = Err (input_error.BadInput x.line); is = x.bad; told = λ e. absurd cc; by = ap (telling status.Refused) x.says };
    };
  }

  limit_comes : (told : List ℕ) → run.Limits names read told → Comes (telling status.Limit told)
  limit_comes told (run.Limits.flawed x) = record { verdict = Verdict.flawed (telling status.Limit told); is = x; by = refl }
  limit_comes told (run.Limits.events p spells x) = record {
    verdict = Verdict.formed p;
    is = spells;
    by = record { found = Err schedule_error.TooLong; is = x.long; told = λ e. absurd cc; by = ap (telling status.Limit) x.says };
  }

  comes : (s : Status) (told : List ℕ) → CauseOf (causes names read) s told → Comes (telling s told)
  comes status.Done told x = runs_come told x
  comes status.No told x = stops_come told x
  comes status.Usage told x = absurd x
  comes status.Refused told x = refused_comes told x
  comes status.Limit told x = limit_comes told x
  comes status.NoMonitor told x = absurd x
  comes status.HostFault told x = absurd x
  comes status.Memory told x = absurd x

  pub one_answer : HasOneAnswer (causes names read)
  one_answer a b x y = one_comes a b (comes a.status a.told x) (comes b.status b.told y)

  -- ---- what is accepted is written

  input_written : (p : Program) (es : List Event) (values : List ℤ) → inputs.AreNumbers (schedules.lines_of read.input) values → (a : Answered) → InputRead p es a
      → is_written a.status ≡ true
  input_written p es values numbers a x =
      let same = own.one_input read.input x.found (Ok values) x.is numbers x.told (λ e. absurd cc) in
      let by : ByInput p es (Ok values) a = subst (λ f. ByInput p es f a) same x.by in
      ap (λ b. is_written b.status) by.2 ∙ status_written by.0.end

  schedule_written : (p : Program) (es : List Event) (values : List ℤ) → schedules.IsSchedule read.schedule es → inputs.AreNumbers (schedules.lines_of read.input) values
      → (a : Answered) → ScheduleRead p a → is_written a.status ≡ true
  schedule_written p es values events numbers a x =
      let same = own.one_schedule read.schedule x.found (Ok es) x.is events x.told (λ e. absurd cc) in
      input_written p es values numbers a (subst (λ f. BySchedule p f a) same x.by)

  pub accepted_written : IsAccepted read → (a : Answered) → Decides (causes names read) a → is_written a.status ≡ true
  accepted_written acc a x =
      let c = comes a.status a.told x in
      let same = one_verdict laws Any names.program read.program c.verdict (Verdict.formed acc.program) c.is acc.spells in
      schedule_written (bare_program acc.program) acc.events acc.values acc.schedule acc.input a (subst (λ v. ByVerdict v a) same c.by)

-- ---- there is one

module _ (names read : Texts) where
  pub program_is : (s : Status) (told : List ℕ) → CauseOf (flaws Any names.program read.program) s told → CauseOf (run.causes names read) s told
  program_is status.Done told x = absurd x
  program_is status.No told x = absurd x
  program_is status.Usage told x = absurd x
  program_is status.Refused told x = run.Refuses.flawed x
  program_is status.Limit told x = run.Limits.flawed x
  program_is status.NoMonitor told x = absurd x
  program_is status.HostFault told x = absurd x
  program_is status.Memory told x = absurd x

  ended : (t : Trace) (acc : IsAccepted read) → IsTrace (bare_program acc.program) (numbers_of (bare_program acc.program)) acc.values acc.events t
      → (e : TraceEnd) → t.end ≡ e → HasAnswer (causes names read)
  ended t acc is end.All e = record {
    answer = telling status.Done (trace_text t);
    is = record { trace = t; traced = record { accepted = acc; is = is }; whole = e; says = refl };
  }
  ended t acc is (end.NotEnabled k) e = record {
    answer = telling status.No (trace_text t);
    is = record { trace = t; traced = record { accepted = acc; is = is }; short = λ all. let f = sym e ∙ all in absurd (cc f); says = refl };
  }
  ended t acc is (end.Undefined k) e = record {
    answer = telling status.No (trace_text t);
    is = record { trace = t; traced = record { accepted = acc; is = is }; short = λ all. let f = sym e ∙ all in absurd (cc f); says = refl };
  }

  module _ (laws : RuleLaws) (own : RunLaws) where
    of_input : (p : lined.Program) → SpellsFormed Any read.program p → (es : List Event) → schedules.IsSchedule read.schedule es
        → (found : Result (List ℤ) InputError) → inputs.Answers read.input found → found ≢ Err input_error.Memory → HasAnswer (causes names read)
    of_input p spells es says (Ok values) is told =
        let t = own.each_trace (bare_program p) (numbers_of (bare_program p)) values es in
        ended t.0 (record { program = p; spells = spells; events = es; schedule = says; values = values; input = is }) t.1 t.0.end refl
    of_input p spells es says (Err (input_error.BadInput line)) is told = record {
      answer = telling status.Refused (refused_line names.input line (codes "not a number"));
      is = run.Refuses.no_number p spells es says (record { line = line; bad = is; says = refl });
    }
    of_input p spells es says (Err input_error.Memory) is told = absurd (told refl)

    of_schedule : (p : lined.Program) → SpellsFormed Any read.program p → (found : Result (List Event) ScheduleError) → schedules.Answers read.schedule found
        → found ≢ Err schedule_error.Memory → HasAnswer (causes names read)
    of_schedule p spells (Ok es) is told = let i = own.each_input read.input in of_input p spells es is i.answer i.is i.told
    of_schedule p spells (Err (schedule_error.BadEvent line)) is told = record {
      answer = telling status.Refused (refused_line names.schedule line (codes "not an event"));
      is = run.Refuses.no_event p spells (record { line = line; bad = is; says = refl });
    }
    of_schedule p spells (Err schedule_error.TooLong) is told = record {
      answer = telling status.Limit (limit_line names.schedule (codes "events") 100000);
      is = run.Limits.events p spells (record { long = is; says = refl });
    }
    of_schedule p spells (Err schedule_error.Memory) is told = absurd (told refl)

    of_verdict : (v : Verdict) → IsVerdict Any names.program read.program v → HasAnswer (causes names read)
    of_verdict (Verdict.formed p) x = let s = own.each_schedule read.schedule in of_schedule p x s.answer s.is s.told
    of_verdict (Verdict.flawed a) x = record { answer = a; is = program_is a.status a.told x }

    pub some_answer : HasAnswer (causes names read)
    some_answer = let v = some_verdict laws Any names.program read.program in of_verdict v.0 v.1
