-- What is answered early has its cause.
use Rattle.std.proofs.Common.{◌≡◌, ℕ, Bool, true, false, List, Option, Some, refl, sym, ap, subst, ◌∙◌}
use Rattle.std.specs.Prelude.{Result, Err, codes, ◌&&◌}
use Rattle.c_lexer.specs.declared.token.LexError.{LexError}
use Rattle.c_tree.specs.declared.program.Mode.{Mode}
use Rattle.c_tree.specs.declared.program.Mode.TheVariants.{Source, Any}
use Rattle.c_tree.specs.Lined as lined
use Rattle.c_tree.specs.Lined.{bare_program}
use Rattle.c_rules.specs.declared.rule.Rule.{Rule}
use Rattle.c_rules.specs.declared.rule.Count.{Count}
use Rattle.c_check.specs.declared.answer.CheckError.{CheckError}
use Rattle.c_check.specs.declared.answer.CheckError.TheVariants as check_error
use Rattle.c_check.specs.Checked.{IsRefusal}
use Rattle.c_meaning.specs.declared.Event.{Event}
use Rattle.c_parser.specs.declared.error.ParseError.{ParseError}
use Rattle.c_parser.specs.Parsed.{Parsed, RefusedBy, SpelledBy}
use Rattle.contexts.specs.Walk.{Unresolved, TooMany}
use Rattle.context_walk.specs.declared.marks.ContextError.{ContextError}
use Rattle.context_walk.specs.Found as walked
use Rattle.contexts.specs.Outlines.{outlines, context_limit}
use Rattle.first_form.specs.FirstForm.{first_nested}
use Rattle.first_form.specs.Size.{has_first_text}
use Rattle.flow_graph.specs.Flow.{HasFlow, IsFlowError}
use Rattle.held_counts.specs.declared.HeldKind.{HeldKind}
use Rattle.outline_pieces.specs.declared.error.FlowError.{FlowError}
use Rattle.outline_pieces.specs.declared.error.FlowError.TheVariants as flow_error
use Rattle.schedule_texts.specs.Schedules as schedules
use Rattle.schedule_texts.specs.Inputs as inputs
use Rattle.answers.specs.declared.refusal.Refusal.{Refusal}
use Rattle.answers.specs.declared.refusal.Refusal.TheVariants.{Told, Memory}
use Rattle.answers.specs.declared.status.Status.{Status}
use Rattle.answers.specs.declared.status.Status.TheVariants as status
use Rattle.answers.specs.Answered.{Answered, telling}
use Rattle.answers.specs.Causes.{Causes, CauseOf}
use Rattle.answers.specs.Refusing.{Declines, Ends, RefusedAs, LimitedAs}
use Rattle.answers.specs.Reasons.{line_of, reason_of, reason_of_rule, reason_of_held, name_of_count}
use Rattle.answers.specs.Lines.{not_built_line, refused_line}
use Rattle.answers.specs.Programs as programs
use Rattle.answers.specs.Programs.{SpellsFormed, flaws}
use Rattle.answers.specs.Instrument as instrument
use Rattle.answers.specs.Run as run
use Rattle.answers.specs.Run.{Texts, schedule_flaws, input_flaws, status_of, traced_answer}
use Rattle.answers.specs.Traced.{trace_text}
use Rattle.c_check.specs.Tables.{numbers_of}
use Rattle.schedule_runner.specs.declared.runs.Trace.{Trace}
use Rattle.schedule_runner.specs.declared.runs.TraceEnd.{TraceEnd}
use Rattle.schedule_runner.specs.declared.runs.TraceEnd.TheVariants as end
use Rattle.schedule_runner.specs.Traces.{IsTrace}
use Rattle.answers.proofs.Instrumented.{flawed_is}
use Rattle.answers.proofs.Ran.{program_is}

-- ---- a text of a program

module _ (mode : Mode) (name bytes : List ℕ) where
  pub refused_at : (r : Refusal) (line : ℕ) (reason : List ℕ) → RefusedAs r name line reason → programs.IsRefused mode bytes line reason → Declines (flaws mode name bytes) r
  refused_at (Told a) line reason so why = rw so (record { line = line; reason = reason; refused = why; says = refl })
  refused_at Memory line reason so why = tt

  pub limited_at : (r : Refusal) (what : List ℕ) (number : ℕ) → LimitedAs r name what number → programs.Passes mode bytes what number → Declines (flaws mode name bytes) r
  limited_at (Told a) what number so why = rw so (record { what = what; number = number; passes = why; says = refl })
  limited_at Memory what number so why = tt

  pub of_error : (e f : ParseError) → Parsed bytes (Err e) → e ≡ f → Parsed bytes (Err f)
  of_error e f x same = subst (λ (z : ParseError). Parsed bytes (Err z)) same x

  pub lexed_at : (error : LexError) (line : ℕ) (reason : List ℕ) → RefusedBy bytes error → line ≡ line_of error → reason ≡ reason_of error → programs.IsRefused mode bytes line reason
  lexed_at error line reason x l r = rw (l, r) (programs.IsRefused.lexed x)

  pub refused_as : (p : lined.Program) (e f : CheckError) → IsRefusal p mode e → e ≡ f → IsRefusal p mode f
  refused_as p e f x same = subst (λ (z : CheckError). IsRefusal p mode z) same x

  pub broken_rule : (p : lined.Program) (rule : Rule) (line : ℕ) (reason : List ℕ) → SpelledBy bytes p → IsRefusal p mode (check_error.Rule rule line) → reason ≡ reason_of_rule rule
      → programs.IsRefused mode bytes line reason
  broken_rule p rule line reason spelled x r = rw r (programs.IsRefused.broken (record { program = p; spelled = spelled; broken = x }))

  pub passed_count : (p : lined.Program) (what : Count) (most : ℕ) (word : List ℕ) → SpelledBy bytes p → IsRefusal p mode (check_error.TooMany what most) → word ≡ name_of_count what
      → programs.Passes mode bytes word most
  passed_count p what most word spelled x w = rw (w, x.2) (programs.Passes.count (record { program = p; spelled = spelled; keeps_rules = x.0; passed = x.1 }))

-- ---- a refusal of one kind is one of another

pub declined : (c d : Causes) → ((s : Status) (told : List ℕ) → CauseOf c s told → CauseOf d s told) → (r : Refusal) → Declines c r → Declines d r
declined c d more (Told a) x = more a.status a.told x
declined c d more Memory x = tt

pub instrument_declined : (name bytes : List ℕ) (r : Refusal) → Declines (flaws Source name bytes) r → Declines (instrument.causes name bytes) r
instrument_declined name bytes r x = declined (flaws Source name bytes) (instrument.causes name bytes) (flawed_is name bytes) r x

module _ (names read : Texts) where
  pub run_declined : (r : Refusal) → Declines (flaws Any names.program read.program) r → Declines (run.causes names read) r
  run_declined r x = declined (flaws Any names.program read.program) (run.causes names read) (program_is names read) r x

  schedule_is : (p : lined.Program) → SpellsFormed Any read.program p → (s : Status) (told : List ℕ) → CauseOf (schedule_flaws names.schedule read.schedule) s told → CauseOf (run.causes names read) s told
  schedule_is p spells status.Done told x = absurd x
  schedule_is p spells status.No told x = absurd x
  schedule_is p spells status.Usage told x = absurd x
  schedule_is p spells status.Refused told x = run.Refuses.no_event p spells x
  schedule_is p spells status.Limit told x = run.Limits.events p spells x
  schedule_is p spells status.NoMonitor told x = absurd x
  schedule_is p spells status.HostFault told x = absurd x
  schedule_is p spells status.Memory told x = absurd x

  pub schedule_declined : (p : lined.Program) → SpellsFormed Any read.program p → (r : Refusal) → Declines (schedule_flaws names.schedule read.schedule) r → Declines (run.causes names read) r
  schedule_declined p spells r x = declined (schedule_flaws names.schedule read.schedule) (run.causes names read) (schedule_is p spells) r x

  input_is : (p : lined.Program) → SpellsFormed Any read.program p → (es : List Event) → schedules.IsSchedule read.schedule es
      → (s : Status) (told : List ℕ) → CauseOf (input_flaws names.input read.input) s told → CauseOf (run.causes names read) s told
  input_is p spells es says status.Done told x = absurd x
  input_is p spells es says status.No told x = absurd x
  input_is p spells es says status.Usage told x = absurd x
  input_is p spells es says status.Refused told x = run.Refuses.no_number p spells es says x
  input_is p spells es says status.Limit told x = absurd x
  input_is p spells es says status.NoMonitor told x = absurd x
  input_is p spells es says status.HostFault told x = absurd x
  input_is p spells es says status.Memory told x = absurd x

  pub input_declined : (p : lined.Program) → SpellsFormed Any read.program p → (es : List Event) → schedules.IsSchedule read.schedule es
      → (r : Refusal) → Declines (input_flaws names.input read.input) r → Declines (run.causes names read) r
  input_declined p spells es says r x = declined (input_flaws names.input read.input) (run.causes names read) (input_is p spells es says) r x

-- ---- a schedule, and an input

module _ (name bytes : List ℕ) where
  pub no_event : (r : Refusal) (line : ℕ) → RefusedAs r name line (codes "not an event") → schedules.IsBadAt bytes line → Declines (schedule_flaws name bytes) r
  no_event (Told a) line so bad = rw so (record { line = line; bad = bad; says = refl })
  no_event Memory line so bad = tt

  pub too_many_events : (r : Refusal) → LimitedAs r name (codes "events") 100000 → schedules.IsTooLong bytes → Declines (schedule_flaws name bytes) r
  too_many_events (Told a) so long = rw so (record { long = long; says = refl })
  too_many_events Memory so long = tt

  pub no_number : (r : Refusal) (line : ℕ) → RefusedAs r name line (codes "not a number") → inputs.IsBadAt bytes line → Declines (input_flaws name bytes) r
  no_number (Told a) line so bad = rw so (record { line = line; bad = bad; says = refl })
  no_number Memory line so bad = tt

-- ---- `instrument`

pub not_built : (name bytes : List ℕ) (a : Answered) (line : List ℕ) → instrument.IsOfOtherForm bytes → a ≡ telling status.Refused line → line ≡ not_built_line name → CauseOf (instrument.causes name bytes) a.status a.told
not_built name bytes a line other so says = rw so (instrument.Refuses.not_built other says)

pub and_first : (x y : Bool) → (x && y) ≡ true → x ≡ true
and_first true y e = refl
and_first false y e = absurd cc

pub nested_at : (name bytes : List ℕ) (r : Refusal) (p : lined.Program) (built : Bool) (found : Option ℕ) (line : ℕ) → SpellsFormed Source bytes p → HasFlow p
    → built ≡ has_first_text (bare_program p) → built ≡ true → found ≡ first_nested p → found ≡ Some line
    → RefusedAs r name line (codes "lock while a mutex is held") → Declines (instrument.causes name bytes) r
nested_at name bytes (Told a) p built found line spells flow same first found_is some so =
    rw so (instrument.Refuses.nested line (record { program = p; spells = spells; flow = flow; first_form = sym same ∙ first; nested = sym found_is ∙ some }) refl)
nested_at name bytes Memory p built found line spells flow same first found_is some so = tt

pub refused_so : (p : lined.Program) (e f : ContextError) → walked.IsRefusal e (outlines p) → e ≡ f → walked.IsRefusal f (outlines p)
refused_so p e f x same = subst (λ (z : ContextError). walked.IsRefusal z (outlines p)) same x

pub unresolved_at : (name bytes : List ℕ) (r : Refusal) (p : lined.Program) (line : ℕ) → SpellsFormed Source bytes p → outlines p ≡ Unresolved line
    → RefusedAs r name line (codes "lock is not constant in its context") → Declines (instrument.causes name bytes) r
unresolved_at name bytes (Told a) p line spells walk so = rw so (instrument.Refuses.unresolved line (record { program = p; spells = spells; unresolved = walk }) refl)
unresolved_at name bytes Memory p line spells walk so = tt

pub many_contexts : (name bytes : List ℕ) (r : Refusal) (p : lined.Program) → SpellsFormed Source bytes p → outlines p ≡ TooMany
    → LimitedAs r name (codes "contexts") context_limit → Declines (instrument.causes name bytes) r
many_contexts name bytes (Told a) p spells walk so = rw so (instrument.Limits.contexts (record { program = p; spells = spells; many = walk }) refl)
many_contexts name bytes Memory p spells walk so = tt

pub flow_error_so : (p : lined.Program) (e f : FlowError) → IsFlowError p e → e ≡ f → IsFlowError p f
flow_error_so p e f x same = subst (λ (z : FlowError). IsFlowError p z) same x

pub many_points : (name bytes : List ℕ) (r : Refusal) (p : lined.Program) → SpellsFormed Source bytes p → IsFlowError p flow_error.TooManyPoints
    → LimitedAs r name (codes "points") 4096 → Declines (instrument.causes name bytes) r
many_points name bytes (Told a) p spells error so = rw so (instrument.Limits.points (record { program = p; spells = spells; error = error }) refl)
many_points name bytes Memory p spells error so = tt

pub held_at : (name bytes : List ℕ) (r : Refusal) (p : lined.Program) (kind : HeldKind) (line : ℕ) (reason : List ℕ) → SpellsFormed Source bytes p
    → IsFlowError p (flow_error.Held kind line) → reason ≡ reason_of_held kind → RefusedAs r name line reason → Declines (instrument.causes name bytes) r
held_at name bytes (Told a) p kind line reason spells error says so =
    rw so (instrument.Refuses.held kind line (record { program = p; spells = spells; error = error }) (ap (refused_line name line) says))
held_at name bytes Memory p kind line reason spells error says so = tt

-- ---- `run`

traced_by : (names read : Texts) (t : Trace) (acc : run.IsAccepted read) → IsTrace (bare_program acc.program) (numbers_of (bare_program acc.program)) acc.values acc.events t
    → (e : TraceEnd) → t.end ≡ e → CauseOf (run.causes names read) (status_of e) (trace_text t)
traced_by names read t acc is end.All e = record { trace = t; traced = record { accepted = acc; is = is }; whole = e; says = refl }
traced_by names read t acc is (end.NotEnabled k) e = record { trace = t; traced = record { accepted = acc; is = is }; short = λ all. let f = sym e ∙ all in absurd (cc f); says = refl }
traced_by names read t acc is (end.Undefined k) e = record { trace = t; traced = record { accepted = acc; is = is }; short = λ all. let f = sym e ∙ all in absurd (cc f); says = refl }

pub traced_told : (names read : Texts) (t : Trace) (a : Answered) (acc : run.IsAccepted read) → IsTrace (bare_program acc.program) (numbers_of (bare_program acc.program)) acc.values acc.events t
    → a ≡ traced_answer t → CauseOf (run.causes names read) a.status a.told
traced_told names read t a acc is so = rw so (traced_by names read t acc is t.end refl)

pub ends_err : (names read : Texts) (r : Result Answered Refusal) (refusal : Refusal) → r ≡ Err refusal → Declines (run.causes names read) refusal → Ends (run.causes names read) r
ends_err names read r refusal same x = rw same x
