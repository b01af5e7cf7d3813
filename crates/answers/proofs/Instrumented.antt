-- A text has one answer of `instrument`.
use Rattle.std.proofs.Common.{◌≡◌, ℕ, Bool, true, false, List, length, Option, Some, None, refl, sym, ap, ◌∙◌}
use Rattle.std.proofs.lemmas.Bool.{le-leb, lt-leb, leb-true, leb-false}
use Rattle.std.specs.Prelude.{codes, nat_le}
use Rattle.c_tree.specs.declared.program.Mode.TheVariants.{Source}
use Rattle.c_tree.specs.Lined as lined
use Rattle.c_tree.specs.Lined.{bare_program}
use Rattle.c_tree.specs.Numbering.{mutex_count}
use Rattle.outlines.specs.Outline.{Thread}
use Rattle.outlines.specs.Points.{all_rows}
use Rattle.contexts.specs.Walk.{Walked, Found, Unresolved, TooMany}
use Rattle.contexts.specs.Outlines.{outlines, context_limit}
use Rattle.first_form.specs.FirstForm.{first_nested}
use Rattle.first_form.specs.Size.{has_first_text}
use Rattle.flow_graph.specs.Flow.{nothing_held, HasFlow, IsFlowError}
use Rattle.held_counts.specs.declared.HeldKind.{HeldKind}
use Rattle.held_counts.specs.Refusals.{Refusal, refused_threads}
use Rattle.outline_pieces.specs.declared.error.FlowError.TheVariants as flow_error
use Rattle.answers.specs.declared.status.Status.{Status}
use Rattle.answers.specs.declared.status.Status.TheVariants as status
use Rattle.answers.specs.Answered.{Answered, telling}
use Rattle.answers.specs.Causes.{CauseOf, Decides, HasAnswer, HasOneAnswer}
use Rattle.answers.specs.Lines.{refused_line, limit_line, not_built_line}
use Rattle.answers.specs.Programs.{SpellsFormed, flaws}
use Rattle.answers.specs.Reasons.{reason_of_held}
use Rattle.answers.specs.Statuses.{is_written}
use Rattle.answers.specs.Instrument as instrument
use Rattle.answers.specs.Instrument.{causes, IsAccepted}
use Rattle.answers.proofs.Judging.{RuleLaws}
use Rattle.answers.proofs.Verdicts.{Verdict, IsVerdict, one_verdict, some_verdict}

-- a flaw is a cause
pub flawed_is : (name bytes : List ℕ) (s : Status) (told : List ℕ) → CauseOf (flaws Source name bytes) s told → CauseOf (causes name bytes) s told
flawed_is name bytes status.Done told x = absurd x
flawed_is name bytes status.No told x = absurd x
flawed_is name bytes status.Usage told x = absurd x
flawed_is name bytes status.Refused told x = instrument.Refuses.flawed x
flawed_is name bytes status.Limit told x = instrument.Limits.flawed x
flawed_is name bytes status.NoMonitor told x = absurd x
flawed_is name bytes status.HostFault told x = absurd x
flawed_is name bytes status.Memory told x = absurd x

-- how many points threads have
abbrev point_count : List Thread → ℕ
point_count ths = length (all_rows 0 ths 0)

-- the first refusal of what the threads of a program hold
abbrev refusal_of : lined.Program → List Thread → Option Refusal
refusal_of p ths = refused_threads (mutex_count (bare_program p)) (nothing_held (bare_program p)) ths

module _ (laws : RuleLaws) (name bytes : List ℕ) where
  abbrev nested_reason : List ℕ
  nested_reason = codes "lock while a mutex is held"

  abbrev unresolved_reason : List ℕ
  unresolved_reason = codes "lock is not constant in its context"

  abbrev first_by : Bool → Option ℕ → Answered
  first_by false found = telling status.Refused (not_built_line name)
  first_by true None = telling status.Done bytes
  first_by true (Some line) = telling status.Refused (refused_line name line nested_reason)

  abbrev form_by : lined.Program → Answered
  form_by p = first_by (has_first_text (bare_program p)) (first_nested p)

  abbrev held_by : Option Refusal → Answered → Answered
  held_by None behind = behind
  held_by (Some r) behind = telling status.Refused (refused_line name r.line (reason_of_held r.kind))

  -- by whether there are no more points than there may be
  abbrev few_by : Bool → Answered → Answered
  few_by true behind = behind
  few_by false behind = telling status.Limit (limit_line name (codes "points") 4096)

  abbrev flow_by : lined.Program → List Thread → Answered
  flow_by p ths = few_by (nat_le (point_count ths) 4096) (held_by (refusal_of p ths) (form_by p))

  abbrev walked_by : lined.Program → Walked (List Thread) → Answered
  walked_by p (Found ths n) = flow_by p ths
  walked_by p (Unresolved line) = telling status.Refused (refused_line name line unresolved_reason)
  walked_by p TooMany = telling status.Limit (limit_line name (codes "contexts") context_limit)

  abbrev answer_by : Verdict → Answered
  answer_by (Verdict.formed p) = walked_by p (outlines p)
  answer_by (Verdict.flawed a) = a

  record Comes (a : Answered) : Type 0 where
    verdict : Verdict
    is : IsVerdict Source name bytes verdict
    same : a ≡ answer_by verdict

  of_walk : (p : lined.Program) → SpellsFormed Source bytes p → (w : Walked (List Thread)) → outlines p ≡ w → (a : Answered) → a ≡ walked_by p w → Comes a
  of_walk p spells w walk a is = record {
    verdict = Verdict.formed p;
    is = spells;
    same = is ∙ sym (ap (walked_by p) walk);
  }

  -- by whether there are few points, and what refuses what is held
  by_points : (p : lined.Program) (ths : List Thread) (few : Bool) → nat_le (point_count ths) 4096 ≡ few → few_by few (held_by (refusal_of p ths) (form_by p)) ≡ flow_by p ths
  by_points p ths few e = sym (ap (λ b. few_by b (held_by (refusal_of p ths) (form_by p))) e)

  by_held : (p : lined.Program) (ths : List Thread) (r : Option Refusal) → nat_le (point_count ths) 4096 ≡ true → refusal_of p ths ≡ r → held_by r (form_by p) ≡ flow_by p ths
  by_held p ths r few e = sym (ap (λ o. held_by o (form_by p)) e) ∙ by_points p ths true few

  -- a program whose threads have points and edges is answered by its form
  of_form : (p : lined.Program) → SpellsFormed Source bytes p → HasFlow p → (built : Bool) → has_first_text (bare_program p) ≡ built → (found : Option ℕ) → first_nested p ≡ found
      → (a : Answered) → a ≡ first_by built found → Comes a
  of_form p spells flow built form found nested a is =
      of_walk p spells (Found flow.threads flow.places) flow.found a
      (is ∙ sym (ap (λ b. first_by b found) form) ∙ sym (ap (first_by (has_first_text (bare_program p))) nested)
      ∙ by_held p flow.threads None (le-leb (point_count flow.threads) 4096 flow.few) flow.accepted)

  of_other : (p : lined.Program) → SpellsFormed Source bytes p → HasFlow p → has_first_text (bare_program p) ≡ false → (a : Answered) → a ≡ telling status.Refused (not_built_line name) → Comes a
  of_other p spells flow other a is = of_form p spells flow false other (first_nested p) refl a is

  of_points : (p : lined.Program) → SpellsFormed Source bytes p → IsFlowError p flow_error.TooManyPoints → (a : Answered)
      → a ≡ telling status.Limit (limit_line name (codes "points") 4096) → Comes a
  of_points p spells x a is =
      of_walk p spells (Found x.threads x.places) x.found a (is ∙ by_points p x.threads false (lt-leb (point_count x.threads) 4096 x.error))

  of_held : (p : lined.Program) → SpellsFormed Source bytes p → (kind : HeldKind) (line : ℕ) → IsFlowError p (flow_error.Held kind line) → (a : Answered)
      → a ≡ telling status.Refused (refused_line name line (reason_of_held kind)) → Comes a
  of_held p spells kind line x a is =
      of_walk p spells (Found x.threads x.places) x.found a
      (is ∙ by_held p x.threads (Some (record { kind = kind; line = line })) (le-leb (point_count x.threads) 4096 x.error.0) x.error.1)

  refused_comes : (told : List ℕ) → instrument.Refuses name bytes told → Comes (telling status.Refused told)
  refused_comes told (instrument.Refuses.flawed x) = record { verdict = Verdict.flawed (telling status.Refused told); is = x; same = refl }
  refused_comes told (instrument.Refuses.unresolved line x says) = of_walk x.program x.spells (Unresolved line) x.unresolved (telling status.Refused told) (ap (telling status.Refused) says)
  refused_comes told (instrument.Refuses.held kind line x says) = of_held x.program x.spells kind line x.error (telling status.Refused told) (ap (telling status.Refused) says)
  refused_comes told (instrument.Refuses.nested line x says) = of_form x.program x.spells x.flow true x.first_form (Some line) x.nested (telling status.Refused told) (ap (telling status.Refused) says)
  refused_comes told (instrument.Refuses.not_built x says) = of_other x.program x.spells x.flow x.other (telling status.Refused told) (ap (telling status.Refused) says)

  limited_comes : (told : List ℕ) → instrument.Limits name bytes told → Comes (telling status.Limit told)
  limited_comes told (instrument.Limits.flawed x) = record { verdict = Verdict.flawed (telling status.Limit told); is = x; same = refl }
  limited_comes told (instrument.Limits.contexts x says) = of_walk x.program x.spells TooMany x.many (telling status.Limit told) (ap (telling status.Limit) says)
  limited_comes told (instrument.Limits.points x says) = of_points x.program x.spells x.error (telling status.Limit told) (ap (telling status.Limit) says)

  done_comes : (told : List ℕ) (x : IsAccepted bytes) → told ≡ bytes → Comes (telling status.Done told)
  done_comes told x says = of_form x.program x.spells x.flow true x.first_form None x.not_nested (telling status.Done told) (ap (telling status.Done) says)

  comes : (s : Status) (told : List ℕ) → CauseOf (causes name bytes) s told → Comes (telling s told)
  comes status.Done told x = done_comes told x.0 x.1
  comes status.No told x = absurd x
  comes status.Usage told x = absurd x
  comes status.Refused told x = refused_comes told x
  comes status.Limit told x = limited_comes told x
  comes status.NoMonitor told x = absurd x
  comes status.HostFault told x = absurd x
  comes status.Memory told x = absurd x

  one_comes : (a b : Answered) → Comes a → Comes b → a ≡ b
  one_comes a b x y = x.same ∙ ap answer_by (one_verdict laws Source name bytes x.verdict y.verdict x.is y.is) ∙ sym y.same

  pub one_answer : HasOneAnswer (causes name bytes)
  one_answer a b x y = one_comes a b (comes a.status a.told x) (comes b.status b.told y)

  -- what is accepted is written
  pub accepted_written : IsAccepted bytes → (a : Answered) → Decides (causes name bytes) a → is_written a.status ≡ true
  accepted_written acc a x = ap (λ b. is_written b.status) (one_answer a (telling status.Done bytes) x (acc, refl))

  -- ---- there is one

  form_answer : (p : lined.Program) → SpellsFormed Source bytes p → HasFlow p → (built : Bool) → has_first_text (bare_program p) ≡ built
      → (found : Option ℕ) → first_nested p ≡ found → HasAnswer (causes name bytes)
  form_answer p spells flow false other found e = record {
    answer = telling status.Refused (not_built_line name);
    is = instrument.Refuses.not_built (record { program = p; spells = spells; flow = flow; other = other }) refl;
  }
  form_answer p spells flow true first None e = record {
    answer = telling status.Done bytes;
    is = (record { program = p; spells = spells; flow = flow; first_form = first; not_nested = e }, refl);
  }
  form_answer p spells flow true first (Some line) e = record {
    answer = telling status.Refused (refused_line name line nested_reason);
    is = instrument.Refuses.nested line (record { program = p; spells = spells; flow = flow; first_form = first; nested = e }) refl;
  }

  flow_answer : (p : lined.Program) → SpellsFormed Source bytes p → (ths : List Thread) (n : List ℕ) → outlines p ≡ Found ths n
      → (few : Bool) → nat_le (point_count ths) 4096 ≡ few → (r : Option Refusal) → refusal_of p ths ≡ r → HasAnswer (causes name bytes)
  flow_answer p spells ths n walk false many r e = record {
    answer = telling status.Limit (limit_line name (codes "points") 4096);
    is = instrument.Limits.points (record {
      program = p;
      spells = spells;
      error = record { threads = ths; places = n; found = walk; error = leb-false (point_count ths) 4096 many };
    }) refl;
  }
  flow_answer p spells ths n walk true few (Some r) e = record {
    answer = telling status.Refused (refused_line name r.line (reason_of_held r.kind));
    is = instrument.Refuses.held r.kind r.line (record {
      program = p;
      spells = spells;
      error = record { threads = ths; places = n; found = walk; error = (leb-true (point_count ths) 4096 few, e) };
    }) refl;
  }
  flow_answer p spells ths n walk true few None e =
      form_answer p spells (record { threads = ths; places = n; found = walk; few = leb-true (point_count ths) 4096 few; accepted = e })
      (has_first_text (bare_program p)) refl (first_nested p) refl

  formed_answer : (p : lined.Program) → SpellsFormed Source bytes p → (w : Walked (List Thread)) → outlines p ≡ w → HasAnswer (causes name bytes)
  formed_answer p spells (Found ths n) walk = flow_answer p spells ths n walk (nat_le (point_count ths) 4096) refl (refusal_of p ths) refl
  formed_answer p spells (Unresolved line) walk = record {
    answer = telling status.Refused (refused_line name line unresolved_reason);
    is = instrument.Refuses.unresolved line (record { program = p; spells = spells; unresolved = walk }) refl;
  }
  formed_answer p spells TooMany walk = record {
    answer = telling status.Limit (limit_line name (codes "contexts") context_limit);
    is = instrument.Limits.contexts (record { program = p; spells = spells; many = walk }) refl;
  }

  answer_of : (v : Verdict) → IsVerdict Source name bytes v → HasAnswer (causes name bytes)
  answer_of (Verdict.formed p) x = formed_answer p x (outlines p) refl
  answer_of (Verdict.flawed a) x = record { answer = a; is = flawed_is name bytes a.status a.told x }

  pub some_answer : HasAnswer (causes name bytes)
  some_answer = let v = some_verdict laws Source name bytes in answer_of v.0 v.1
