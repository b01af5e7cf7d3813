-- A text has one verdict: it spells a well-formed program, or has one flaw.
use Rattle.std.proofs.Common.{◌≡◌, ℕ, List, refl, sym, ap, subst, ◌∙◌, arith}
use Rattle.std.specs.Prelude.{Ok, Err, codes}
use Rattle.c_tree.specs.declared.program.Mode.{Mode}
use Rattle.c_tree.specs.Lined as lined
use Rattle.c_rules.specs.declared.rule.Rule.{Rule}
use Rattle.c_rules.specs.declared.rule.Count.{Count}
use Rattle.c_rules.specs.Formed.{Formed, FirstBreak, KeepsRules, Judged}
use Rattle.c_rules.specs.Counts.{limit, FirstPassed}
use Rattle.c_parser.specs.declared.error.ParseError.TheVariants as error
use Rattle.c_parser.specs.Answer.{Answer}
use Rattle.c_parser.specs.Parsed.{Parsed, IsAnswer, SpelledBy}
use Rattle.c_parser.proofs.OneAnswer.{one_answer}
use Rattle.c_parser.proofs.EachText as texts
use Rattle.answers.specs.declared.status.Status.{Status}
use Rattle.answers.specs.declared.status.Status.TheVariants as status
use Rattle.answers.specs.Answered.{Answered, telling}
use Rattle.answers.specs.Causes.{CauseOf, Decides}
use Rattle.answers.specs.Lines.{refused_line, limit_line}
use Rattle.answers.specs.Programs as programs
use Rattle.answers.specs.Programs.{SpellsFormed, flaws, Refuses, Limits}
use Rattle.answers.specs.Reasons.{line_of, reason_of, reason_of_rule, name_of_count}
use Rattle.answers.proofs.Judging.{RuleLaws}

pub data Verdict : Type 0 where
  formed : lined.Program → Verdict
  flawed : Answered → Verdict

abbrev pub IsVerdict : Mode → List ℕ → List ℕ → Verdict → Type 0
IsVerdict mode name bytes (Verdict.formed p) = SpellsFormed mode bytes p
IsVerdict mode name bytes (Verdict.flawed a) = Decides (flaws mode name bytes) a

not_passed : (mode : Mode) (p : lined.Program) (what : Count) → Formed p mode → FirstPassed p what → ⊥
not_passed mode p what f x = omega (arith, f.within what, x.passed)

module _ (laws : RuleLaws) (mode : Mode) (name bytes : List ℕ) where
  abbrev flaw_at : ℕ → List ℕ → Verdict
  flaw_at line reason = Verdict.flawed (telling status.Refused (refused_line name line reason))

  abbrev flaw_of : List ℕ → ℕ → Verdict
  flaw_of what number = Verdict.flawed (telling status.Limit (limit_line name what number))

  -- ---- by the judgement of a program

  abbrev judged : (p : lined.Program) → Judged p mode → Verdict
  judged p (Judged.formed x) = Verdict.formed p
  judged p (Judged.broken rule line x) = flaw_at line (reason_of_rule rule)
  judged p (Judged.passed what keeps x) = flaw_of (name_of_count what) (limit what)

  with_formed : (p : lined.Program) (x : Formed p mode) (k : Judged p mode) → judged p (Judged.formed x) ≡ judged p k
  with_formed p x (Judged.formed y) = refl
  with_formed p x (Judged.broken s b y) = absurd (x.keeps_rules s b y.broken)
  with_formed p x (Judged.passed d keeps y) = absurd (not_passed mode p d x y)

  with_broken : (p : lined.Program) (r : Rule) (a : ℕ) (x : FirstBreak p mode r a) (k : Judged p mode) → judged p (Judged.broken r a x) ≡ judged p k
  with_broken p r a x (Judged.formed y) = absurd (y.keeps_rules r a x.broken)
  with_broken p r a x (Judged.broken s b y) = let e = laws.one_break p mode r s a b x y in rw (e.0, e.1) refl
  with_broken p r a x (Judged.passed d keeps y) = absurd (keeps r a x.broken)

  with_passed : (p : lined.Program) (c : Count) (kept : KeepsRules p mode) (x : FirstPassed p c) (k : Judged p mode) → judged p (Judged.passed c kept x) ≡ judged p k
  with_passed p c kept x (Judged.formed y) = absurd (not_passed mode p c y x)
  with_passed p c kept x (Judged.broken s b y) = absurd (kept s b y.broken)
  with_passed p c kept x (Judged.passed d keeps y) = ap (λ what. flaw_of (name_of_count what) (limit what)) (laws.one_passed p c d x y)

  one_judged : (p : lined.Program) (j k : Judged p mode) → judged p j ≡ judged p k
  one_judged p (Judged.formed x) k = with_formed p x k
  one_judged p (Judged.broken r a x) k = with_broken p r a x k
  one_judged p (Judged.passed c kept x) k = with_passed p c kept x k

  -- ---- by the answer of the parser

  abbrev Leads : Answer → Verdict → Type 0
  Leads (Ok p) v = (j : Judged p mode) × (v ≡ judged p j)
  Leads (Err (error.Lex e)) v = v ≡ flaw_at (line_of e) (reason_of e)
  Leads (Err (error.Syntax line)) v = v ≡ flaw_at line (codes "syntax")
  Leads (Err (error.TooDeep line)) v = v ≡ flaw_of (codes "depth") 64
  Leads (Err error.TooManyTokens) v = v ≡ flaw_of (codes "tokens") 65536
  Leads (Err error.Memory) v = ⊥

  one_led : (a : Answer) (v w : Verdict) → Leads a v → Leads a w → v ≡ w
  one_led (Ok p) v w x y = x.1 ∙ one_judged p x.0 y.0 ∙ sym y.1
  one_led (Err (error.Lex e)) v w x y = x ∙ sym y
  one_led (Err (error.Syntax line)) v w x y = x ∙ sym y
  one_led (Err (error.TooDeep line)) v w x y = x ∙ sym y
  one_led (Err error.TooManyTokens) v w x y = x ∙ sym y
  one_led (Err error.Memory) v w x y = absurd x

  record Found (v : Verdict) : Type 0 where
    answer : Answer
    cause : Parsed bytes answer
    told : IsAnswer answer
    leads : Leads answer v

  refused_found : (told : List ℕ) (line : ℕ) (reason : List ℕ) → programs.IsRefused mode bytes line reason → told ≡ refused_line name line reason
      → Found (Verdict.flawed (telling status.Refused told))
  refused_found told line reason (programs.IsRefused.lexed {error = e} x) says = record { answer = Err (error.Lex e); cause = x; told = tt; leads = ap (λ t. Verdict.flawed (telling status.Refused t)) says }
  refused_found told line reason (programs.IsRefused.syntax {line = at} x) says = record { answer = Err (error.Syntax at); cause = x; told = tt; leads = ap (λ t. Verdict.flawed (telling status.Refused t)) says }
  refused_found told line reason (programs.IsRefused.broken {rule = rule} {line = at} x) says = record {
    answer = Ok x.program;
    cause = x.spelled;
    told = tt;
    leads = (Judged.broken rule at x.broken, ap (λ t. Verdict.flawed (telling status.Refused t)) says);
  }

  limit_found : (told : List ℕ) (what : List ℕ) (number : ℕ) → programs.Passes mode bytes what number → told ≡ limit_line name what number
      → Found (Verdict.flawed (telling status.Limit told))
  limit_found told what number (programs.Passes.depth {line = line} x) says = record { answer = Err (error.TooDeep line); cause = x; told = tt; leads = ap (λ t. Verdict.flawed (telling status.Limit t)) says }
  limit_found told what number (programs.Passes.tokens x) says = record { answer = Err error.TooManyTokens; cause = x; told = tt; leads = ap (λ t. Verdict.flawed (telling status.Limit t)) says }
  limit_found told what number (programs.Passes.count {what = which} x) says = record {
    answer = Ok x.program;
    cause = x.spelled;
    told = tt;
    leads = (Judged.passed which x.keeps_rules x.passed, ap (λ t. Verdict.flawed (telling status.Limit t)) says);
  }

  flaw_found : (s : Status) (told : List ℕ) → CauseOf (flaws mode name bytes) s told → Found (Verdict.flawed (telling s told))
  flaw_found status.Done told x = absurd x
  flaw_found status.No told x = absurd x
  flaw_found status.Usage told x = absurd x
  flaw_found status.Refused told x = refused_found told x.line x.reason x.refused x.says
  flaw_found status.Limit told x = limit_found told x.what x.number x.passes x.says
  flaw_found status.NoMonitor told x = absurd x
  flaw_found status.HostFault told x = absurd x
  flaw_found status.Memory told x = absurd x

  found : (v : Verdict) → IsVerdict mode name bytes v → Found v
  found (Verdict.formed p) x = record { answer = Ok p; cause = x.spelled; told = tt; leads = (Judged.formed x.formed, refl) }
  found (Verdict.flawed a) x = flaw_found a.status a.told x

  pub one_verdict : (v w : Verdict) → IsVerdict mode name bytes v → IsVerdict mode name bytes w → v ≡ w
  one_verdict v w x y =
      let f = found v x in
      let g = found w y in
      one_led g.answer v w (subst (λ a. Leads a v) (one_answer bytes f.answer g.answer f.cause f.told g.cause g.told) f.leads) g.leads

  -- ---- there is one

  abbrev There : Type 0
  There = (v : Verdict) × IsVerdict mode name bytes v

  refused_some : (line : ℕ) (reason : List ℕ) → programs.IsRefused mode bytes line reason → There
  refused_some line reason x = (flaw_at line reason, record { line = line; reason = reason; refused = x; says = refl })

  limit_some : (what : List ℕ) (number : ℕ) → programs.Passes mode bytes what number → There
  limit_some what number x = (flaw_of what number, record { what = what; number = number; passes = x; says = refl })

  judged_some : (p : lined.Program) → SpelledBy bytes p → Judged p mode → There
  judged_some p spelled (Judged.formed x) = (Verdict.formed p, record { spelled = spelled; formed = x })
  judged_some p spelled (Judged.broken rule line x) = refused_some line (reason_of_rule rule) (programs.IsRefused.broken (record { program = p; spelled = spelled; broken = x }))
  judged_some p spelled (Judged.passed what keeps x) = limit_some (name_of_count what) (limit what) (programs.Passes.count (record { program = p; spelled = spelled; keeps_rules = keeps; passed = x }))

  some_by : (a : Answer) → Parsed bytes a → IsAnswer a → There
  some_by (Ok p) x told = judged_some p x (laws.judged p mode)
  some_by (Err (error.Lex e)) x told = refused_some (line_of e) (reason_of e) (programs.IsRefused.lexed x)
  some_by (Err (error.Syntax line)) x told = refused_some line (codes "syntax") (programs.IsRefused.syntax x)
  some_by (Err (error.TooDeep line)) x told = limit_some (codes "depth") 64 (programs.Passes.depth x)
  some_by (Err error.TooManyTokens) x told = limit_some (codes "tokens") 65536 (programs.Passes.tokens x)
  some_by (Err error.Memory) x told = absurd told

  pub some_verdict : (v : Verdict) × IsVerdict mode name bytes v
  some_verdict = let a = texts.each_text bytes in some_by a.answer a.cause a.told
