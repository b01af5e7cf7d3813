-- What the laws of answers make of the ways in which a call can end.
use Rattle.std.proofs.Common.{◌≡◌, length, ℕ, List, [], ◌∷◌, true, Some, None, refl, sym, ap, subst, ◌∙◌, inl, inr, arith}
use Rattle.std.specs.Prelude.{Option}
use Rattle.gd_host.specs.Outside.{Files, Seen, extended}
use Rattle.command_words.specs.declared.command.Command.TheVariants.{Instrument}
use Rattle.command_words.specs.Tasks.{Task}
use Rattle.command_words.specs.Words.{task_of}
use Rattle.answers.specs.declared.status.Status.{Status}
use Rattle.answers.specs.declared.status.Status.TheVariants.{Done}
use Rattle.answers.specs.Answered.{Answered, usage_answer, unread_answer, too_long_answer}
use Rattle.answers.specs.Causes.{CauseOf, Decides, HasAnswer, HasOneAnswer}
use Rattle.answers.specs.Commands.{at, causes_of}
use Rattle.answers.specs.Instrument as instrument
use Rattle.answers.specs.Instrument.{IsAccepted, IsSafe}
use Rattle.answers.specs.Statuses.{is_written}
use Rattle.top_call.specs.Answers.{Answers, AnswersFor, AnswersOn, Fetched, read_for}
use Rattle.top_call.specs.Fetching.{AreRead}
use Rattle.top_call.specs.Ending.{Ends, NoFault, IsAsAnswered}
use Rattle.top_call.specs.Clauses as clauses
use Rattle.top_call.specs.Clauses.{AsksToInstrument, HandsBack, Headline, IsCause, Writes, EndsBy, Exact, AreAccepted, Complete}
use Rattle.top_call.proofs.Told.{not_both}
use Rattle.top_call.proofs.Ended.{of_files, as_written, as_refused, says_all, explained}

-- ---- one answer

abbrev pub OneEach : Type 0
OneEach = (task : Task) (contents : List (List ℕ)) → HasOneAnswer (causes_of task contents)

one_on : OneEach → (task : Task) (end : Fetched) (a b : Answered) → AnswersOn task end a → AnswersOn task end b → a ≡ b
one_on one task (Fetched.whole contents) a b x y = one task contents a b x y
one_on one task (Fetched.absent name) a b x y = x ∙ sym y
one_on one task (Fetched.long name limit) a b x y = x ∙ sym y

one_for : OneEach → (files : Files) (found : Option Task) (a b : Answered) → AnswersFor files found a → AnswersFor files found b → a ≡ b
one_for one files None a b x y = x ∙ sym y
one_for one files (Some task) a b x y = one_on one task (read_for files task) a b x y

pub one_of : OneEach → (words : List (List ℕ)) (files : Files) (a b : Answered) → Answers words files a → Answers words files b → a ≡ b
one_of one words files a b x y = one_for one files (task_of words) a b x y

-- ---- and there is one

abbrev pub SomeEach : Type 0
SomeEach = (task : Task) (contents : List (List ℕ)) → HasAnswer (causes_of task contents)

some_on : SomeEach → (task : Task) (end : Fetched) → (a : Answered) × AnswersOn task end a
some_on each task (Fetched.whole contents) = let x = each task contents in (x.answer, x.is)
some_on each task (Fetched.absent name) = (unread_answer name, refl)
some_on each task (Fetched.long name limit) = (too_long_answer name limit, refl)

some_for : SomeEach → (files : Files) (found : Option Task) → (a : Answered) × AnswersFor files found a
some_for each files None = (usage_answer, refl)
some_for each files (Some task) = some_on each task (read_for files task)

pub one_answer : SomeEach → OneEach → (words : List (List ℕ)) (files : Files) → clauses.HasOneAnswer words files
one_answer each one words files =
    let x = some_for each files (task_of words) in
    record { answer = x.0; is = x.1; only = λ other y. one_of one words files x.0 other x.1 y }

-- ---- a call ends so

module _ (one : OneEach) (words : List (List ℕ)) (old new : Seen) (files : Files) (told : old.files ≡ Some files) where
  pub exact : (s : Status) → Ends words old new s → Exact words files old new s
  exact s (Ends.written b is wants same out err) a x =
      let e : b ≡ a = one_of one words files b a (of_files words old.files files b told is) x in
      record { ends = inl (same ∙ ap (λ c. c.status) e); told = λ none. inl (subst (λ c. IsAsAnswered c old new s) e (as_written b old new s wants same out err)) }
  exact s (Ends.refused b is wants same out said) a x =
      let e : b ≡ a = one_of one words files b a (of_files words old.files files b told is) x in
      record { ends = inl (same ∙ ap (λ c. c.status) e); told = λ none. inl (subst (λ c. IsAsAnswered c old new s) e (as_refused b old new s wants same out (says_all b.told old new none said))) }
  exact s (Ends.unread place is same out said) a x = record { ends = inr (inl same); told = λ none. absurd (none.reads is.rose) }
  exact s (Ends.unwritten b is wants same rose count out said) a x = record { ends = inr (inl same); told = λ none. absurd (none.writes rose) }
  exact s (Ends.forgotten same out said) a x = record { ends = inr (inr same); told = λ none. inr same }

-- ---- what is accepted is done, or answered no

abbrev pub WrittenEach : Type 0
WrittenEach = (task : Task) (contents : List (List ℕ)) → (causes_of task contents).accepted → (a : Answered) → Decides (causes_of task contents) a → is_written a.status ≡ true

module _ (written : WrittenEach) (words : List (List ℕ)) (old new : Seen) (files : Files) (told : old.files ≡ Some files) where
  decides_of : (a : Answered) → Answers words files a → (acc : AreAccepted words files) → Decides (causes_of acc.task acc.contents) a
  decides_of a x acc = subst (λ end. AnswersOn acc.task end a) acc.read (subst (λ found. AnswersFor files found a) acc.asked x)

  pub complete : NoFault old new → (s : Status) → Ends words old new s → Complete words files s
  complete none s (Ends.written b is wants same out err) acc = inl (ap is_written same ∙ wants)
  complete none s (Ends.refused b is wants same out said) acc =
      absurd (not_both (is_written b.status) (written acc.task acc.contents acc.accepted b (decides_of b (of_files words old.files files b told is) acc)) wants)
  complete none s (Ends.unread place is same out said) acc = absurd (none.reads is.rose)
  complete none s (Ends.unwritten b is wants same rose count out said) acc = absurd (none.writes rose)
  complete none s (Ends.forgotten same out said) acc = inr same

-- ---- the headline

pub alone : (contents : List (List ℕ)) → length contents ≡ 1 → contents ≡ at contents 0 ∷ []
alone [] e = absurd (omega (arith, e))
alone (bytes ∷ []) e = refl
alone (bytes ∷ more ∷ rest) e = absurd (omega (arith, e))

module _ (safe : (bytes : List ℕ) → IsAccepted bytes → IsSafe bytes) (words : List (List ℕ)) (old new : Seen) where
  -- what was told of a file
  handed : (siphons monitors : ℕ) (file told : List ℕ) (contents : List (List ℕ)) → task_of words ≡ Some (record { command = Instrument siphons monitors; files = file ∷ [] })
      → AreRead old.files (record { command = Instrument siphons monitors; files = file ∷ [] }) contents
      → CauseOf (instrument.causes file (at contents 0)) Done told → new.out ≡ extended old.out told → HandsBack words old new
  handed siphons monitors file told contents asked read cause written = record {
    task = record { command = Instrument siphons monitors; files = file ∷ [] };
    asked = asked;
    bytes = at contents 0;
    read = subst (λ c. AreRead old.files (record { command = Instrument siphons monitors; files = file ∷ [] }) c) (alone contents read.each) read;
    written = written ∙ ap (λ t. extended old.out t) cause.1;
    safe = safe (at contents 0) cause.0;
  }

  pub same_task : (a b : Task) → task_of words ≡ Some a → task_of words ≡ Some b → b ≡ a
  same_task a b x y = let e : Some a ≡ Some b = sym x ∙ y in cc

  of_cause : (siphons monitors : ℕ) (file told : List ℕ) → task_of words ≡ Some (record { command = Instrument siphons monitors; files = file ∷ [] })
      → IsCause words old Done told → new.out ≡ extended old.out told → HandsBack words old new
  of_cause siphons monitors file told asked cause written =
      let task : Task = record { command = Instrument siphons monitors; files = file ∷ [] } in
      let same : cause.task ≡ task = same_task task cause.task asked cause.asked in
      handed siphons monitors file told cause.contents asked
      (subst (λ t. AreRead old.files t cause.contents) same cause.read)
      (subst (λ t. CauseOf (causes_of t cause.contents) Done told) same cause.cause) written

  pub headline : (s : Status) → Ends words old new s → Headline words old new s
  headline s ends file asks done =
      let w = (explained words old new s ends).done done in
      of_cause asks.siphons asks.monitors file w.told asks.asks w.cause w.written
