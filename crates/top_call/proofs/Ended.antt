-- What follows from the ways in which a call can end.
use Rattle.std.proofs.Common.{◌≡◌, ◌≢◌, ◌⊎◌, ℕ, List, [], true, false, Some, None, refl, sym, ap, subst, ◌∙◌, inl, inr}
use Rattle.std.specs.Prelude.{Option, IfSome}
use Rattle.std.proofs.lemmas.List.{append-nil}
use Rattle.gd_host.specs.Outside.{Files, Seen, extended}
use Rattle.command_words.specs.Words.{task_of}
use Rattle.answers.specs.declared.status.Status.{Status}
use Rattle.answers.specs.declared.status.Status.TheVariants.{Done, No, Usage, Refused, Limit, NoMonitor, HostFault, Memory}
use Rattle.answers.specs.Answered.{Answered}
use Rattle.answers.specs.Causes.{Causes, CauseOf}
use Rattle.answers.specs.Commands.{causes_of}
use Rattle.answers.specs.Statuses.{is_written, number_of}
use Rattle.top_call.specs.Answers.{Answers}
use Rattle.top_call.specs.Ending.{Says, IsAnswer, Ends, NoFault, IsAsAnswered}
use Rattle.top_call.specs.Clauses.{IsCause, Writes, Complains, IsTooLong, IsFault, Explains}
use Rattle.top_call.proofs.Told.{not_both}

-- a fact of the files that are told
pub where_told : (told : Option Files) (P : Files → Type 0) → ((files : Files) → told ≡ Some files → P files) → IfSome told P
where_told None P holds = tt
where_told (Some files) P holds = holds files refl

extended_nil : (told : Option (List ℕ)) → told ≡ extended told []
extended_nil None = refl
extended_nil (Some bytes) = ap (λ bs. Some bs) (sym (append-nil bytes))

-- ---- an answer, by its status

-- two statuses with different numbers are different
pub apart : (s t : Status) → s ≡ t → number_of s ≢ number_of t → ⊥
apart s t same other = other (ap number_of same)

no_fault_of : (c : Causes) (s : Status) (told : List ℕ) → CauseOf c s told → s ≢ HostFault
no_fault_of c HostFault told x e = absurd x
no_fault_of c Done told x e = absurd cc
no_fault_of c No told x e = absurd cc
no_fault_of c Usage told x e = absurd cc
no_fault_of c Refused told x e = absurd cc
no_fault_of c Limit told x e = absurd cc
no_fault_of c NoMonitor told x e = absurd cc
no_fault_of c Memory told x e = absurd cc

-- what was answered is no fault of the host, and no want of memory
pub answer_no_fault : (words : List (List ℕ)) (told : Option Files) (a : Answered) → IsAnswer words told a → a.status ≢ HostFault
answer_no_fault words told a (IsAnswer.shapeless none is) e = let f : Usage ≡ HostFault = sym (ap (λ b. b.status) is) ∙ e in absurd (cc f)
answer_no_fault words told a (IsAnswer.decided task contents asked read is) e = no_fault_of (causes_of task contents) a.status a.told is e
answer_no_fault words told a (IsAnswer.beyond task place asked long is) e = let f : Limit ≡ HostFault = sym (ap (λ b. b.status) is) ∙ e in absurd (cc f)

-- ---- where files are told

pub of_files : (words : List (List ℕ)) (told : Option Files) (files : Files) (a : Answered) → told ≡ Some files → IsAnswer words told a → Answers words files a
of_files words told files a same (IsAnswer.shapeless none is) = rw none is
of_files words told files a same (IsAnswer.decided task contents asked read is) = rw (asked, read.of_files files same) is
of_files words told files a same (IsAnswer.beyond task place asked long is) = rw (asked, long.long files same) is

-- ---- with no fault of the host

pub says_all : (line : List ℕ) (old new : Seen) → NoFault old new → Says line old new → new.err ≡ extended old.err line
says_all line old new none (Says.complete is) = is
says_all line old new none (Says.cut_off rose count is) = absurd (none.complaints rose)

pub as_written : (answer : Answered) (old new : Seen) (status : Status) → is_written answer.status ≡ true → status ≡ answer.status
    → new.out ≡ extended old.out answer.told → new.err ≡ old.err → IsAsAnswered answer old new status
as_written answer old new status wants same out err = record { same = same; out = rw wants out; err = rw wants (err ∙ extended_nil old.err) }

pub as_refused : (answer : Answered) (old new : Seen) (status : Status) → is_written answer.status ≡ false → status ≡ answer.status
    → new.out ≡ old.out → new.err ≡ extended old.err answer.told → IsAsAnswered answer old new status
as_refused answer old new status wants same out err = record { same = same; out = rw wants (out ∙ extended_nil old.out); err = rw wants err }

-- ---- the causes

module _ (words : List (List ℕ)) (old new : Seen) where
  -- what is known of an ending, by the status
  data Known (s : Status) : Type 0 where
    told : (a : Answered) → IsAnswer words old.files a → s ≡ a.status → (is_written a.status ≡ true → new.out ≡ extended old.out a.told)
        → (is_written a.status ≡ false → Says a.told old new) → Known s
    fault : s ≡ HostFault → IsFault words old new → Known s
    forgotten : s ≡ Memory → Known s

  known : (s : Status) → Ends words old new s → Known s
  known s (Ends.written a is wants same out err) = told a is same (λ w. out) (λ w. absurd (not_both (is_written a.status) wants w))
  known s (Ends.refused a is wants same out said) = told a is same (λ w. absurd (not_both (is_written a.status) w wants)) (λ w. said)
  known s (Ends.unread place is same out said) = fault same (IsFault.reading place is said)
  known s (Ends.unwritten a is wants same rose count out said) = fault same (IsFault.writing a is wants rose said)
  known s (Ends.forgotten same out said) = forgotten same

  -- the cause of an answer of this status, other than Usage and Limit
  cause_of : (s : Status) (a : Answered) → IsAnswer words old.files a → a.status ≡ s → s ≢ Usage → s ≢ Limit → IsCause words old s a.told
  cause_of s a (IsAnswer.shapeless none is) same usage limit = absurd (usage (sym same ∙ ap (λ b. b.status) is))
  cause_of s a (IsAnswer.decided task contents asked read is) same usage limit =
      record { task = task; asked = asked; contents = contents; read = read; cause = subst (λ t. CauseOf (causes_of task contents) t a.told) same is }
  cause_of s a (IsAnswer.beyond task place asked long is) same usage limit = absurd (limit (sym same ∙ ap (λ b. b.status) is))

  writes : (s t : Status) → Known s → s ≡ t → is_written t ≡ true → t ≢ Usage → t ≢ Limit → t ≢ HostFault → t ≢ Memory → Writes words old new t
  writes s t (told a is same out said) e w usage limit other memory = record {
    told = a.told;
    cause = cause_of t a is (sym same ∙ e) usage limit;
    written = out (ap is_written (sym same ∙ e) ∙ w);
  }
  writes s t (fault same why) e w usage limit other memory = absurd (other (sym e ∙ same))
  writes s t (forgotten same) e w usage limit other memory = absurd (memory (sym e ∙ same))

  complains : (s t : Status) → Known s → s ≡ t → is_written t ≡ false → t ≢ Usage → t ≢ Limit → t ≢ HostFault → t ≢ Memory → Complains words old new t
  complains s t (told a is same out said) e w usage limit other memory = record {
    told = a.told;
    cause = cause_of t a is (sym same ∙ e) usage limit;
    said = said (ap is_written (sym same ∙ e) ∙ w);
  }
  complains s t (fault same why) e w usage limit other memory = absurd (other (sym e ∙ same))
  complains s t (forgotten same) e w usage limit other memory = absurd (memory (sym e ∙ same))

  usage_answer_is : (a : Answered) → IsAnswer words old.files a → a.status ≡ Usage → task_of words ≡ None
  usage_answer_is a (IsAnswer.shapeless none is) e = none
  usage_answer_is a (IsAnswer.decided task contents asked read is) e = absurd (subst (λ t. CauseOf (causes_of task contents) t a.told) e is)
  usage_answer_is a (IsAnswer.beyond task place asked long is) e = let f : Limit ≡ Usage = sym (ap (λ b. b.status) is) ∙ e in absurd (cc f)

  usage_of : (s : Status) → Known s → s ≡ Usage → task_of words ≡ None
  usage_of s (told a is same out said) e = usage_answer_is a is (sym same ∙ e)
  usage_of s (fault same why) e = let f : HostFault ≡ Usage = sym same ∙ e in absurd (cc f)
  usage_of s (forgotten same) e = let f : Memory ≡ Usage = sym same ∙ e in absurd (cc f)

  limit_answer_is : (a : Answered) → IsAnswer words old.files a → a.status ≡ Limit → Says a.told old new → IsTooLong words old new ⊎ Complains words old new Limit
  limit_answer_is a (IsAnswer.shapeless none is) e said = let f : Usage ≡ Limit = sym (ap (λ b. b.status) is) ∙ e in absurd (cc f)
  limit_answer_is a (IsAnswer.decided task contents asked read is) e said = inr (record {
    told = a.told;
    cause = record { task = task; asked = asked; contents = contents; read = read; cause = subst (λ t. CauseOf (causes_of task contents) t a.told) e is };
    said = said;
  })
  limit_answer_is a (IsAnswer.beyond task place asked long is) e said = inl (record {
    task = task;
    asked = asked;
    place = place;
    long = long;
    said = subst (λ b. Says b.told old new) is said;
  })

  limit_of : (s : Status) → Known s → s ≡ Limit → IsTooLong words old new ⊎ Complains words old new Limit
  limit_of s (told a is same out said) e = limit_answer_is a is (sym same ∙ e) (said (ap is_written (sym same ∙ e)))
  limit_of s (fault same why) e = let f : HostFault ≡ Limit = sym same ∙ e in absurd (cc f)
  limit_of s (forgotten same) e = let f : Memory ≡ Limit = sym same ∙ e in absurd (cc f)

  fault_of : (s : Status) → Known s → s ≡ HostFault → IsFault words old new
  fault_of s (told a is same out said) e = absurd (answer_no_fault words old.files a is (sym same ∙ e))
  fault_of s (fault same why) e = why
  fault_of s (forgotten same) e = let f : Memory ≡ HostFault = sym same ∙ e in absurd (cc f)

  pub explained : (s : Status) → Ends words old new s → Explains words old new s
  explained s ends = let k = known s ends in record {
    done = λ e. writes s Done k e refl (λ f. absurd cc) (λ f. absurd cc) (λ f. absurd cc) (λ f. absurd cc);
    no = λ e. writes s No k e refl (λ f. absurd cc) (λ f. absurd cc) (λ f. absurd cc) (λ f. absurd cc);
    usage = λ e. usage_of s k e;
    refused = λ e. complains s Refused k e refl (λ f. absurd cc) (λ f. absurd cc) (λ f. absurd cc) (λ f. absurd cc);
    limit = λ e. limit_of s k e;
    no_monitor = λ e. complains s NoMonitor k e refl (λ f. absurd cc) (λ f. absurd cc) (λ f. absurd cc) (λ f. absurd cc);
    host_fault = λ e. fault_of s k e;
  }
