-- What was told behind what was read.
use Rattle.std.proofs.Common.{◌≡◌, ◌<◌, ℕ, List, Bool, true, false, take, length, get_or, Ok, Err, Some, refl, sym, ap, subst, ◌∙◌}
use Rattle.std.specs.Prelude.{Result, Option, String, string_bytes, IfOk, T}
use Rattle.std.specs.declared.alloc.Global.{Global}
use Rattle.std.proofs.lemmas.List.{length-map}
use Rattle.gd_host.specs.Outside.{Seen, Rose, Adds, HasCause, extended}
use Rattle.answers.specs.declared.status.Status.{Status}
use Rattle.answers.specs.declared.status.Status.TheVariants.{HostFault, Memory}
use Rattle.answers.specs.Statuses.{is_written}
use Rattle.answers.specs.Answered.{Answered, unread_answer, too_long_answer}
use Rattle.answers.specs.Causes.{Decides}
use Rattle.answers.specs.Lines.{unread_line, unwritten_line, memory_line}
use Rattle.answers.specs.Commands.{at, causes_of}
use Rattle.command_words.specs.declared.command.Command.{Command}
use Rattle.command_words.specs.Tasks.{Task, texts, limit_of}
use Rattle.command_words.specs.Words.{task_of}
use Rattle.top_call.specs.Answers.{Fetched, files_for, files_named, limits_of, limits_for}
use Rattle.top_call.specs.Fetching.{Reads, AreRead, FetchesSo, AsksInOrder, IsUnread, OnlyReads}
use Rattle.top_call.specs.Ending.{Says, Tells, Defines, DefinesTask, IsAnswer, Ends}
use Rattle.top_call.proofs.Steps.{name_is}

pub not_both : (b : Bool) → b ≡ true → b ≡ false → ⊥
not_both b holds fails = subst (λ v. T v) (sym holds ∙ fails) tt

-- a complaint adds its line, or a front of it where it fails
pub says_added : {E : Type 0} (line bytes : List ℕ) (old new : Seen) (result : Result (Unit {0}) E) → bytes ≡ line
    → Adds old.err new.err bytes result → HasCause old.lost new.lost result → Says line old new
says_added line bytes old new (Ok _) same added cause = Says.complete (added ∙ ap (λ b. extended old.err b) same)
says_added line bytes old new (Err _) same added cause = Says.cut_off cause.failed added.0 (added.1 ∙ ap (λ b. extended old.err (take added.0 b)) same)

pub says_behind : (line : List ℕ) (old now then : Seen) → now.err ≡ old.err → now.lost ≡ old.lost → Says line now then → Says line old then
says_behind line old now then err lost (Says.complete is) = Says.complete (rw err at is)
says_behind line old now then err lost (Says.cut_off rose count is) = Says.cut_off (rw lost at rose) count (rw err at is)

pub unwritten_told : (answer : Answered) (old now then : Seen) (bytes : List ℕ) → is_written answer.status ≡ true → bytes ≡ answer.told
    → ((count : ℕ) × (now.out ≡ extended old.out (take count bytes))) → Rose old.write_faults now.write_faults
    → now.err ≡ old.err → now.lost ≡ old.lost → then.out ≡ now.out → then.write_faults ≡ now.write_faults
    → Says unwritten_line now then → Tells answer old then HostFault
unwritten_told answer old now then bytes wants same added rose err lost out faults said =
    Tells.unwritten wants refl (rw faults rose) added.0 (out ∙ added.1 ∙ ap (λ b. extended old.out (take added.0 b)) same)
    (says_behind unwritten_line old now then err lost said)

pub refused_told : (answer : Answered) (old now : Seen) (status : Status) (line : List ℕ) → is_written answer.status ≡ false → status ≡ answer.status
    → line ≡ answer.told → now.out ≡ old.out → Says line old now → Tells answer old now status
refused_told answer old now status line wants same line_is out said = Tells.refused wants same out (subst (λ l. Says l old now) line_is said)

-- want of memory was told
pub ends_forgotten : (words : List (List ℕ)) (old now then : Seen) → OnlyReads old now → then.out ≡ now.out → Says memory_line now then
    → Ends words old then Memory
ends_forgotten words old now then only out said =
    Ends.forgotten refl (out ∙ only.out) (says_behind memory_line old now then only.err only.lost said)

-- what is defined of a task is what is defined of the words that ask for it
pub asked_for : (words : List (List ℕ)) (found : Option Task) (task : Task) (old new : Seen) → found ≡ task_of words → found ≡ Some task
    → AsksInOrder (limit_of task.command) task.files old new → AsksInOrder (limits_of words) (files_named words) old new
asked_for words found task old new found_is some asks =
    subst (λ f. AsksInOrder (limits_for f) (files_for f) old new) (sym some ∙ found_is) asks

pub defined_for : (words : List (List ℕ)) (found : Option Task) (task : Task) (old new : Seen) (answer : Answered) → found ≡ task_of words → found ≡ Some task
    → DefinesTask task old new answer → Defines words old new answer
defined_for words found task old new answer found_is some (DefinesTask.decided contents read is) =
    Defines.answered (IsAnswer.decided task contents (sym found_is ∙ some) read is)
defined_for words found task old new answer found_is some (DefinesTask.beyond place long is) =
    Defines.answered (IsAnswer.beyond task place (sym found_is ∙ some) long is)
defined_for words found task old new answer found_is some (DefinesTask.unread place is says) =
    let files : task.files ≡ files_named words = ap files_for (sym some ∙ found_is) in
    Defines.unread place (subst (λ names. IsUnread names place old new) files is) (says ∙ ap (λ names. unread_answer (at names place)) files)

pub ok_on : {T E : Type 0} (r : Result T E) (P Q : T → Type 0) → ((x : T) → P x → Q x) → IfOk r P → IfOk r Q
ok_on (Ok x) P Q f p = f x p
ok_on (Err e) P Q f p = p

pub name_at_is : (names : List (String Global)) (place : ℕ) (item : String Global) (text : List ℕ) → place < length (texts names)
    → item ≡ get_or names place item → text ≡ string_bytes item → text ≡ at (texts names) place
name_at_is names place item text inside item_is text_is = name_is names place item text (rw length-map at inside) item_is text_is

unread_on : (names : List (List ℕ)) (place : ℕ) (old now then : Seen) → then.read_faults ≡ now.read_faults → then.asked ≡ now.asked
    → IsUnread names place old now → IsUnread names place old then
unread_on names place old now then faults asked is = record {
  inside = is.inside;
  rose = rw faults is.rose;
  last = asked ∙ is.last;
}

-- what was defined and then told
pub ends_told : (words : List (List ℕ)) (old now then : Seen) (answer : Answered) (status : Status) → OnlyReads old now
    → then.read_faults ≡ now.read_faults → then.asked ≡ now.asked → Defines words old now answer → Tells answer now then status → Ends words old then status
ends_told words old now then answer status only faults asked (Defines.answered is) (Tells.written wants same out err) =
    Ends.written answer is wants same (rw only.out at out) (err ∙ only.err)
ends_told words old now then answer status only faults asked (Defines.answered is) (Tells.refused wants same out said) =
    Ends.refused answer is wants same (out ∙ only.out) (says_behind answer.told old now then only.err only.lost said)
ends_told words old now then answer status only faults asked (Defines.answered is) (Tells.unwritten wants same rose count out said) =
    Ends.unwritten answer is wants same (rw only.write_faults at rose) count (rw only.out at out) (says_behind unwritten_line old now then only.err only.lost said)
ends_told words old now then answer status only faults asked (Defines.unread place is says) (Tells.written wants same out err) =
    absurd (not_both (is_written answer.status) wants (ap (λ x. is_written x.status) says))
ends_told words old now then answer status only faults asked (Defines.unread place is says) (Tells.refused wants same out said) =
    Ends.unread place (unread_on (files_named words) place old now then faults asked is) (same ∙ ap (λ x. x.status) says) (out ∙ only.out)
    (says_behind (unread_line (at (files_named words) place)) old now then only.err only.lost (subst (λ x. Says x.told now then) says said))
ends_told words old now then answer status only faults asked (Defines.unread place is says) (Tells.unwritten wants same rose count out said) =
    absurd (not_both (is_written answer.status) wants (ap (λ x. is_written x.status) says))

-- ---- what is defined of a task

module _ {E : Type 0} (task : Task) (old new : Seen) (names : List (List ℕ)) (result : Result Answered E) where
  pub decides_task : (command : Command) (contents given : List (List ℕ)) → command ≡ task.command → names ≡ task.files → given ≡ contents
      → Reads old.files (limit_of command) names contents → IfOk result (Decides (causes_of task given)) → IfOk result (λ answer. DefinesTask task old new answer)
  decides_task command contents given command_is names_are same read decides =
      let reads : AreRead old.files task contents = subst (λ n. Reads old.files (limit_of task.command) n contents) names_are (subst (λ c. Reads old.files (limit_of c) names contents) command_is read) in
      ok_on result (Decides (causes_of task given)) (λ answer. DefinesTask task old new answer)
      (λ answer is. DefinesTask.decided contents reads (subst (λ c. Decides (causes_of task c) answer) same is)) decides

  pub unread_task : (place : ℕ) (name : List ℕ) → names ≡ task.files → IsUnread names place old new → name ≡ at names place
      → IfOk result (λ answer. answer ≡ unread_answer name) → IfOk result (λ answer. DefinesTask task old new answer)
  unread_task place name names_are unread name_is says =
      ok_on result (λ answer. answer ≡ unread_answer name) (λ answer. DefinesTask task old new answer)
      (λ answer is. DefinesTask.unread place (subst (λ n. IsUnread n place old new) names_are unread) (is ∙ ap unread_answer (name_is ∙ ap (λ n. at n place) names_are))) says

  pub long_task : (command : Command) (place limit : ℕ) (name : List ℕ) → command ≡ task.command → names ≡ task.files → place < length names
      → FetchesSo old.files (limit_of command) names (Fetched.long (at names place) (limit_of command place)) → name ≡ at names place → limit ≡ limit_of command place
      → IfOk result (λ answer. answer ≡ too_long_answer name limit) → IfOk result (λ answer. DefinesTask task old new answer)
  long_task command place limit name command_is names_are inside long name_is limit_is says =
      ok_on result (λ answer. answer ≡ too_long_answer name limit) (λ answer. DefinesTask task old new answer)
      (λ answer is. DefinesTask.beyond place
      (record {
        inside = subst (λ n. place < length n) names_are inside;
        long = subst (λ c. FetchesSo old.files (limit_of c) task.files (Fetched.long (at task.files place) (limit_of c place))) command_is
            (subst (λ n. FetchesSo old.files (limit_of command) n (Fetched.long (at n place) (limit_of command place))) names_are long);
      })
      (is ∙ rw (name_is, limit_is, names_are, command_is) refl)) says
