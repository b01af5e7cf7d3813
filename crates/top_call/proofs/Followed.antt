-- What follows from the clauses of the top call.
use Rattle.std.proofs.Common.{◌≡◌, ◌≢◌, ◌⊎◌, ℕ, List, [], ◌∷◌, true, false, Some, sym, ap, subst, ◌∙◌, inl, inr}
use Rattle.gd_host.specs.Outside.{Seen, Rose}
use Rattle.command_words.specs.declared.command.Command.TheVariants.{Instrument}
use Rattle.command_words.specs.Tasks.{Task}
use Rattle.command_words.specs.Words.{task_of}
use Rattle.answers.specs.declared.status.Status.{Status}
use Rattle.answers.specs.declared.status.Status.TheVariants.{HostFault, Refused, Limit}
use Rattle.answers.specs.Statuses.{is_written}
use Rattle.answers.specs.Causes.{CauseOf}
use Rattle.answers.specs.Commands.{at, causes_of}
use Rattle.top_call.specs.Fetching.{AreRead}
use Rattle.top_call.specs.Ending.{Ends, Says}
use Rattle.top_call.specs.Clauses.{AsksToInstrument, IsCause, Complains, IsComplaintOf, IsRefusedFile, IsLimitedFile}
use Rattle.top_call.proofs.Told.{not_both}
use Rattle.top_call.proofs.One.{alone}

-- a status of which nothing is written is none of which something is
written_not : (s t : Status) → s ≡ t → is_written t ≡ true → is_written s ≡ false → ⊥
written_not s t same wants not_wanted = not_both (is_written t) wants (sym (ap is_written same) ∙ not_wanted)

pub quiet : (words : List (List ℕ)) (old new : Seen) (s : Status) → Ends words old new s → is_written s ≡ false → s ≢ HostFault → new.out ≡ old.out
quiet words old new s (Ends.written a is wants same out err) none other = absurd (written_not s a.status same wants none)
quiet words old new s (Ends.refused a is wants same out said) none other = out
quiet words old new s (Ends.unread place is same out said) none other = out
quiet words old new s (Ends.unwritten a is wants same rose count out said) none other = absurd (other same)
quiet words old new s (Ends.forgotten same out said) none other = out

pub unwritten : (words : List (List ℕ)) (old new : Seen) (s : Status) → Ends words old new s → s ≡ HostFault → (new.out ≡ old.out) ⊎ Rose old.write_faults new.write_faults
unwritten words old new s (Ends.written a is wants same out err) fault = absurd (written_not s a.status same wants (ap is_written fault))
unwritten words old new s (Ends.refused a is wants same out said) fault = inl out
unwritten words old new s (Ends.unread place is same out said) fault = inl out
unwritten words old new s (Ends.unwritten a is wants same rose count out said) fault = inr rose
unwritten words old new s (Ends.forgotten same out said) fault = inl out

pub silent : (words : List (List ℕ)) (old new : Seen) (s : Status) → Ends words old new s → is_written s ≡ true → new.err ≡ old.err
silent words old new s (Ends.written a is wants same out err) on = err
silent words old new s (Ends.refused a is wants same out said) on = absurd (not_both (is_written s) on (ap is_written same ∙ wants))
silent words old new s (Ends.unread place is same out said) on = absurd (not_both (is_written s) on (ap is_written same))
silent words old new s (Ends.unwritten a is wants same rose count out said) on = absurd (not_both (is_written s) on (ap is_written same))
silent words old new s (Ends.forgotten same out said) on = absurd (not_both (is_written s) on (ap is_written same))

-- ---- of `instrument`

module _ (words : List (List ℕ)) (old new : Seen) (file : List ℕ) (asks : AsksToInstrument words file) where
  abbrev pub own : Task
  own = record { command = Instrument asks.siphons asks.monitors; files = file ∷ [] }

  own_task : (a : Task) → task_of words ≡ Some a → a ≡ own
  own_task a x = let e : Some own ≡ Some a = sym asks.asks ∙ x in cc

  -- a cause of what the words ask for is one of the file's bytes
  pub of_own : (s : Status) (told : List ℕ) (c : IsCause words old s told) → CauseOf (causes_of own c.contents) s told
  of_own s told c = subst (λ t. CauseOf (causes_of t c.contents) s told) (own_task c.task c.asked) c.cause

  pub complained : (s : Status) (told : List ℕ) (c : IsCause words old s told) → Says told old new → IsComplaintOf words old new (at c.contents 0) told
  complained s told c said =
      let read : AreRead old.files own c.contents = subst (λ t. AreRead old.files t c.contents) (own_task c.task c.asked) c.read in
      record {
        task = own;
        asked = asks.asks;
        read = subst (λ contents. AreRead old.files own contents) (alone c.contents read.each) read;
        said = said;
      }

  pub refused_file : Complains words old new Refused → IsRefusedFile words file old new
  refused_file c = record {
    bytes = at c.cause.contents 0;
    told = c.told;
    complaint = complained Refused c.told c.cause c.said;
    cause = of_own Refused c.told c.cause;
  }

  pub limited_file : Complains words old new Limit → IsLimitedFile words file old new
  limited_file c = record {
    bytes = at c.cause.contents 0;
    told = c.told;
    complaint = complained Limit c.told c.cause c.said;
    cause = of_own Limit c.told c.cause;
  }
