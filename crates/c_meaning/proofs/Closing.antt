-- Stuck sets are closed sets of blocked threads.
use Rattle.std.proofs.Common.{◌≡◌, ℕ, Bool, true, false, Option, Some, None, refl, sym, ap, ◌∙◌, subst}
use Rattle.std.specs.Prelude.{if◌then◌else◌, IsTrue, slice_get}
use Rattle.c_tree.specs.Bare.{Program}
use Rattle.c_meaning.specs.State.{State}
use Rattle.c_meaning.specs.Stuck.{wanted, is_taken, is_holder, Blocked, IsStuck}
use Rattle.c_meaning.specs.Closed.{IsClosed}
use Rattle.c_meaning.specs.Laws.{if_taken, blocked_for, BlockedIsComputed, StuckIsClosed}
use Rattle.c_meaning.proofs.Reading.{some_is}

pub computed : (p : Program) (s : State) (t r : ℕ) → Blocked p s t r → blocked_for p s t ≡ Some r
computed p s t r blocked =
    ap (λ b. if b then None else if_taken p s (wanted p s (slice_get s.threads t))) blocked.going ∙ ap (if_taken p s) blocked.next
    ∙ ap (λ b. if b then Some r else None) blocked.taken

pub taken_from : (p : Program) (s : State) (o : Option ℕ) (r : ℕ) → if_taken p s o ≡ Some r → (o ≡ Some r) × (is_taken p s r ≡ true)
taken_from p s None r e = absurd (cc e)
taken_from p s (Some q) r e = by (is_taken p s q) refl e
  where
    by : (b : Bool) → is_taken p s q ≡ b → (if b then Some q else None) ≡ Some r → (Some q ≡ Some r) × (is_taken p s r ≡ true)
    by true is same = let equal : q ≡ r = some_is q r same in (ap Some equal, ap (is_taken p s) (sym equal) ∙ is)
    by false is same = absurd (cc same)

pub blocked_from : (p : Program) (s : State) (t r : ℕ) → blocked_for p s t ≡ Some r → Blocked p s t r
blocked_from p s t r e = by s.main_ended refl e
  where
    by : (b : Bool) → s.main_ended ≡ b → (if b then None else if_taken p s (wanted p s (slice_get s.threads t))) ≡ Some r → Blocked p s t r
    by true is same = absurd (cc same)
    by false is same = let parts = taken_from p s (wanted p s (slice_get s.threads t)) r same in record { going = is; next = parts.0; taken = parts.1 }

pub blocked_is_computed : BlockedIsComputed
blocked_is_computed p s t r = (computed p s t r, blocked_from p s t r)

pub stuck_is_closed : StuckIsClosed
stuck_is_closed p s threads = (closes, opens)
  where
    closes : IsStuck p s threads → ((t : ℕ) × IsTrue (threads t)) × IsClosed (blocked_for p s) (is_holder p s) threads
    closes stuck = (
      stuck.some,
      record {
        stays = λ t is. let blocked = stuck.blocked t is in record {
          resource = blocked.0;
          waits = computed p s t blocked.0 blocked.1;
          inside = λ u holds. stuck.inside t blocked.0 u is blocked.1 holds;
        };
      },
    )

    opens : ((t : ℕ) × IsTrue (threads t)) × IsClosed (blocked_for p s) (is_holder p s) threads → IsStuck p s threads
    opens both = record {
      going = let first = both.1.stays both.0.0 both.0.1 in (blocked_from p s both.0.0 first.resource first.waits).going;
      some = both.0;
      blocked = λ t is. let stays = both.1.stays t is in (stays.resource, blocked_from p s t stays.resource stays.waits);
      inside = λ t r u is blocked holds.
          let stays = both.1.stays t is in
          let same : r ≡ stays.resource = some_is r stays.resource (sym (computed p s t r blocked) ∙ stays.waits) in
          stays.inside u (subst (λ q. IsTrue (is_holder p s u q)) same holds);
    }
