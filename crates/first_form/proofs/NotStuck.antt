-- A program without nested locks never has a stuck set: who is blocked for a mutex owns none, and its owner would have to be blocked too.
use Rattle.std.proofs.Common.{◌≡◌, ◌<◌, ℕ, ◌+◌, ◌==◌, Bool, true, false, List, [], ◌∷◌, Option, Some, None, refl, sym, ap, ◌∙◌, arith}
use Rattle.std.specs.Prelude.{◌||◌, if◌then◌else◌, nat_le, nat_lt, sum, slice_get, unwrap_or, sum_by, bytes_eq}
use Rattle.std.specs.List.{list_any}
use Rattle.std.proofs.lemmas.Bool.{lt-ltb}
use Rattle.c_tree.specs.Bare.{Stmt, Stmts, Nil, Cons, Lock, Take, Program}
use Rattle.c_tree.specs.Lined as lined
use Rattle.c_tree.specs.Lined.{bare_program}
use Rattle.c_tree.specs.Numbering.{mutex_count, object_count}
use Rattle.c_rules.specs.Names.{mentions}
use Rattle.first_form.specs.FirstForm.{mutexes_of, holds, holds_some, is_first_form, first_nested}
use Rattle.c_meaning.specs.State.{Locals, Status, NotBegun, Running, Waiting, Reacquiring, Ended, State, start}
use Rattle.c_meaning.specs.Stuck.{acquired, wanted, is_owned, is_owner, row_of, capacity_of, is_taken, is_holder, NeverStuck}
use Rattle.c_meaning.proofs.Reading.{or_right, same_bytes, Each, numbered_below}
use Rattle.first_form.proofs.Quiet.{IsQuiet, QuietFunction, quiet_program}
use Rattle.first_form.proofs.Kept.{Owned, Fits, KeptIn}
use Rattle.first_form.proofs.KeptRuns.{scalar_mutex, kept_run, kept_start}

-- what a test finds at a name, it finds in a list that mentions the name
any_mentioned : (test : List ℕ → Bool) (names : List (List ℕ)) (name : List ℕ) → mentions names name ≡ true → test name ≡ true → list_any test names ≡ true
any_mentioned test [] name at pass = absurd (cc at)
any_mentioned test (n ∷ names) name at pass = by (bytes_eq name n) refl (λ found. any_mentioned test names name found pass) at
  where
    by : (b : Bool) → bytes_eq name n ≡ b → (list_any (bytes_eq name) names ≡ true → list_any test names ≡ true) → (b || list_any (bytes_eq name) names) ≡ true
        → (test n || list_any test names) ≡ true
    by true e later found =
        let here : test n ≡ true = ap test (sym (same_bytes name n e)) ∙ pass in ap (λ b. b || list_any test names) here
    by false e later found = or_right (test n) (list_any test names) (later found)

-- a thread that wants a resource wants a mutex, and owns none
pub record Wants (p : Program) (owners : List (Option ℕ)) (t r : ℕ) : Type 0 where
  pub mutex : r < mutex_count p
  pub empty : (k : ℕ) → slice_get owners k ≡ Some (Some t) → ⊥

pub empty_handed : (p : Program) (owners : List (Option ℕ)) (t : ℕ) (above : List Stmt) → holds_some p above ≡ false → Owned p owners t above → (k : ℕ) → slice_get owners k ≡ Some (Some t) → ⊥
empty_handed p owners t above free owned k e =
    let held = owned k e in
    let some : holds_some p above ≡ true = any_mentioned (holds above) (mutexes_of p) held.name held.named held.held in
    let clash : false ≡ true = sym free ∙ some in cc clash

pub wants_todo : (p : Program) (s : State) (t : ℕ) (locals : Locals) (todo : Stmts) (r : ℕ) → (above : List Stmt) → IsQuiet p above todo → Owned p s.owners t above → acquired p s locals todo ≡ Some r
    → Wants p s.owners t r
wants_todo p s t locals Nil r above quiet owned e = absurd (cc e)
wants_todo p s t locals (Cons (Lock place) rest) r above quiet owned e = record {
  mutex =
      let below : r < 0 + sum_by object_count p.mutexes = numbered_below 0 p.mutexes place.name None r (sym (scalar_mutex p s locals place quiet.mutex.scalar) ∙ e) in
      omega (arith, below);
  empty = empty_handed p s.owners t above quiet.free owned;
}
wants_todo p s t locals (Cons (Take monitor) rest) r above quiet owned e = absurd quiet
wants_todo p s t locals (Cons a rest) r above quiet owned e = absurd (cc e)

pub wants_status : (p : Program) (s : State) (t r : ℕ) (status : Status) → Fits p s.owners t status → wanted p s (Some status) ≡ Some r → Wants p s.owners t r
wants_status p s t r NotBegun fits e = absurd (cc e)
wants_status p s t r (Running []) fits e = absurd fits
wants_status p s t r (Running (f ∷ [])) fits e = wants_todo p s t f.locals f.todo r fits.above fits.quiet fits.owned e
wants_status p s t r (Running (f ∷ g ∷ more)) fits e = absurd fits
wants_status p s t r (Waiting condition mutex frames) fits e = absurd fits
wants_status p s t r (Reacquiring mutex takes frames) fits e = absurd fits
wants_status p s t r Ended fits e = absurd (cc e)

pub wants : (p : Program) (s : State) (t r : ℕ) → KeptIn p s → (o : Option Status) → slice_get s.threads t ≡ o → wanted p s o ≡ Some r → Wants p s.owners t r
wants p s t r kept None at e = absurd (cc e)
wants p s t r kept (Some status) at e = wants_status p s t r status (kept t status at) e

-- a mutex that is taken has an owner
pub owner_of : (owners : List (Option ℕ)) (r : ℕ) (o : Option (Option ℕ)) → slice_get owners r ≡ o → is_owned o ≡ true → (u : ℕ) × (slice_get owners r ≡ Some (Some u))
owner_of owners r None at e = absurd (cc e)
owner_of owners r (Some None) at e = absurd (cc e)
owner_of owners r (Some (Some u)) at e = (u, at)

pub eq_itself : (u : ℕ) → (u == u) ≡ true
eq_itself u = grind arith

pub mutex_taken : (p : Program) (s : State) (r : ℕ) → r < mutex_count p → is_taken p s r ≡ true → is_owned (slice_get s.owners r) ≡ true
mutex_taken p s r below = by (nat_lt r (mutex_count p)) (lt-ltb r (mutex_count p) below)
  where
    by : (b : Bool) → b ≡ true → (if b then is_owned (slice_get s.owners r) else nat_le (capacity_of p r) (sum (row_of p s r))) ≡ true → is_owned (slice_get s.owners r) ≡ true
    by true at e = e
    by false at e = absurd (cc at)

pub owner_holds : (p : Program) (s : State) (u r : ℕ) → r < mutex_count p → slice_get s.owners r ≡ Some (Some u) → is_holder p s u r ≡ true
owner_holds p s u r below owns = by (nat_lt r (mutex_count p)) (lt-ltb r (mutex_count p) below)
  where
    by : (b : Bool) → b ≡ true → (if b then is_owner u (slice_get s.owners r) else nat_lt 0 (unwrap_or (slice_get (row_of p s r) u) 0)) ≡ true
    by true at = ap (is_owner u) owns ∙ eq_itself u
    by false at = absurd (cc at)

-- where each function is quiet, no state that is reached has a stuck set
pub not_stuck : (p : Program) → Each (QuietFunction p) p.functions → NeverStuck p
not_stuck p each input s threads reached stuck =
    let kept : KeptIn p s = kept_run p reached.events (start p input) s each (kept_start p input each) reached.reached in
    let t = stuck.some.0 in
    let first = stuck.blocked t stuck.some.1 in
    let r = first.0 in
    let wants_first = wants p s t r kept (slice_get s.threads t) refl first.1.next in
    let owner = owner_of s.owners r (slice_get s.owners r) refl (mutex_taken p s r wants_first.mutex first.1.taken) in
    let u = owner.0 in
    let holder : is_holder p s u r ≡ true = owner_holds p s u r wants_first.mutex owner.1 in
    let second = stuck.blocked u (stuck.inside t r u stuck.some.1 first.1 holder) in
    let wants_second = wants p s u second.0 kept (slice_get s.threads u) refl second.1.next in
    wants_second.empty r owner.1

-- programs of the first form without nested locks never have a stuck set
pub never_stuck : (p : lined.Program) → is_first_form (bare_program p) ≡ true → first_nested p ≡ None → NeverStuck (bare_program p)
never_stuck p form flat = not_stuck (bare_program p) (quiet_program p form flat)
