-- The largest stuck set, by a table of who is blocked and who holds.
use Rattle.std.proofs.Common.{◌≡◌, ℕ, zero, suc, ◌-◌, ◌*◌, ◌/◌, ◌%◌, ◌^◌, ◌<◌, ◌≤◌, ◌≢◌, ◌==◌, nat_lt, Bool, true, false, ◌&&◌, cond, List, [], length, map, Option, Some, None, option_map, refl, sym, ap, ◌∙◌, subst, arith}
use Rattle.std.specs.Prelude.{IsTrue, slice_get, unwrap_or}
use Rattle.std.proofs.Math.Nat.{pow-suc}
use Rattle.std.proofs.lemmas.Bool.{false≢true}
use Rattle.std.proofs.lemmas.List.{length-map}
use Rattle.std.proofs.lemmas.Option.{same_Some, slice_get_within}
use Rattle.std.proofs.lemmas.Nat.Bits.{bit_at_lowest, bit_at-suc}
use Rattle.c_tree.specs.Numbering.{mutex_count}
use Rattle.c_tree.specs.declared.program.Program.{Program}
use Rattle.c_meaning.specs.Shown.{shown}
use Rattle.c_meaning.specs.State as run
use Rattle.c_meaning.specs.Closed.{has, Stays, IsClosed}
use Rattle.c_meaning.specs.Laws.{blocked_for, if_taken}
use Rattle.c_meaning.specs.Stuck.{wanted, is_owner, is_holder, row_of}
use Rattle.c_steps.specs.declared.state.State.{State}
use Rattle.state_parts.specs.Threads.{status_of}
use Rattle.c_steps.specs.Model.{state_of}
use Rattle.c_steps.specs.Kept.{IsStateOf}
use Rattle.c_steps.specs.Blocks.{at, blocked_in, has_any, holds_in, AreHolders, IsEntry}

owner_of : (u : ℕ) (o : Option (Option ℕ)) → is_owner u o ≡ true → (w : ℕ) × (o ≡ Some (Some w)) × (w ≡ u)
owner_of u None e = absurd (false≢true e)
owner_of u (Some None) e = absurd (false≢true e)
owner_of u (Some (Some w)) e = (w, refl, grind (arith, e))

held_in : (row : List ℕ) (u : ℕ) (o : Option ℕ) → slice_get row u ≡ o → nat_lt 0 (unwrap_or o 0) ≡ true → u < length row
held_in row u None e h = absurd (false≢true h)
held_in row u (Some n) e h = slice_get_within row u n e

held_of : (rows : List (List ℕ)) (k u : ℕ) (o : Option (List ℕ)) → slice_get rows k ≡ o → ((m : ℕ) (row : List ℕ) → slice_get rows m ≡ Some row → length row ≤ 32) → nat_lt 0 (unwrap_or (slice_get (unwrap_or o []) u) 0) ≡ true → u < 32
held_of rows k u None e short h = absurd (false≢true h)
held_of rows k u (Some row) e short h = let lt = held_in row u (slice_get row u) refl h in let few = short k row e in omega (arith, lt, few)

-- holders are below 32
pub few_holders : (p : Program) (s : State) → IsStateOf p s → (u r : ℕ) → IsTrue (is_holder (shown p) (state_of p s) u r) → u < 32
few_holders p s is u r h = go (nat_lt r (mutex_count (shown p))) h
  where
    go : (b : Bool) → cond b (is_owner u (slice_get s.owners.items r)) (nat_lt 0 (unwrap_or (slice_get (row_of (shown p) (state_of p s) r) u) 0)) ≡ true → u < 32
    go true e =
        let own = owner_of u (slice_get s.owners.items r) e in
        let lt = is.owners r own.0 own.1 in
        let same = own.2 in
        omega (arith, lt, same, is.few_threads)
    go false e =
        let rows = map (λ row. row.items) s.tokens.items in
        held_of rows (r - mutex_count (shown p)) u (slice_get rows (r - mutex_count (shown p))) refl is.rows e

-- and so are threads that are blocked
pub blocked_below : (p : Program) (s : State) → IsStateOf p s → (t r : ℕ) → blocked_for (shown p) (state_of p s) t ≡ Some r → t < 32
blocked_below p s is t r e = go s.main_ended (slice_get (state_of p s).threads t) refl e
  where
    go : (b : Bool) (o : Option run.Status) → slice_get (state_of p s).threads t ≡ o → cond b None (if_taken (shown p) (state_of p s) (wanted (shown p) (state_of p s) o)) ≡ Some r → t < 32
    go true o f g = absurd cc
    go false None f g = absurd cc
    go false (Some status) f g =
        let lt = slice_get_within (state_of p s).threads t status f in
        let many = length-map s.threads.items (status_of p s.tables) in
        omega (arith, lt, many, is.few_threads)

-- a number that isn't 0 has a bit
pub some_bit : (k n : ℕ) → n < 2 ^ k → n ≢ 0 → (i : ℕ) × (has n i ≡ true)
some_bit zero n lt some = absurd (some (omega (arith, lt)))
some_bit (suc k) n lt some = go (n % 2) refl (λ lower whole. some_bit k (n / 2) lower whole)
  where
    go : (m : ℕ) → n % 2 ≡ m → (n / 2 < 2 ^ k → n / 2 ≢ 0 → (i : ℕ) × (has (n / 2) i ≡ true)) → (i : ℕ) × (has n i ≡ true)
    go zero e further =
        let twice : 2 ^ suc k ≡ 2 ^ k * 2 = pow-suc 2 k in
        let found = further (omega (arith, lt, twice, e)) (λ none. some (omega (arith, e, none))) in
        (suc found.0, ap (λ b. b == 1) (bit_at-suc n found.0) ∙ found.1)
    go (suc zero) e further = (0, ap (λ b. b == 1) (bit_at_lowest n ∙ e))
    go (suc (suc m)) e further = absurd (omega (arith, e))

all_both : (a b : Bool) → (a && b) ≡ true → b ≡ true
all_both true b e = e
all_both false b e = absurd (false≢true e)

below_32 : (u : ℕ) → u < 32 → (nat_lt u 32 && true) ≡ true
below_32 u lt = grind (arith, lt)

module _ (p : Program) (s : State) (is : IsStateOf p s) (holders : List (Option ℕ)) (entries : (t : ℕ) → t < 32 → IsEntry (shown p) (state_of p s) t (at holders t)) where
  -- what is closed by the table is closed in the state
  pub closed_in_state : (threads : ℕ → Bool) → ((t : ℕ) → IsTrue (threads t) → t < 32) → IsClosed (blocked_in holders) (holds_in holders) threads → IsClosed (blocked_for (shown p) (state_of p s)) (is_holder (shown p) (state_of p s)) threads
  closed_in_state threads few closed = record {
    stays = λ t in_set. let h = closed.stays t in_set in by t (at holders t) refl (entries t (few t in_set)) h.resource h.waits h.inside;
  }
    where
      by : (t : ℕ) (o : Option ℕ) → at holders t ≡ o → IsEntry (shown p) (state_of p s) t (at holders t) → (r : ℕ) → option_map (λ set. t) (at holders t) ≡ Some r → ((u : ℕ) → IsTrue (holds_in holders u r) → IsTrue (threads u))
          → Stays (blocked_for (shown p) (state_of p s)) (is_holder (shown p) (state_of p s)) threads t
      by t None e entry r waits inside = let none : None ≡ Some r = sym (ap (option_map (λ set. t)) e) ∙ waits in absurd cc
      by t (Some set) e entry r waits inside =
          let are : AreHolders (shown p) (state_of p s) t set = subst (IsEntry (shown p) (state_of p s) t) e entry in
          let same : t ≡ r = same_Some t r (sym (ap (option_map (λ set. t)) e) ∙ waits) in
          record {
            resource = are.resource;
            waits = are.waits;
            inside = λ u holds.
                let lt : u < 32 = few_holders p s is u are.resource holds in
                let in_table : holds_in holders u t ≡ true = ap (λ o. has_any o u) e ∙ ap (λ b. nat_lt u 32 && b) (are.same u lt ∙ holds) ∙ below_32 u lt in
                inside u (ap (holds_in holders u) (sym same) ∙ in_table);
          }

  -- and what is closed in the state is closed by the table
  pub closed_in_table : (threads : ℕ → Bool) → IsClosed (blocked_for (shown p) (state_of p s)) (is_holder (shown p) (state_of p s)) threads → IsClosed (blocked_in holders) (holds_in holders) threads
  closed_in_table threads closed = record {
    stays = λ t in_set. let h = closed.stays t in_set in by t (at holders t) refl (entries t (blocked_below p s is t h.resource h.waits)) h.resource h.waits h.inside;
  }
    where
      by : (t : ℕ) (o : Option ℕ) → at holders t ≡ o → IsEntry (shown p) (state_of p s) t (at holders t) → (r : ℕ) → blocked_for (shown p) (state_of p s) t ≡ Some r → ((u : ℕ) → IsTrue (is_holder (shown p) (state_of p s) u r) → IsTrue (threads u))
          → Stays (blocked_in holders) (holds_in holders) threads t
      by t None e entry r waits inside =
          let none : blocked_for (shown p) (state_of p s) t ≡ None = subst (IsEntry (shown p) (state_of p s) t) e entry in
          let both : None ≡ Some r = sym none ∙ waits in absurd cc
      by t (Some set) e entry r waits inside =
          let are : AreHolders (shown p) (state_of p s) t set = subst (IsEntry (shown p) (state_of p s) t) e entry in
          let same : are.resource ≡ r = same_Some are.resource r (sym are.waits ∙ waits) in
          record {
            resource = t;
            waits = ap (option_map (λ set. t)) e;
            inside = λ u holds.
                let any : (nat_lt u 32 && has set u) ≡ true = ap (λ o. has_any o u) (sym e) ∙ holds in
                let lt : u < 32 = grind (arith, any) in
                inside u (ap (is_holder (shown p) (state_of p s) u) (sym same) ∙ sym (are.same u lt) ∙ all_both (nat_lt u 32) (has set u) any);
          }
