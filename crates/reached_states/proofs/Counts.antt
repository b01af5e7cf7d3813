-- Holders and tokens as counts.
use Rattle.std.proofs.Common.{◌≡◌, ℕ, ◌+◌, ◌-◌, ◌<◌, ◌≤◌, Bool, true, false, List, [], length, Option, Some, None, refl, sym, ap, ◌∙◌, arith}
use Rattle.std.specs.Prelude.{◌↔◌, nat_lt, nat_le, if◌then◌else◌, sum_by, sum, slice_get, unwrap_or}
use Rattle.std.specs.List.{range_with_len}
use Rattle.std.proofs.lemmas.Bool.{leb-true, le-leb}
use Rattle.std.proofs.lemmas.Option.{slice_get_within, slice_get-get_or}
use Rattle.c_tree.specs.Bare.{Program}
use Rattle.c_tree.specs.Numbering.{mutex_count, thread_count}
use Rattle.c_meaning.specs.State.{Status, State}
use Rattle.c_meaning.specs.Locks.{held_by}
use Rattle.c_meaning.specs.Stuck.{is_owned, is_owner, row_of, capacity_of}
use Rattle.reached_states.specs.Lengths.{HasLengths}
use Rattle.reached_states.specs.Owners.{HasBegun, OwnersHaveBegun, RowsFit, ReachedOwnersAreThreads}
use Rattle.reached_states.specs.Counts.{thread_numbers, HoldersAreCounted, CountsFit, TakenIsCounted}
use Rattle.reached_states.proofs.Lengths.{reached_have_lengths}
use Rattle.reached_states.proofs.Owners.{reached_owners, reached_rows}
use Rattle.reached_states.proofs.Sums.{none_summed, one_summed, row_summed}

-- ---- holders

one_held : (b : Bool) → b ≡ nat_lt 0 (if b then 1 else 0)
one_held true = refl
one_held false = refl

pub holders_are_counted : HoldersAreCounted
holders_are_counted p s t r = by (nat_lt r (mutex_count p))
  where
    by : (b : Bool) → (if b then is_owner t (slice_get s.owners r) else nat_lt 0 (held_by (row_of p s r) t))
        ≡ nat_lt 0 (if b then (if is_owner t (slice_get s.owners r) then 1 else 0) else held_by (row_of p s r) t)
    by true = one_held (is_owner t (slice_get s.owners r))
    by false = refl

-- ---- mutexes

begun_within : (threads : List Status) (u : ℕ) → HasBegun (slice_get threads u) → u < length threads
begun_within threads u h = by (slice_get threads u) refl h
  where
    by : (o : Option Status) → slice_get threads u ≡ o → HasBegun o → u < length threads
    by None e h = absurd h
    by (Some x) e h = slice_get_within threads u x e

-- what threads hold of a mutex with this owner, or none
abbrev mutex_held : ℕ → Option (Option ℕ) → ℕ
mutex_held n o = sum_by (λ t. if is_owner t o then 1 else 0) (range_with_len 0 n)

free_mutex : (n : ℕ) → mutex_held n (Some None) ≡ 0
free_mutex n = none_summed (λ t. 0) (λ t. refl) 0 n

no_mutex : (n : ℕ) → mutex_held n None ≡ 0
no_mutex n = none_summed (λ t. 0) (λ t. refl) 0 n

owned_mutex : (n u : ℕ) → u < n → mutex_held n (Some (Some u)) ≡ 1
owned_mutex n u below = one_summed u 0 n (omega arith) (omega (arith, below))

mutex_fits : (n : ℕ) (o : Option (Option ℕ)) → ((u : ℕ) → o ≡ Some (Some u) → u < n) → mutex_held n o ≤ 1
mutex_fits n None below = let e = no_mutex n in omega (arith, e)
mutex_fits n (Some None) below = let e = free_mutex n in omega (arith, e)
mutex_fits n (Some (Some u)) below = let e = owned_mutex n u (below u refl) in omega (arith, e)

mutex_taken : (n : ℕ) (o : Option (Option ℕ)) → ((u : ℕ) → o ≡ Some (Some u) → u < n) → (is_owned o ≡ true) ↔ (mutex_held n o ≡ 1)
mutex_taken n None below = (λ is. absurd (cc is), λ one. let e = no_mutex n in absurd (omega (arith, e, one)))
mutex_taken n (Some None) below = (λ is. absurd (cc is), λ one. let e = free_mutex n in absurd (omega (arith, e, one)))
mutex_taken n (Some (Some u)) below = (λ is. owned_mutex n u (below u refl), λ one. refl)

-- ---- monitors

within_some : (xs : List ℕ) (k : ℕ) → k < length xs → (x : ℕ) × (slice_get xs k ≡ Some x)
within_some xs k within = by (slice_get xs k) refl
  where
    by : (o : Option ℕ) → slice_get xs k ≡ o → (x : ℕ) × (slice_get xs k ≡ Some x)
    by None e = absurd (cc (e, slice_get-get_or xs k 0 within))
    by (Some x) e = (x, e)

-- what threads hold of a monitor
abbrev row_held : ℕ → List ℕ → ℕ
row_held n row = sum_by (held_by row) (range_with_len 0 n)

no_row : (n : ℕ) → row_held n [] ≡ 0
no_row n = none_summed (held_by []) (λ t. refl) 0 n

whole_row : (n : ℕ) (row : List ℕ) → length row ≡ n → row_held n row ≡ sum row
whole_row n row long = ap (λ k. sum_by (held_by row) (range_with_len 0 k)) (sym long) ∙ row_summed row (held_by row) 0 (λ i. let same : 0 + i ≡ i = omega arith in ap (held_by row) same)

module _ (p : Program) (s : State) (lengths : HasLengths p s) where
  sum_of_row : (k : ℕ) (o : Option (List ℕ)) → slice_get s.tokens k ≡ o → row_held (thread_count p) (unwrap_or o []) ≡ sum (unwrap_or o [])
  sum_of_row k None e = no_row (thread_count p)
  sum_of_row k (Some row) e = whole_row (thread_count p) row (lengths.each_row k row e)

  row_fits : RowsFit p s → (k : ℕ) (c : Option ℕ) (o : Option (List ℕ)) → slice_get p.monitors k ≡ c → slice_get s.tokens k ≡ o → sum (unwrap_or o []) ≤ unwrap_or c 0
  row_fits fits k (Some capacity) (Some row) has there = fits k capacity row has there
  row_fits fits k c None has there = omega arith
  row_fits fits k None (Some row) has there =
      let within = slice_get_within s.tokens k row there in
      let same = lengths.rows in
      let some = within_some p.monitors k (omega (arith, within, same)) in
      let none : Some some.0 ≡ None = sym some.1 ∙ has in absurd (cc none)

-- ---- all resources

module _ (p : Program) (s : State) (lengths : HasLengths p s) (owners : OwnersHaveBegun s) (fits : RowsFit p s) (r : ℕ) where
  abbrev k : ℕ
  k = r - mutex_count p

  below : (u : ℕ) → slice_get s.owners r ≡ Some (Some u) → u < thread_count p
  below u e = let within = begun_within s.threads u (owners r u e) in let same = lengths.threads in omega (arith, within, same)

  all_fit : (b : Bool) → sum_by (λ t. if b then (if is_owner t (slice_get s.owners r) then 1 else 0) else held_by (row_of p s r) t) (thread_numbers p) ≤ (if b then 1 else capacity_of p r)
  all_fit true = mutex_fits (thread_count p) (slice_get s.owners r) below
  all_fit false =
      let same = sum_of_row p s lengths k (slice_get s.tokens k) refl in
      let few = row_fits p s lengths fits k (slice_get p.monitors k) (slice_get s.tokens k) refl refl in
      omega (arith, same, few)

  taken : (b : Bool) → ((if b then is_owned (slice_get s.owners r) else nat_le (capacity_of p r) (sum (row_of p s r))) ≡ true)
      ↔ (sum_by (λ t. if b then (if is_owner t (slice_get s.owners r) then 1 else 0) else held_by (row_of p s r) t) (thread_numbers p) ≡ (if b then 1 else capacity_of p r))
  taken true = mutex_taken (thread_count p) (slice_get s.owners r) below
  taken false =
      let same = sum_of_row p s lengths k (slice_get s.tokens k) refl in
      let few = row_fits p s lengths fits k (slice_get p.monitors k) (slice_get s.tokens k) refl refl in (
        λ full. let least = leb-true (capacity_of p r) (sum (row_of p s r)) full in omega (arith, same, few, least),
        λ all. le-leb (capacity_of p r) (sum (row_of p s r)) (omega (arith, same, all)),
      )

pub owners_are_threads : ReachedOwnersAreThreads
owners_are_threads p input s mutex owner reached owned =
    below p s (reached_have_lengths p input s reached) (reached_owners p input s reached) (reached_rows p input s reached) mutex owner owned

pub counts_fit : CountsFit
counts_fit p input s r reached = all_fit p s (reached_have_lengths p input s reached) (reached_owners p input s reached) (reached_rows p input s reached) r (nat_lt r (mutex_count p))

pub taken_is_counted : TakenIsCounted
taken_is_counted p input s r reached = taken p s (reached_have_lengths p input s reached) (reached_owners p input s reached) (reached_rows p input s reached) r (nat_lt r (mutex_count p))
