-- The threads that hold something, and those that are blocked, are numbered below some bound.
use Rattle.std.proofs.Common.{◌≡◌, ◌<◌, ◌≤◌, ◌+◌, ℕ, zero, suc, Bool, true, false, List, [], ◌∷◌, length, Some, None, refl, ap, arith}
use Rattle.std.specs.Prelude.{IsTrue, Option, slice_get, nat_lt, unwrap_or, ◌-◌, cond}
use Rattle.std.proofs.lemmas.Bool.{eqb-true, false≢true}
use Rattle.std.proofs.lemmas.Option.{same_Some, slice_get_within}
use Rattle.c_tree.specs.Bare.{Program}
use Rattle.c_tree.specs.Numbering.{mutex_count}
use Rattle.c_meaning.specs.State.{State, Status}
use Rattle.c_meaning.specs.Stuck.{wanted, is_owner, is_holder, row_of}
use Rattle.c_meaning.specs.Laws.{if_taken, blocked_for}

-- ---- owners

pub owner_bound : (owners : List (Option ℕ)) → (n : ℕ) × ((r w : ℕ) → slice_get owners r ≡ Some (Some w) → w < n)
owner_bound [] = (0, λ r w e. absurd (cc e))
owner_bound (o ∷ owners) = more o (owner_bound owners)
  where
    more : (o : Option ℕ) → (n : ℕ) × ((r w : ℕ) → slice_get owners r ≡ Some (Some w) → w < n) → (n : ℕ) × ((r w : ℕ) → slice_get (o ∷ owners) r ≡ Some (Some w) → w < n)
    more None rest = (rest.0, at)
      where
        at : (r w : ℕ) → slice_get (None ∷ owners) r ≡ Some (Some w) → w < rest.0
        at zero w e = absurd (cc e)
        at (suc r) w e = rest.1 r w e
    more (Some v) rest = (suc v + rest.0, at)
      where
        at : (r w : ℕ) → slice_get (Some v ∷ owners) r ≡ Some (Some w) → w < suc v + rest.0
        at zero w e = let same : v ≡ w = cc e in omega (arith, same)
        at (suc r) w e = omega (arith, rest.1 r w e)

-- ---- rows of tokens

pub row_bound : (rows : List (List ℕ)) → (n : ℕ) × ((k : ℕ) (row : List ℕ) → slice_get rows k ≡ Some row → length row ≤ n)
row_bound [] = (0, λ k row e. absurd (cc e))
row_bound (first ∷ rows) = more (row_bound rows)
  where
    more : (n : ℕ) × ((k : ℕ) (row : List ℕ) → slice_get rows k ≡ Some row → length row ≤ n) → (n : ℕ) × ((k : ℕ) (row : List ℕ) → slice_get (first ∷ rows) k ≡ Some row → length row ≤ n)
    more rest = (length first + rest.0, at)
      where
        at : (k : ℕ) (row : List ℕ) → slice_get (first ∷ rows) k ≡ Some row → length row ≤ length first + rest.0
        at zero row e = let same : first ≡ row = same_Some first row e in omega (arith, ap length same)
        at (suc k) row e = omega (arith, rest.1 k row e)

-- ---- holders

owner_of : (u : ℕ) (o : Option (Option ℕ)) → is_owner u o ≡ true → o ≡ Some (Some u)
owner_of u None e = absurd (false≢true e)
owner_of u (Some None) e = absurd (false≢true e)
owner_of u (Some (Some w)) e = ap (λ x. Some (Some x)) (eqb-true w u e)

held_in : (row : List ℕ) (u : ℕ) (o : Option ℕ) → slice_get row u ≡ o → nat_lt 0 (unwrap_or o 0) ≡ true → u < length row
held_in row u None e h = absurd (false≢true h)
held_in row u (Some n) e h = slice_get_within row u n e

held_of : (rows : List (List ℕ)) (k u n : ℕ) (o : Option (List ℕ)) → slice_get rows k ≡ o → ((m : ℕ) (row : List ℕ) → slice_get rows m ≡ Some row → length row ≤ n)
    → nat_lt 0 (unwrap_or (slice_get (unwrap_or o []) u) 0) ≡ true → u < n
held_of rows k u n None e short h = absurd (false≢true h)
held_of rows k u n (Some row) e short h = let lt = held_in row u (slice_get row u) refl h in let few = short k row e in omega (arith, lt, few)

module _ (p : Program) (s : State) where
  abbrev pub bound : ℕ
  bound = length s.threads + ((owner_bound s.owners).0 + (row_bound s.tokens).0)

  pub holders_below : (u r : ℕ) → IsTrue (is_holder p s u r) → u < bound
  holders_below u r h = go (nat_lt r (mutex_count p)) h
    where
      go : (b : Bool) → cond b (is_owner u (slice_get s.owners r)) (nat_lt 0 (unwrap_or (slice_get (row_of p s r) u) 0)) ≡ true → u < bound
      go true e = let own = owner_of u (slice_get s.owners r) e in omega (arith, (owner_bound s.owners).1 r u own)
      go false e =
          let low = held_of s.tokens (r - mutex_count p) u (row_bound s.tokens).0 (slice_get s.tokens (r - mutex_count p)) refl (row_bound s.tokens).1 e in
          omega (arith, low)

  pub blocked_below : (t r : ℕ) → blocked_for p s t ≡ Some r → t < bound
  blocked_below t r e = go s.main_ended (slice_get s.threads t) refl e
    where
      go : (b : Bool) (o : Option Status) → slice_get s.threads t ≡ o → cond b None (if_taken p s (wanted p s o)) ≡ Some r → t < bound
      go true o f g = absurd (cc g)
      go false None f g = absurd (cc g)
      go false (Some status) f g = let low = slice_get_within s.threads t status f in omega (arith, low)
