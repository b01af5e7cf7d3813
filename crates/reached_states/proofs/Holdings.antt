-- A step changes the holding of one resource at most.
use Rattle.std.proofs.Common.{◌≡◌, ◌≢◌, ℕ, suc, ◌+◌, ◌-◌, ◌<◌, Bool, true, false, cond, List, [], length, get_or, Option, Some, None, refl, sym, ap, ◌∙◌, subst, ◌⊎◌, inl, inr, ⊎_elim, arith}
use Rattle.std.specs.Prelude.{nat_lt, if◌then◌else◌, slice_get, slice_set, unwrap_or}
use Rattle.std.proofs.lemmas.Bool.{lt-ltb, le-ltb, eq-eqb, ne_eqb, cases_lt}
use Rattle.std.proofs.lemmas.Bool.Decides.{eqb_tells}
use Rattle.std.proofs.lemmas.Option.{slice_get_within, slice_get-get_or}
use Rattle.c_tree.specs.Bare.{Program}
use Rattle.c_tree.specs.Numbering.{mutex_count, monitor_resource}
use Rattle.c_meaning.specs.State.{Status, State}
use Rattle.c_meaning.specs.Locks.{held_by}
use Rattle.c_meaning.specs.Stuck.{is_owner, row_of}
use Rattle.c_meaning.proofs.Reading.{unwritten}
use Rattle.step_effects.specs.Effects.{Is, HasFree, Effect}
use Rattle.step_effects.proofs.Steps.{each_effect}
use Rattle.step_effects.proofs.Threads.{written}
use Rattle.reached_states.specs.Lengths.{HasLengths}
use Rattle.reached_states.specs.Counts.{tokens_held}
use Rattle.reached_states.specs.Holdings.{HoldsMore, Changes, StepsChangeOne}
use Rattle.reached_states.proofs.Lengths.{reached_have_lengths}

-- what is held of a mutex with this owner, or of a monitor with this row
abbrev held_as : Bool → Option (Option ℕ) → List ℕ → ℕ → ℕ
held_as b owner row u = if b then (if is_owner u owner then 1 else 0) else held_by row u

-- ---- how many tokens of a monitor a thread holds, by its row

pub held_of_monitor : (p : Program) (s : State) (t k : ℕ) → tokens_held p s t (monitor_resource p k) ≡ held_by (unwrap_or (slice_get s.tokens k) []) t
held_of_monitor p s t k =
    let same : mutex_count p + k - mutex_count p ≡ k = omega arith in
    ap (λ b. held_as b (slice_get s.owners (mutex_count p + k)) (row_of p s (mutex_count p + k)) t) (le-ltb (mutex_count p + k) (mutex_count p) (omega arith))
    ∙ ap (λ n. held_by (unwrap_or (slice_get s.tokens n) []) t) same

-- ---- an owner more

other_owner : (t u : ℕ) → u ≢ t → is_owner u (Some (Some t)) ≡ false
other_owner t u other = ne_eqb t u (λ e. other (sym e))

module _ (p : Program) (less more : State) (t m : ℕ) (below : m < mutex_count p) (free : slice_get less.owners m ≡ Some None) (owned : slice_get more.owners m ≡ Some (Some t))
    (others : (q : ℕ) → q ≢ m → slice_get more.owners q ≡ slice_get less.owners q) (same : more.tokens ≡ less.tokens) where
  same_rows : (u q : ℕ) → slice_get more.owners q ≡ slice_get less.owners q → tokens_held p more u q ≡ tokens_held p less u q
  same_rows u q owner =
      ap (λ o. held_as (nat_lt q (mutex_count p)) o (row_of p more q) u) owner
      ∙ ap (λ (rows : List (List ℕ)). held_as (nat_lt q (mutex_count p)) (slice_get less.owners q) (unwrap_or (slice_get rows (q - mutex_count p)) []) u) same

  -- of that mutex
  of_mutex : (s : State) (u : ℕ) (o : Option (Option ℕ)) → slice_get s.owners m ≡ o → tokens_held p s u m ≡ (if is_owner u o then 1 else 0)
  of_mutex s u o e =
      ap (λ b. held_as b (slice_get s.owners m) (row_of p s m) u) (lt-ltb m (mutex_count p) below) ∙ ap (λ x. if is_owner u x then 1 else 0) e

  pub owns_more : HoldsMore p less more t m
  owns_more = record {
    known = omega (arith, below);
    one = of_mutex more t (Some (Some t)) owned ∙ ap (λ b. if b then 1 else 0) (eq-eqb t t refl) ∙ ap suc (sym (of_mutex less t (Some None) free));
    threads = λ u q other. ⊎_elim
        (λ here. subst (λ n. tokens_held p more u n ≡ tokens_held p less u n) (sym here.1)
        (of_mutex more u (Some (Some t)) owned ∙ ap (λ b. if b then 1 else 0) (other_owner t u other) ∙ sym (of_mutex less u (Some None) free)))
        (λ differs. same_rows u q (others q differs.1))
        (eqb_tells q m);
    resources = λ u q other. same_rows u q (others q other);
  }

-- ---- a token more

module _ (p : Program) (less more : State) (t k : ℕ) (old new : List ℕ) (below : k < length p.monitors) (was : slice_get less.tokens k ≡ Some old) (is : slice_get more.tokens k ≡ Some new)
    (one : held_by new t ≡ suc (held_by old t)) (rest : (u : ℕ) → u ≢ t → held_by new u ≡ held_by old u)
    (others : (q : ℕ) → q ≢ k → slice_get more.tokens q ≡ slice_get less.tokens q) (same : more.owners ≡ less.owners) where
  of_row : (s : State) (u : ℕ) (row : List ℕ) → slice_get s.tokens k ≡ Some row → tokens_held p s u (monitor_resource p k) ≡ held_by row u
  of_row s u row e = held_of_monitor p s u k ∙ ap (λ o. held_by (unwrap_or o []) u) e

  -- of a resource whose row is the same
  same_owner : (u q : ℕ) → (q < mutex_count p) ⊎ (slice_get more.tokens (q - mutex_count p) ≡ slice_get less.tokens (q - mutex_count p)) → tokens_held p more u q ≡ tokens_held p less u q
  same_owner u q (inl low) =
      ap (λ b. held_as b (slice_get more.owners q) (row_of p more q) u) (lt-ltb q (mutex_count p) low)
      ∙ ap (λ (owners : List (Option ℕ)). held_as true (slice_get owners q) (row_of p less q) u) same
      ∙ ap (λ b. held_as b (slice_get less.owners q) (row_of p less q) u) (sym (lt-ltb q (mutex_count p) low))
  same_owner u q (inr row) =
      ap (λ (owners : List (Option ℕ)). held_as (nat_lt q (mutex_count p)) (slice_get owners q) (row_of p more q) u) same
      ∙ ap (λ o. held_as (nat_lt q (mutex_count p)) (slice_get less.owners q) (unwrap_or o []) u) row

  -- another resource is a mutex, or a monitor of another number
  elsewhere : (q : ℕ) → q ≢ monitor_resource p k → (q < mutex_count p) ⊎ (slice_get more.tokens (q - mutex_count p) ≡ slice_get less.tokens (q - mutex_count p))
  elsewhere q other = ⊎_elim
      (λ low. inl low)
      (λ high. inr (others (q - mutex_count p) (λ e. other (omega (arith, high, e)))))
      (cases_lt q (mutex_count p))

  pub tokens_more : HoldsMore p less more t (monitor_resource p k)
  tokens_more = record {
    known = omega (arith, below);
    one = of_row more t new is ∙ one ∙ ap suc (sym (of_row less t old was));
    threads = λ u q other. ⊎_elim
        (λ here. subst (λ n. tokens_held p more u n ≡ tokens_held p less u n) (sym here.1) (of_row more u new is ∙ rest u other ∙ sym (of_row less u old was)))
        (λ differs. same_owner u q (elsewhere q differs.1))
        (eqb_tells q (monitor_resource p k));
    resources = λ u q other. same_owner u q (elsewhere q other);
  }

-- ---- rows that are written

row_there : (row : List ℕ) (t held : ℕ) → t < length row → held_by (slice_set row t held) t ≡ held
row_there row t held within = ap (λ o. unwrap_or o 0) (written row t (get_or row t 0) held (slice_get-get_or row t 0 within))

row_other : (row : List ℕ) (t held u : ℕ) → u ≢ t → held_by (slice_set row t held) u ≡ held_by row u
row_other row t held u other = ap (λ o. unwrap_or o 0) (unwritten row t u held other)

module _ (p : Program) (s : State) (lengths : HasLengths p s) (t : ℕ) where
  mutex_known : (m : ℕ) (owner : Option ℕ) → slice_get s.owners m ≡ Some owner → m < mutex_count p
  mutex_known m owner e = let within = slice_get_within s.owners m owner e in let same = lengths.owners in omega (arith, within, same)

  in_row : (status : Status) (k : ℕ) (row : List ℕ) → Is s t status → slice_get s.tokens k ≡ Some row → t < length row
  in_row status k row is there =
      let within = slice_get_within s.threads t status is in
      let many = lengths.threads in
      let long = lengths.each_row k row there in omega (arith, within, many, long)

  -- a token that is taken, and one that is given
  taken_more : (status : Status) (k : ℕ) (row : List ℕ) (next : State) → Is s t status → HasFree p s k row → next.owners ≡ s.owners
      → next.tokens ≡ slice_set s.tokens k (slice_set row t (suc (held_by row t))) → HoldsMore p s next t (monitor_resource p k)
  taken_more status k row next is free same rows =
      let new = slice_set row t (suc (held_by row t)) in
      tokens_more p s next t k row new (slice_get_within p.monitors k free.capacity free.has) free.row_is
      (ap (λ (ts : List (List ℕ)). slice_get ts k) rows ∙ written s.tokens k row new free.row_is)
      (row_there row t (suc (held_by row t)) (in_row status k row is free.row_is)) (λ u other. row_other row t (suc (held_by row t)) u other)
      (λ q other. ap (λ (ts : List (List ℕ)). slice_get ts q) rows ∙ unwritten s.tokens k q new other) same

  given_less : (status : Status) (k : ℕ) (row : List ℕ) (left : ℕ) (next : State) → Is s t status → slice_get s.tokens k ≡ Some row → held_by row t ≡ suc left → next.owners ≡ s.owners
      → next.tokens ≡ slice_set s.tokens k (slice_set row t left) → HoldsMore p next s t (monitor_resource p k)
  given_less status k row left next is there held same rows =
      let new = slice_set row t left in
      let many = lengths.rows in
      let within = slice_get_within s.tokens k row there in
      tokens_more p next s t k new row (omega (arith, many, within)) (ap (λ (ts : List (List ℕ)). slice_get ts k) rows ∙ written s.tokens k row new there) there
      (held ∙ ap suc (sym (row_there row t left (in_row status k row is there)))) (λ u other. sym (row_other row t left u other))
      (λ q other. sym (ap (λ (ts : List (List ℕ)). slice_get ts q) rows ∙ unwritten s.tokens k q new other)) (sym same)

  -- a mutex that is acquired, and one that is released
  acquired_more : (m : ℕ) (next : State) → slice_get s.owners m ≡ Some None → next.owners ≡ slice_set s.owners m (Some t) → next.tokens ≡ s.tokens → HoldsMore p s next t m
  acquired_more m next free owners same = owns_more p s next t m (mutex_known m None free) free
      (ap (λ (os : List (Option ℕ)). slice_get os m) owners ∙ written s.owners m None (Some t) free)
      (λ q other. ap (λ (os : List (Option ℕ)). slice_get os q) owners ∙ unwritten s.owners m q (Some t) other) same

  released_less : (m : ℕ) (next : State) → slice_get s.owners m ≡ Some (Some t) → next.owners ≡ slice_set s.owners m None → next.tokens ≡ s.tokens → HoldsMore p next s t m
  released_less m next owned owners same = owns_more p next s t m (mutex_known m (Some t) owned)
      (ap (λ (os : List (Option ℕ)). slice_get os m) owners ∙ written s.owners m (Some t) None owned) owned
      (λ q other. sym (ap (λ (os : List (Option ℕ)). slice_get os q) owners ∙ unwritten s.owners m q None other)) (sym same)

  -- ---- each effect

  pub changes_of : (next : State) → Effect p s t next → Changes p s next t
  changes_of next (Effect.goes frames more cells input output is g same) = Changes.none (λ u r. refl)
  changes_of next (Effect.locks frames more m is g free) = Changes.gains m (acquired_more m _ free refl refl)
  changes_of next (Effect.unlocks frames more m is g owned) = Changes.loses m (released_less m _ owned refl refl)
  changes_of next (Effect.takes frames more monitor row is g free) = Changes.gains (monitor_resource p monitor) (taken_more _ monitor row _ is free refl refl)
  changes_of next (Effect.gives frames more monitor row left is g there held) = Changes.loses (monitor_resource p monitor) (given_less _ monitor row left _ is there held refl refl)
  changes_of next (Effect.begins l slot name arg rest more u f z is idle at named value) = Changes.none (λ u r. refl)
  changes_of next (Effect.ends newest is) = Changes.none (λ u r. refl)
  changes_of next (Effect.waits l cond place taking rest more c m is at on owned) = Changes.loses m (released_less m _ owned refl refl)
  changes_of next (Effect.wakes_one frames more waiting u c m is g asleep) = Changes.none (λ u r. refl)
  changes_of next (Effect.wakes_all frames more c is g) = Changes.none (λ u r. refl)
  changes_of next (Effect.wakes c m frames is) = Changes.none (λ u r. refl)
  changes_of next (Effect.takes_again m monitor left frames row is free) = Changes.gains (monitor_resource p monitor) (taken_more _ monitor row _ is free refl refl)
  changes_of next (Effect.retakes m l cond place taking rest more is free) = Changes.gains m (acquired_more m _ free refl refl)

pub steps_change_one : StepsChangeOne
steps_change_one p input s e done next r leads = changes_of p s (reached_have_lengths p input s r) e.thread next (each_effect p s e done next leads)
