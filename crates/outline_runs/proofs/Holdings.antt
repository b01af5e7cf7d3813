-- What a thread holds behind a step that takes or gives one token.
use Rattle.std.proofs.Common.{◌≡◌, ◌≢◌, ℕ, suc, ◌+◌, ◌<◌, Bool, List, length, get_or, Option, Some, None, sym, ap, ◌∙◌, ⊎_elim, arith}
use Rattle.std.specs.Prelude.{◌==◌, if◌then◌else◌, slice_get, slice_set, unwrap_or}
use Rattle.std.proofs.lemmas.Bool.Decides.{eqb_tells}
use Rattle.std.proofs.lemmas.Option.{slice_get_within, slice_get-get_or}
use Rattle.c_tree.specs.Bare.{Program}
use Rattle.c_tree.specs.Numbering.{mutex_count, monitor_resource, thread_count}
use Rattle.c_meaning.specs.State.{State}
use Rattle.c_meaning.specs.Locks.{held_by}
use Rattle.c_meaning.proofs.Reading.{unwritten}
use Rattle.edges.specs.declared.EdgeOp.TheVariants as op
use Rattle.step_effects.proofs.Threads.{written}
use Rattle.reached_states.specs.Lengths.{HasLengths}
use Rattle.reached_states.specs.Holdings.{HoldsMore}
use Rattle.reached_states.proofs.Holdings.{owns_more, tokens_more}
use Rattle.outline_runs.specs.Moving.{Alters}

-- ---- one token more is the account of an operation that takes it

abbrev counted : Bool → ℕ
counted b = if b then 1 else 0

one_more : (before after : ℕ → ℕ) (r : ℕ) → after r ≡ suc (before r) → ((q : ℕ) → q ≢ r → after q ≡ before q) → (q : ℕ) → after q + 0 ≡ before q + counted (r == q)
one_more before after r one others q = ⊎_elim
    (λ same.
    let is_one : counted (r == q) ≡ 1 = ap counted same.0 in
    let was : before r ≡ before q = ap before same.1 in
    let is : after r ≡ after q = ap after same.1 in
    omega (arith, is_one, was, is, one))
    (λ other.
    let is_none : counted (r == q) ≡ 0 = ap counted other.0 in
    let kept = others q (λ e. other.1 (sym e)) in
    omega (arith, is_none, kept))
    (eqb_tells r q)

pub acquire_alters : (before after : ℕ → ℕ) (r : ℕ) → after r ≡ suc (before r) → ((q : ℕ) → q ≢ r → after q ≡ before q) → Alters (op.Acquire r) before after
acquire_alters before after r one others = one_more before after r one others

pub try_alters : (before after : ℕ → ℕ) (r : ℕ) → after r ≡ suc (before r) → ((q : ℕ) → q ≢ r → after q ≡ before q) → Alters (op.Try r) before after
try_alters before after r one others = one_more before after r one others

pub reacquire_alters : (before after : ℕ → ℕ) (r : ℕ) → after r ≡ suc (before r) → ((q : ℕ) → q ≢ r → after q ≡ before q) → Alters (op.Reacquire r) before after
reacquire_alters before after r one others = one_more before after r one others

pub release_alters : (before after : ℕ → ℕ) (r : ℕ) → before r ≡ suc (after r) → ((q : ℕ) → q ≢ r → before q ≡ after q) → Alters (op.Release r) before after
release_alters before after r one others q = sym (one_more after before r one others q)

-- ---- what is written

row_there : (row : List ℕ) (t held : ℕ) → t < length row → held_by (slice_set row t held) t ≡ held
row_there row t held within = ap (λ o. unwrap_or o 0) (written row t (get_or row t 0) held (slice_get-get_or row t 0 within))

row_other : (row : List ℕ) (t held u : ℕ) → u ≢ t → held_by (slice_set row t held) u ≡ held_by row u
row_other row t held u other = ap (λ o. unwrap_or o 0) (unwritten row t u held other)

module _ (p : Program) (s : State) (lengths : HasLengths p s) (t : ℕ) where
  mutex_known : (m : ℕ) (owner : Option ℕ) → slice_get s.owners m ≡ Some owner → m < mutex_count p
  mutex_known m owner e = let within = slice_get_within s.owners m owner e in let same = lengths.owners in omega (arith, within, same)

  -- a mutex that is locked, and one that is unlocked
  pub locked_more : (m : ℕ) (next : State) → slice_get s.owners m ≡ Some None → next.owners ≡ slice_set s.owners m (Some t) → next.tokens ≡ s.tokens → HoldsMore p s next t m
  locked_more m next free owners same = owns_more p s next t m (mutex_known m None free) free
      (ap (λ (os : List (Option ℕ)). slice_get os m) owners ∙ written s.owners m None (Some t) free)
      (λ q other. ap (λ (os : List (Option ℕ)). slice_get os q) owners ∙ unwritten s.owners m q (Some t) other) same

  pub unlocked_less : (m : ℕ) (next : State) → slice_get s.owners m ≡ Some (Some t) → next.owners ≡ slice_set s.owners m None → next.tokens ≡ s.tokens → HoldsMore p next s t m
  unlocked_less m next owned owners same = owns_more p next s t m (mutex_known m (Some t) owned)
      (ap (λ (os : List (Option ℕ)). slice_get os m) owners ∙ written s.owners m (Some t) None owned) owned
      (λ q other. sym (ap (λ (os : List (Option ℕ)). slice_get os q) owners ∙ unwritten s.owners m q None other)) (sym same)

  module _ (within : t < thread_count p) (k : ℕ) (row : List ℕ) (there : slice_get s.tokens k ≡ Some row) where
    in_row : t < length row
    in_row = let long = lengths.each_row k row there in omega (arith, within, long)

    in_rows : k < length p.monitors
    in_rows = let few = slice_get_within s.tokens k row there in let many = lengths.rows in omega (arith, few, many)

    -- a token that is taken, and one that is given
    pub taken_more : (next : State) → next.owners ≡ s.owners → next.tokens ≡ slice_set s.tokens k (slice_set row t (suc (held_by row t))) → HoldsMore p s next t (monitor_resource p k)
    taken_more next same rows =
        let new = slice_set row t (suc (held_by row t)) in
        tokens_more p s next t k row new in_rows there
        (ap (λ (ts : List (List ℕ)). slice_get ts k) rows ∙ written s.tokens k row new there)
        (row_there row t (suc (held_by row t)) in_row) (λ u other. row_other row t (suc (held_by row t)) u other)
        (λ q other. ap (λ (ts : List (List ℕ)). slice_get ts q) rows ∙ unwritten s.tokens k q new other) same

    pub given_less : (left : ℕ) (next : State) → held_by row t ≡ suc left → next.owners ≡ s.owners → next.tokens ≡ slice_set s.tokens k (slice_set row t left) → HoldsMore p next s t (monitor_resource p k)
    given_less left next held same rows =
        let new = slice_set row t left in
        tokens_more p next s t k new row in_rows (ap (λ (ts : List (List ℕ)). slice_get ts k) rows ∙ written s.tokens k row new there) there
        (held ∙ ap suc (sym (row_there row t left in_row))) (λ u other. sym (row_other row t left u other))
        (λ q other. sym (ap (λ (ts : List (List ℕ)). slice_get ts q) rows ∙ unwritten s.tokens k q new other)) (sym same)
