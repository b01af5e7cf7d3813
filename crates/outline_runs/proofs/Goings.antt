-- One thread goes along its outline, or stays, and the others stay.
use Rattle.std.proofs.Common.{◌≡◌, ◌≢◌, ℕ, zero, suc, List, [], ◌∷◌, Option, refl, sym, ap, ◌∙◌, subst, inl, inr, ⊎_elim}
use Rattle.std.specs.Prelude.{slice_get, slice_set}
use Rattle.std.proofs.lemmas.Bool.Decides.{eqb_tells}
use Rattle.c_meaning.specs.State.{Status, State, with_status}
use Rattle.c_meaning.proofs.Reading.{unwritten}
use Rattle.edges.specs.declared.EdgeOp.{EdgeOp}
use Rattle.edges.specs.declared.EdgeOp.TheVariants as op
use Rattle.outlines.specs.Outline.{Parts}
use Rattle.outlines.specs.Moves.{Position, MovesTo}
use Rattle.contexts.specs.Outlined.{Code}
use Rattle.reached_states.specs.Counts.{tokens_held}
use Rattle.reached_states.specs.Holdings.{HoldsMore}
use Rattle.outline_runs.specs.Standing.{StandsAt, StandsIf, Standing}
use Rattle.outline_runs.specs.Moving.{Alters, Moves}
use Rattle.outline_runs.proofs.Holdings.{acquire_alters, try_alters, reacquire_alters, release_alters}

-- where one thread stands behind a step, and how it came there
pub record MovedOne (code : Code) (body : Parts) (x : Position) (before : ℕ → ℕ) (status : Option Status) (after : ℕ → ℕ) : Type 0 where
  pub to : Position
  pub stands : StandsIf code status to
  pub moves : Moves body x to before after

-- each thread
abbrev pub Moved : Code → (ℕ → Parts) → State → (ℕ → Position) → State → Type 0
Moved code bodies s at next = (u : ℕ) → MovedOne code (bodies u) (at u) (tokens_held code.program s u) (slice_get next.threads u) (tokens_held code.program next u)

pub stands_written : (code : Code) (threads : List Status) (t : ℕ) (new : Status) (y : Position) → StandsAt code new y → StandsIf code (slice_get (slice_set threads t new) t) y
stands_written code [] t new y there = tt
stands_written code (x ∷ xs) zero new y there = there
stands_written code (x ∷ xs) (suc t) new y there = stands_written code xs t new y there

-- a thread that is where it was
pub unmoved : (code : Code) (body : Parts) (x : Position) (held : ℕ → ℕ) (status : Option Status) → StandsIf code status x → MovedOne code body x held status held
unmoved code body x held status there = record { to = x; stands = there; moves = inl (record { there = refl; keeps = λ r. refl }) }

module _ (code : Code) (bodies : ℕ → Parts) (s : State) (t : ℕ) (at : ℕ → Position) (standing : Standing code s at) where
  -- what the thread does is set, and what the others hold stays
  pub sets : (next : State) (new : Status) (y : Position) → next.threads ≡ slice_set s.threads t new → StandsAt code new y
      → Moves (bodies t) (at t) y (tokens_held code.program s t) (tokens_held code.program next t)
      → ((u r : ℕ) → u ≢ t → tokens_held code.program next u r ≡ tokens_held code.program s u r) → Moved code bodies s at next
  sets next new y threads there moves others u = ⊎_elim
      (λ same. subst (λ v. MovedOne code (bodies v) (at v) (tokens_held code.program s v) (slice_get next.threads v) (tokens_held code.program next v)) (sym same.1)
      (record { to = y; stands = subst (λ (ts : List Status). StandsIf code (slice_get ts t) y) (sym threads) (stands_written code s.threads t new y there); moves = moves }))
      (λ other. record {
        to = at u;
        stands = subst (λ o. StandsIf code o (at u)) (sym (ap (λ (ts : List Status). slice_get ts u) threads ∙ unwritten s.threads t u new other.1)) (standing u);
        moves = inl (record { there = refl; keeps = λ r. others u r other.1 });
      })
      (eqb_tells u t)

  -- along an edge that takes and gives nothing
  pub plainly : (new : Status) (x y : Position) → StandsAt code new y → at t ≡ x → MovesTo (bodies t) x op.Plain y → Moved code bodies s at (with_status s t new)
  plainly new x y there is edge = sets (with_status s t new) new y refl there
      (inr (record { does = op.Plain; edge = subst (λ z. MovesTo (bodies t) z op.Plain y) (sym is) edge; alters = λ r. refl })) (λ u r other. refl)

  -- inside a function that bears no locks
  pub still : (new : Status) → StandsAt code new (at t) → Moved code bodies s at (with_status s t new)
  still new there = sets (with_status s t new) new (at t) refl there (inl (record { there = refl; keeps = λ r. refl })) (λ u r other. refl)

  -- along an edge, to where the thread holds otherwise
  along : (next : State) (new : Status) (x y : Position) (does : EdgeOp) → next.threads ≡ slice_set s.threads t new → StandsAt code new y → at t ≡ x → MovesTo (bodies t) x does y
      → Alters does (tokens_held code.program s t) (tokens_held code.program next t)
      → ((u r : ℕ) → u ≢ t → tokens_held code.program next u r ≡ tokens_held code.program s u r) → Moved code bodies s at next
  along next new x y does threads there is edge alters others = sets next new y threads there
      (inr (record { does = does; edge = subst (λ z. MovesTo (bodies t) z does y) (sym is) edge; alters = alters })) others

  -- with a token more
  pub acquires : (next : State) (new : Status) (x y : Position) (r : ℕ) → next.threads ≡ slice_set s.threads t new → StandsAt code new y → at t ≡ x → MovesTo (bodies t) x (op.Acquire r) y
      → HoldsMore code.program s next t r → Moved code bodies s at next
  acquires next new x y r threads there is edge more = along next new x y (op.Acquire r) threads there is edge
      (acquire_alters (tokens_held code.program s t) (tokens_held code.program next t) r more.one (λ q other. more.resources t q other)) (λ u q other. more.threads u q other)

  pub tries : (next : State) (new : Status) (x y : Position) (r : ℕ) → next.threads ≡ slice_set s.threads t new → StandsAt code new y → at t ≡ x → MovesTo (bodies t) x (op.Try r) y
      → HoldsMore code.program s next t r → Moved code bodies s at next
  tries next new x y r threads there is edge more = along next new x y (op.Try r) threads there is edge
      (try_alters (tokens_held code.program s t) (tokens_held code.program next t) r more.one (λ q other. more.resources t q other)) (λ u q other. more.threads u q other)

  pub reacquires : (next : State) (new : Status) (x y : Position) (r : ℕ) → next.threads ≡ slice_set s.threads t new → StandsAt code new y → at t ≡ x → MovesTo (bodies t) x (op.Reacquire r) y
      → HoldsMore code.program s next t r → Moved code bodies s at next
  reacquires next new x y r threads there is edge more = along next new x y (op.Reacquire r) threads there is edge
      (reacquire_alters (tokens_held code.program s t) (tokens_held code.program next t) r more.one (λ q other. more.resources t q other)) (λ u q other. more.threads u q other)

  -- with a token less
  pub releases : (next : State) (new : Status) (x y : Position) (r : ℕ) → next.threads ≡ slice_set s.threads t new → StandsAt code new y → at t ≡ x → MovesTo (bodies t) x (op.Release r) y
      → HoldsMore code.program next s t r → Moved code bodies s at next
  releases next new x y r threads there is edge more = along next new x y (op.Release r) threads there is edge
      (release_alters (tokens_held code.program s t) (tokens_held code.program next t) r more.one (λ q other. more.resources t q other)) (λ u q other. sym (more.threads u q other))
