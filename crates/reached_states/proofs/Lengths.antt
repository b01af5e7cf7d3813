-- No step changes the lengths of lists.
use Rattle.std.proofs.Common.{◌≡◌, ℕ, ◌-◌, ◌≤◌, List, [], ◌∷◌, length, map, replicate, Some, None, refl, sym, ap, ◌∙◌, arith}
use Rattle.std.specs.Prelude.{ℤ, pos, slice_get, slice_set, flat_map, sum_by}
use Rattle.std.proofs.lemmas.List.{length-set, length-map, length-append, length-replicate}
use Rattle.std.proofs.lemmas.List.Sums.{sum_by-cons}
use Rattle.c_tree.specs.Bare as bare
use Rattle.c_tree.specs.Bare.{Program}
use Rattle.c_tree.specs.Numbering.{mutex_count, thread_count, creations}
use Rattle.c_meaning.specs.State.{NotBegun, Running, Ended, State, first_values, first_cells, start}
use Rattle.c_meaning.specs.Waits.{awakened}
use Rattle.step_effects.specs.Effects.{Effect}
use Rattle.step_effects.proofs.Reaching.{keeps_in_reached}
use Rattle.reached_states.specs.Lengths.{cell_count, HasLengths, ReachedHaveLengths, ReachedHaveCells}
use Rattle.reached_states.proofs.Rows.{made_of, WasRow, was_same, was_written}

module _ (p : Program) (s : State) (h : HasLengths p s) where
  kept : (next : State) → length next.cells ≡ length s.cells → length next.owners ≡ length s.owners → length next.threads ≡ length s.threads → length next.tokens ≡ length s.tokens
      → ((k : ℕ) (row : List ℕ) → slice_get next.tokens k ≡ Some row → WasRow s.tokens k row) → HasLengths p next
  kept next cells owners threads tokens rows = record {
    cells = cells ∙ h.cells;
    owners = owners ∙ h.owners;
    threads = threads ∙ h.threads;
    rows = tokens ∙ h.rows;
    each_row = λ k row there. let was = rows k row there in was.same ∙ h.each_row k was.old was.there;
  }

  pub keeps_lengths : (t : ℕ) (next : State) → Effect p s t next → HasLengths p next
  keeps_lengths t next (Effect.goes frames more cells input output is g same) =
      kept next same refl (length-set s.threads t (Running more)) refl (was_same s.tokens)
  keeps_lengths t next (Effect.locks frames more m is g free) =
      kept next refl (length-set s.owners m (Some t)) (length-set s.threads t (Running more)) refl (was_same s.tokens)
  keeps_lengths t next (Effect.unlocks frames more m is g owned) =
      kept next refl (length-set s.owners m None) (length-set s.threads t (Running more)) refl (was_same s.tokens)
  keeps_lengths t next (Effect.takes frames more monitor row is g free) =
      kept next refl refl (length-set s.threads t (Running more)) (length-set s.tokens monitor _) (was_written s.tokens monitor t _ row free.row_is)
  keeps_lengths t next (Effect.gives frames more monitor row left is g there held) =
      kept next refl refl (length-set s.threads t (Running more)) (length-set s.tokens monitor _) (was_written s.tokens monitor t left row there)
  keeps_lengths t next (Effect.begins l slot name arg rest more u f z is idle at named value) =
      kept next refl refl (length-set (slice_set s.threads t _) u _ ∙ length-set s.threads t _) refl (was_same s.tokens)
  keeps_lengths t next (Effect.ends newest is) = kept next refl refl (length-set s.threads t Ended) refl (was_same s.tokens)
  keeps_lengths t next (Effect.waits l cond place taking rest more c m is at on owned) =
      kept next refl (length-set s.owners m None) (length-set s.threads t _) refl (was_same s.tokens)
  keeps_lengths t next (Effect.wakes_one frames more waiting u c m is g asleep) =
      kept next refl refl (length-set (slice_set s.threads t (Running more)) u _ ∙ length-set s.threads t (Running more)) refl (was_same s.tokens)
  keeps_lengths t next (Effect.wakes_all frames more c is g) =
      kept next refl refl (length-map (slice_set s.threads t (Running more)) (awakened c) ∙ length-set s.threads t (Running more)) refl (was_same s.tokens)
  keeps_lengths t next (Effect.wakes c m frames is) = kept next refl refl (length-set s.threads t _) refl (was_same s.tokens)
  keeps_lengths t next (Effect.takes_again m monitor left frames row is free) =
      kept next refl refl (length-set s.threads t _) (length-set s.tokens monitor _) (was_written s.tokens monitor t _ row free.row_is)
  keeps_lengths t next (Effect.retakes m l cond place taking rest more is free) =
      kept next refl (length-set s.owners m (Some t)) (length-set s.threads t _) refl (was_same s.tokens)

-- ---- at the start

start_lengths : (p : Program) (input : List ℤ) → HasLengths p (start p input)
start_lengths p input = record {
  cells = refl;
  owners = length-replicate (mutex_count p) None;
  threads = let others : length (replicate (length (creations p)) NotBegun) ≡ length (creations p) = length-replicate (length (creations p)) NotBegun in omega (arith, others);
  rows = length-map p.monitors (λ capacity. replicate (thread_count p) 0);
  each_row = λ k row there.
      let from = made_of (λ (capacity : ℕ). replicate (thread_count p) 0) p.monitors k row there in
      ap length (sym from.2) ∙ length-replicate (thread_count p) 0;
}

pub reached_have_lengths : ReachedHaveLengths
reached_have_lengths p input s r = keeps_in_reached p (HasLengths p) (λ old t next effect h. keeps_lengths p old h t next effect) input s (start_lengths p input) r

-- ---- cells

array_cells : (arrays : List bare.Array) → sum_by (λ (a : bare.Array). a.len) arrays ≤ length (flat_map first_values arrays)
array_cells [] = omega arith
array_cells (a ∷ arrays) =
    let more = array_cells arrays in
    let all = sum_by-cons (λ (a : bare.Array). a.len) a arrays in
    let both = length-append (first_values a) (flat_map first_values arrays) in
    let values = length-append a.values (replicate (a.len - length a.values) (pos 0)) in
    let zeros : length (replicate (a.len - length a.values) (pos 0)) ≡ a.len - length a.values = length-replicate (a.len - length a.values) (pos 0) in
    omega (arith, more, all, both, values, zeros)

pub enough_cells : (p : Program) → cell_count p ≤ length (first_cells p)
enough_cells p =
    let ints = length-map p.ints (λ (c : bare.Cell). c.value) in
    let both = length-append (map (λ (c : bare.Cell). c.value) p.ints) (flat_map first_values p.arrays) in
    omega (arith, ints, both, array_cells p.arrays)

pub reached_have_cells : ReachedHaveCells
reached_have_cells p input s r = let same = (reached_have_lengths p input s r).cells in omega (arith, same, enough_cells p)
