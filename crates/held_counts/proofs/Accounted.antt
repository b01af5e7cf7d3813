-- Where what is held is the account of the edges, the walk refuses nothing, and its counts are what is held.
use Rattle.std.proofs.Common.{◌≡◌, ℕ, zero, suc, ◌+◌, ◌<◌, ◌≤◌, List, [], ◌∷◌, length, refl, sym, ap, ◌∙◌, subst, ⊎_elim, arith}
use Rattle.std.specs.Prelude.{slice_index, ◌==◌}
use Rattle.std.proofs.lemmas.Bool.{eq-eqb, cases_lt}
use Rattle.std.proofs.lemmas.List.{ext_get_or, length-replicate}
use Rattle.std.proofs.lemmas.List.FromFn.{get_or-map-range_with_len, length-map-range_with_len}
use Rattle.edges.specs.declared.EdgeOp.{EdgeOp}
use Rattle.edges.specs.declared.EdgeOp.TheVariants as op
use Rattle.edges.specs.Ops.{takes, gives}
use Rattle.net_laws.specs.Net.{Net, one}
use Rattle.outlines.specs.Outline.{Thread}
use Rattle.outlines.specs.Whole.{ThreadsName, ThreadsAreWhole}
use Rattle.outlines.specs.Rows.{Way, HasWay, edge}
use Rattle.outline_laws.specs.Nets.{IsNetOf}
use Rattle.outline_laws.proofs.Numbers.{from_self, ends_length}
use Rattle.outline_laws.proofs.Named.{OpBelow, all_below, op_below}
use Rattle.outline_laws.proofs.Placed.{rows_of, src_of, edge_of, within}
use Rattle.held_counts.specs.Held.{acted, IsAllowed, IsKept, BeginsWith}
use Rattle.held_counts.specs.Nets.{nothing_of, IsHeldNetOf}
use Rattle.held_counts.specs.Accounted.{held_list, HasAccounts, AccountsMakeHeldNets}
use Rattle.held_counts.proofs.Along.{account, kept_length, all_none}
use Rattle.held_counts.proofs.Whole.{accounts_walked}

counted_self : (q : ℕ) → one (q == q) ≡ 1
counted_self q = ap (λ b. one b) (eq-eqb q q refl)

module _ (n : Net) (ths : List Thread) (net : IsNetOf n ths) (named : ThreadsName n.resources ths) (has : HasAccounts n ths) where
  abbrev at : ℕ → List ℕ
  at p = held_list n p

  long : (p : ℕ) → length (at p) ≡ n.resources
  long p = length-map-range_with_len (n.held p) 0 n.resources

  index : (p r : ℕ) → r < n.resources → slice_index (at p) r ≡ n.held p r
  index p r lt = get_or-map-range_with_len (n.held p) 0 n.resources r r 0 lt (omega arith)

  -- a list that is as long and says the same of each resource
  is_nothing : (p : ℕ) → ((r : ℕ) → n.held p r ≡ 0) → at p ≡ nothing_of n
  is_nothing p none = ext_get_or 0 (at p) (nothing_of n) (long p ∙ sym (length-replicate n.resources 0))
      (λ r lt. index p r (omega (arith, lt, long p)) ∙ none r ∙ sym (all_none n.resources r))

  point_of : (p : ℕ) → p < length (rows_of ths) → p < n.points
  point_of p lt = let points = net.points in omega (arith, lt, points)

  allowed : (does : EdgeOp) (p q : ℕ) → q < n.points → OpBelow n.resources does → ((r : ℕ) → n.held q r + one (gives does r) ≡ n.held p r + one (takes does r)) → IsAllowed n.mutexes does (at p)
  allowed op.Plain p q lt below acc = tt
  allowed (op.Acquire r) p q lt below acc = λ mutex. omega (arith, acc r, counted_self r, has.once q r lt mutex, index p r below)
  allowed (op.Try r) p q lt below acc = λ mutex. omega (arith, acc r, counted_self r, has.once q r lt mutex, index p r below)
  allowed (op.Reacquire r) p q lt below acc = λ mutex. omega (arith, acc r, counted_self r, has.once q r lt mutex, index p r below)
  allowed (op.Release r) p q lt below acc = omega (arith, acc r, counted_self r, index p r below)

  kept : (p : ℕ) → p < length (rows_of ths) → IsKept n.mutexes (nothing_of n) (src_of ths) at p
  kept p lt = record {
    account = λ w on. acts w on;
    allowed = λ w on. may w on;
    joins = λ is. is_nothing p (λ r. has.joins p r (point_of p lt) is);
    ends = λ is. is_nothing p (λ r. has.ends p r (point_of p lt) is);
  }
    where
      below : (w : Way) → HasWay (src_of ths) p w → OpBelow n.resources w.op
      below w on = op_below n.resources (src_of ths) (rows_of ths) 0 p w (all_below n.resources 0 ths 0 named) (from_self (rows_of ths)) (omega arith) (omega (arith, lt, ends_length (rows_of ths) 0)) on

      may : (w : Way) → HasWay (src_of ths) p w → IsAllowed n.mutexes w.op (at p)
      may w on = allowed w.op p w.to (point_of w.to (within ths p w lt on)) (below w on) (λ r. has.accounts (edge p w) r (edge_of n ths net p w lt on))

      acts : (w : Way) → HasWay (src_of ths) p w → at w.to ≡ acted w.op (at p)
      acts w on =
          let fits = subst (λ x. OpBelow x w.op) (sym (long p)) (below w on) in
          let same : length (at w.to) ≡ length (acted w.op (at p)) = long w.to ∙ sym (kept_length w.op (at p) ∙ long p) in
          ext_get_or 0 (at w.to) (acted w.op (at p)) same
          (λ r short.
          let in_range : r < n.resources = omega (arith, short, long w.to) in
          let here = account n.mutexes w.op (at p) r fits (may w on) in
          omega (arith, here, has.accounts (edge p w) r (edge_of n ths net p w lt on), index w.to r in_range, index p r in_range))

  begins : BeginsWith (nothing_of n) at ths
  begins u th is = is_nothing _ (λ r. has.begins u th r is)

  beyond : (p r : ℕ) → n.resources ≤ r → slice_index (at p) r ≡ 0
  beyond p r far = past (at p) r (omega (arith, long p, far))
    where
      past : (xs : List ℕ) (r : ℕ) → length xs ≤ r → slice_index xs r ≡ 0
      past [] r le = refl
      past (x ∷ xs) zero le = absurd (omega (arith, le))
      past (x ∷ xs) (suc r) le = past xs r (omega (arith, le))

  pub held_net : ThreadsAreWhole n.mutexes ths → IsHeldNetOf n ths (held_list n)
  held_net whole =
      let w = accounts_walked n.mutexes (nothing_of n) ths (src_of ths) at (from_self (rows_of ths)) (λ i lt. kept i lt) begins in
      record {
        net = net;
        named = named;
        whole = whole;
        accepted = w.0;
        counted = w.1;
        held = λ p r lt. ⊎_elim (λ below. sym (index p r below)) (λ far. has.beyond p r lt far ∙ sym (beyond p r far)) (cases_lt r n.resources);
      }

pub accounts_make_held_nets : AccountsMakeHeldNets
accounts_make_held_nets n ths net named whole has = held_net n ths net named has whole
