-- Where counts are the accounts of the ways, the walk refuses nothing, and they are its counts.
use Rattle.std.proofs.Common.{◌≡◌, ℕ, suc, ◌<◌, ◌≤◌, Bool, true, false, ◌&&◌, ◌||◌, List, [], ◌∷◌, Some, None, Option, ◌⊎◌, inl, inr, refl, sym, ap, ◌∙◌, subst, ⊎_elim, arith}
use Rattle.std.specs.Prelude.{slice_index, slice_get, unwrap_or}
use Rattle.std.specs.Option.{option_or}
use Rattle.edges.specs.declared.EdgeOp.{EdgeOp}
use Rattle.edges.specs.declared.EdgeOp.TheVariants as op
use Rattle.outlines.specs.Outline.{Part, Parts, Step, Join, Acquire, Release, Wait, Try, Branch, Loop, Inner, Leave, Nil, Cons, passes, passes_all}
use Rattle.outlines.specs.Rows.{Way, Kind, Act, Test, Sleeping, Waking, Joining, Trying, Row, way, row, HasWay, From}
use Rattle.outlines.specs.Points.{rows, rows_all, end, end_all, head, takes_end, woken_rows}
use Rattle.outline_laws.proofs.Lead.{behind, behind_all}
use Rattle.outline_laws.proofs.Out.{takes_grow, grows, grows_all}
use Rattle.outline_laws.proofs.Live.{IsLive, AllLive}
use Rattle.held_counts.specs.declared.HeldKind.TheVariants.{Relock, NotHeld, HeldDiffers, HeldAtEnd, HeldAtJoin, WaitNotHeld}
use Rattle.held_counts.specs.declared.HeldKind.{HeldKind}
use Rattle.held_counts.specs.Counts.{raise, lower, raise_each, after, after_all, first_exit, first_exit_all, counts, counts_all, counts_woken}
use Rattle.held_counts.specs.Refusals.{Refusal, refuse, differ, differs_from, refused, refused_all}
use Rattle.held_counts.specs.Held.{acted, IsAllowed, IsKept, HasCounts}
use Rattle.held_counts.proofs.Small.{none_both, or_none, or_assoc, no_difference, and_both, guarded, arms_met, free_off, held_off}

refuse_none : (b : Bool) (kind : HeldKind) (line : ℕ) → b ≡ false → refuse b kind line ≡ None
refuse_none true kind line e = absurd (cc e)
refuse_none false kind line e = refl

arms_out : (a b : Bool) (e f : Option (List ℕ)) → (a ≡ true) ⊎ ((c : List ℕ) × (e ≡ Some c)) → (b ≡ true) ⊎ ((c : List ℕ) × (f ≡ Some c)) → ((a || b) ≡ true) ⊎ ((c : List ℕ) × (option_or e f ≡ Some c))
arms_out true b e f x y = inl refl
arms_out false true e f x y = inl refl
arms_out false false e f x y = ⊎_elim (λ t. absurd (cc t)) (λ s. inr (s.0, ap (λ z. option_or z f) s.1)) x

in_turn : (a b : Bool) (e f : Option (List ℕ)) → (a ≡ true) ⊎ ((c : List ℕ) × (e ≡ Some c)) → (b ≡ true) ⊎ ((c : List ℕ) × (f ≡ Some c)) → ((a && b) ≡ true) ⊎ ((c : List ℕ) × (option_or e f ≡ Some c))
in_turn a b (Some c) f x y = inr (c, refl)
in_turn a b None f x y = ⊎_elim (λ t. ⊎_elim (λ s. inl (and_both a b t s)) (λ s. inr s) y) (λ s. absurd (cc s.1)) x

-- control passes parts, or they have an exit
mutual
  part_out : (here : List ℕ) (x : Part) → (passes x ≡ true) ⊎ ((c : List ℕ) × (first_exit here x ≡ Some c))
  part_out here (Step line) = inl refl
  part_out here (Join line) = inl refl
  part_out here (Acquire line r) = inl refl
  part_out here (Release line r) = inl refl
  part_out here (Wait line r cs) = inl refl
  part_out here (Try line r a b) = arms_out (passes_all a) (passes_all b) (first_exit_all (raise here r) a) (first_exit_all here b) (parts_out (raise here r) a) (parts_out here b)
  part_out here (Branch line a b) = arms_out (passes_all a) (passes_all b) (first_exit_all here a) (first_exit_all here b) (parts_out here a) (parts_out here b)
  part_out here (Loop line body) = inl refl
  part_out here (Inner line f body) = inl refl
  part_out here (Leave line) = inr (here, refl)

  parts_out : (here : List ℕ) (xs : Parts) → (passes_all xs ≡ true) ⊎ ((c : List ℕ) × (first_exit_all here xs ≡ Some c))
  parts_out here Nil = inl refl
  parts_out here (Cons x xs) = in_turn (passes x) (passes_all xs) (first_exit here x) (first_exit_all (after here x) xs) (part_out here x) (parts_out (after here x) xs)

module _ (m : ℕ) (nothing : List ℕ) (src : ℕ → Row) (held : ℕ → List ℕ) (u : ℕ) where
  abbrev Kept : ℕ → Type 0
  Kept i = IsKept m nothing src held i

  abbrev ExitsTo : ℕ → Option (List ℕ) → Type 0
  ExitsTo back exit = (c : List ℕ) → exit ≡ Some c → held back ≡ c

  abbrev Walks : Option Refusal → Bool → ℕ → List ℕ → ℕ → Option (List ℕ) → Type 0
  Walks ref pass q behind_it back exit = (ref ≡ None) × (pass ≡ true → held q ≡ behind_it) × ExitsTo back exit

  to_first : (i q line : ℕ) (kind : Kind) (does : EdgeOp) (ws : List Way) → src i ≡ row u line kind (way does q ∷ ws) → Kept i → (held q ≡ acted does (held i)) × IsAllowed m does (held i)
  to_first i q line kind does ws is k =
      let has : HasWay src i (way does q) = (0, ap (λ r. slice_get r.ways 0) is) in
      (k.account (way does q) has, k.allowed (way does q) has)

  to_second : (i q line : ℕ) (kind : Kind) (does : EdgeOp) (w : Way) → src i ≡ row u line kind (w ∷ way does q ∷ []) → Kept i → held q ≡ acted does (held i)
  to_second i q line kind does w is k = k.account (way does q) (1, ap (λ r. slice_get r.ways 1) is)

  out_none : (back : ℕ) (exit : Option (List ℕ)) → ExitsTo back exit → ExitsTo back (option_or exit None)
  out_none back exit out c e = out c (sym (or_none exit) ∙ e)

  woken_walks : (line r : ℕ) (cs : List ℕ) (p q : ℕ) (more : List Row) (now : List ℕ) → From src p (woken_rows u line r cs p q more) → ((i : ℕ) → p ≤ i → i < suc (takes_end cs p) → Kept i) → held p ≡ now →
      (held q ≡ raise (raise_each now cs) r) × ((cm : List (List ℕ)) → HasCounts held (suc (takes_end cs p)) cm → HasCounts held p (counts_woken now cs cm))
  woken_walks line r [] p q more now f kept at =
      let k = to_first p q line Waking (op.Reacquire r) [] f.0 (kept p (omega arith) (omega arith)) in
      (k.0 ∙ ap (λ c. raise c r) at, (λ cm h. (at, h)))
  woken_walks line r (c ∷ cs) p q more now f kept at =
      let grow = takes_grow cs (suc p) in
      let k = to_first p (suc p) line Waking (op.Acquire c) [] f.0 (kept p (omega arith) (omega (arith, grow))) in
      let rest = woken_walks line r cs (suc p) q more (raise now c) f.1 (λ i past lt. kept i (omega (arith, past)) lt) (k.0 ∙ ap (λ z. raise z c) at) in
      (rest.0, (λ cm h. (at, rest.1 cm h)))

  exit_same : (back line : ℕ) (exit : Option (List ℕ)) (here : List ℕ) → ExitsTo back exit → held back ≡ here → (refuse (differs_from exit here) HeldDiffers line ≡ None) × ExitsTo back (option_or exit (Some here))
  exit_same back line None here out at = (refl, (λ c e. let e' : Some here ≡ Some c = e in let same : here ≡ c = grind arith in at ∙ same))
  exit_same back line (Some d) here out at = (refuse_none _ HeldDiffers line (no_difference d here (sym (out d refl) ∙ at)), out)

  unwrapped : (q : ℕ) (e : Option (List ℕ)) (d : List ℕ) → ExitsTo q e → (e ≡ None → held q ≡ d) → held q ≡ unwrap_or e d
  unwrapped q None d out none = none refl
  unwrapped q (Some c) d out none = out c refl

  and_first : (b : Bool) → b && true ≡ true → b ≡ true
  and_first true e = refl
  and_first false e = e

  and_second : (a b : Bool) → a && b ≡ true → b ≡ true
  and_second true b e = e
  and_second false b e = absurd (cc e)

  -- where nothing stands behind a part
  finish : (x : Part) (xs : Parts) (p q back : ℕ) (starts : Bool) (exit : Option (List ℕ)) (here : List ℕ) → xs ≡ Nil →
      Walks (refused m nothing starts exit here x) (passes x) (head xs (end x p) q) (after here x) back (option_or exit (first_exit here x)) × ((cm : List (List ℕ)) → HasCounts held (end x p) cm → HasCounts held p (counts here x cm)) →
      Walks (refused_all m nothing starts exit here (Cons x xs)) (passes_all (Cons x xs)) q (after_all here (Cons x xs)) back (option_or exit (first_exit_all here (Cons x xs)))
      × ((cm : List (List ℕ)) → HasCounts held (end_all (Cons x xs) p) cm → HasCounts held p (counts_all here (Cons x xs) cm))
  finish x Nil p q back starts exit here nil w = (
    (
      none_both _ _ w.0.0 refl,
      (λ ok. w.0.1 (and_first (passes x) ok)),
      (λ c e. w.0.2 c (ap (λ z. option_or exit z) (sym (or_none (first_exit here x))) ∙ e)),
    ),
    w.1,
  )
  finish x (Cons y ys) p q back starts exit here nil w = absurd (cc nil)

  mutual
    part_walks : (x : Part) (p q back : ℕ) (more : List Row) (starts : Bool) (exit : Option (List ℕ)) (here : List ℕ) → From src p (rows u x p q back more) → IsLive x →
        ((i : ℕ) → p ≤ i → i < end x p → Kept i) → held p ≡ here → ExitsTo back exit → (starts ≡ true → held back ≡ nothing) →
        Walks (refused m nothing starts exit here x) (passes x) q (after here x) back (option_or exit (first_exit here x)) × ((cm : List (List ℕ)) → HasCounts held (end x p) cm → HasCounts held p (counts here x cm))
    part_walks (Step line) p q back more starts exit here f live kept at out st =
        let k = to_first p q line Act op.Plain [] f.0 (kept p (omega arith) (omega arith)) in
        ((refl, (λ ok. k.0 ∙ at), out_none back exit out), (λ cm h. (at, h)))
    part_walks (Join line) p q back more starts exit here f live kept at out st =
        let kp = kept p (omega arith) (omega arith) in
        let k = to_first p q line Joining op.Plain [] f.0 kp in
        let none = kp.joins (ap (λ r. r.kind) f.0) in
        ((refuse_none _ HeldAtJoin line (no_difference here nothing (sym at ∙ none)), (λ ok. k.0 ∙ at), out_none back exit out), (λ cm h. (at, h)))
    part_walks (Acquire line r) p q back more starts exit here f live kept at out st =
        let k = to_first p q line Act (op.Acquire r) [] f.0 (kept p (omega arith) (omega arith)) in
        ((refuse_none _ Relock line (free_off m r here (λ lt. ap (λ c. slice_index c r) (sym at) ∙ k.1 lt)), (λ ok. k.0 ∙ ap (λ c. raise c r) at), out_none back exit out), (λ cm h. (at, h)))
    part_walks (Release line r) p q back more starts exit here f live kept at out st =
        let k = to_first p q line Act (op.Release r) [] f.0 (kept p (omega arith) (omega arith)) in
        ((refuse_none _ NotHeld line (held_off r here (subst (λ c. 0 < slice_index c r) at k.1)), (λ ok. k.0 ∙ ap (λ c. lower c r) at), out_none back exit out), (λ cm h. (at, h)))
    part_walks (Wait line r cs) p q back more starts exit here f live kept at out st =
        let grow = takes_grow cs (suc (suc p)) in
        let k = to_first p (suc p) line Act (op.Release r) [] f.0 (kept p (omega arith) (omega (arith, grow))) in
        let asleep = k.0 ∙ ap (λ c. lower c r) at in
        let s = to_first (suc p) (suc (suc p)) line Sleeping op.Plain [] f.1.0 (kept (suc p) (omega arith) (omega (arith, grow))) in
        let woken = woken_walks line r cs (suc (suc p)) q more (lower here r) f.1.1 (λ i past lt. kept i (omega (arith, past)) lt) (s.0 ∙ asleep) in
        ((refuse_none _ WaitNotHeld line (held_off r here (subst (λ c. 0 < slice_index c r) at k.1)), (λ ok. woken.0), out_none back exit out), (λ cm h. (at, (asleep, woken.1 cm h))))
    part_walks (Try line r a b) p q back more starts exit here f live kept at out st =
        let up = raise here r in
        let pb = end_all a (suc p) in
        let ga = grows_all a (suc p) in
        let gb = grows_all b pb in
        let kp = kept p (omega arith) (omega (arith, ga, gb)) in
        let k = to_first p (head a (suc p) q) line Trying (op.Try r) (way op.Plain (head b pb q) ∷ []) f.0 kp in
        let l = to_second p (head b pb q) line Trying op.Plain (way (op.Try r) (head a (suc p) q)) f.0 kp in
        let fb = behind_all src u a (suc p) q back (rows_all u b pb q back more) f.1 in
        let wa = parts_walk a (suc p) q back (rows_all u b pb q back more) starts exit up f.1 live.0 (λ i past lt. kept i (omega (arith, past)) (omega (arith, lt, gb))) (k.0 ∙ ap (λ c. raise c r) at) out st in
        let wb = parts_walk b pb q back more starts (option_or exit (first_exit_all up a)) here fb live.1 (λ i past lt. kept i (omega (arith, past, ga)) lt) (l ∙ at) wa.0.2 st in
        let met = arms_met (passes_all a) (passes_all b) (after_all up a) (after_all here b) (held q) wa.0.1 wb.0.1 in (
          (
            none_both _ _ (refuse_none _ Relock line (free_off m r here (λ lt. ap (λ c. slice_index c r) (sym at) ∙ k.1 lt)))
                (none_both _ _ wa.0.0 (none_both _ _ wb.0.0 (refuse_none _ HeldDiffers line met.0))),
            met.1,
            (λ c e. wb.0.2 c (or_assoc exit (first_exit_all up a) (first_exit_all here b) ∙ e)),
          ),
          (λ cm h. (at, wa.1 (counts_all here b cm) (wb.1 cm h))),
        )
    part_walks (Branch line a b) p q back more starts exit here f live kept at out st =
        let pb = end_all a (suc p) in
        let ga = grows_all a (suc p) in
        let gb = grows_all b pb in
        let kp = kept p (omega arith) (omega (arith, ga, gb)) in
        let k = to_first p (head a (suc p) q) line Test op.Plain (way op.Plain (head b pb q) ∷ []) f.0 kp in
        let l = to_second p (head b pb q) line Test op.Plain (way op.Plain (head a (suc p) q)) f.0 kp in
        let fb = behind_all src u a (suc p) q back (rows_all u b pb q back more) f.1 in
        let wa = parts_walk a (suc p) q back (rows_all u b pb q back more) starts exit here f.1 live.0 (λ i past lt. kept i (omega (arith, past)) (omega (arith, lt, gb))) (k.0 ∙ at) out st in
        let wb = parts_walk b pb q back more starts (option_or exit (first_exit_all here a)) here fb live.1 (λ i past lt. kept i (omega (arith, past, ga)) lt) (l ∙ at) wa.0.2 st in
        let met = arms_met (passes_all a) (passes_all b) (after_all here a) (after_all here b) (held q) wa.0.1 wb.0.1 in (
          (
            none_both _ _ wa.0.0 (none_both _ _ wb.0.0 (refuse_none _ HeldDiffers line met.0)),
            met.1,
            (λ c e. wb.0.2 c (or_assoc exit (first_exit_all here a) (first_exit_all here b) ∙ e)),
          ),
          (λ cm h. (at, wa.1 (counts_all here b cm) (wb.1 cm h))),
        )
    part_walks (Loop line body) p q back more starts exit here f live kept at out st =
        let g = grows_all body (suc p) in
        let kp = kept p (omega arith) (omega (arith, g)) in
        let k = to_first p (head body (suc p) p) line Test op.Plain (way op.Plain q ∷ []) f.0 kp in
        let l = to_second p q line Test op.Plain (way op.Plain (head body (suc p) p)) f.0 kp in
        let w = parts_walk body (suc p) p back more starts exit here f.1 live (λ i past lt. kept i (omega (arith, past)) lt) (k.0 ∙ at) out st in
        let same = guarded (passes_all body) (differ (after_all here body) here) (λ t. no_difference (after_all here body) here (sym (w.0.1 t) ∙ at)) in
        ((none_both _ _ w.0.0 (refuse_none _ HeldDiffers line same), (λ ok. l ∙ at), w.0.2), (λ cm h. (at, w.1 cm h)))
    part_walks (Inner line g body) p q back more starts exit here f live kept at out st =
        let gr = grows_all body (suc p) in
        let k = to_first p (head body (suc p) q) line Act op.Plain [] f.0 (kept p (omega arith) (omega (arith, gr))) in
        let w = parts_walk body (suc p) q q more false None here f.1 live (λ i past lt. kept i (omega (arith, past)) lt) (k.0 ∙ at) (λ c e. absurd (cc e)) (λ t. absurd (cc t)) in
        let to = unwrapped q (first_exit_all here body) (after_all here body) w.0.2
        (λ none. ⊎_elim (λ t. w.0.1 t) (λ s. let no_way : None ≡ Some s.0 = sym none ∙ s.1 in absurd (cc no_way)) (parts_out here body)) in
        ((w.0.0, (λ ok. to), out_none back exit out), (λ cm h. (at, w.1 cm h)))
    part_walks (Leave line) p q back more starts exit here f live kept at out st =
        let k = to_first p back line Act op.Plain [] f.0 (kept p (omega arith) (omega arith)) in
        let to = k.0 ∙ at in
        let same = exit_same back line exit here out to in
        let over = guarded starts (differ here nothing) (λ t. no_difference here nothing (sym to ∙ st t)) in
        ((none_both _ _ same.0 (refuse_none _ HeldAtEnd line over), (λ ok. absurd (cc ok)), same.1), (λ cm h. (at, h)))

    pub parts_walk : (xs : Parts) (p q back : ℕ) (more : List Row) (starts : Bool) (exit : Option (List ℕ)) (here : List ℕ) → From src p (rows_all u xs p q back more) → AllLive xs →
        ((i : ℕ) → p ≤ i → i < end_all xs p → Kept i) → held (head xs p q) ≡ here → ExitsTo back exit → (starts ≡ true → held back ≡ nothing) →
        Walks (refused_all m nothing starts exit here xs) (passes_all xs) q (after_all here xs) back (option_or exit (first_exit_all here xs)) × ((cm : List (List ℕ)) → HasCounts held (end_all xs p) cm → HasCounts held p (counts_all here xs cm))
    parts_walk Nil p q back more starts exit here f live kept at out st = ((refl, (λ ok. at), out_none back exit out), (λ cm h. h))
    parts_walk (Cons x xs) p q back more starts exit here f live kept at out st =
        let p2 = end x p in
        let n = head xs p2 q in
        let g = grows_all xs p2 in
        let gx = grows x p in
        let fr = behind src u x p n back (rows_all u xs p2 q back more) f in
        let w = part_walks x p n back (rows_all u xs p2 q back more) starts exit here f live.0 (λ i past lt. kept i past (omega (arith, lt, g))) at out st in
        ⊎_elim
        (λ ok_x.
        let v = parts_walk xs p2 q back more starts (option_or exit (first_exit here x)) (after here x) fr live.1 (λ i past lt. kept i (omega (arith, past, gx)) lt) (w.0.1 ok_x) w.0.2 st in (
          (
            none_both _ _ w.0.0 v.0.0,
            (λ ok. v.0.1 (and_second (passes x) (passes_all xs) ok)),
            (λ c e. v.0.2 c (or_assoc exit (first_exit here x) (first_exit_all (after here x) xs) ∙ e)),
          ),
          (λ cm h. w.1 (counts_all (after here x) xs cm) (v.1 cm h)),
        ))
        (λ nil. finish x xs p q back starts exit here nil w)
        live.2
