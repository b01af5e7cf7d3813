-- Where the walk refuses nothing, its counts are the accounts of the ways.
use Rattle.std.proofs.Common.{◌≡◌, ℕ, suc, ◌+◌, ◌-◌, ◌<◌, ◌≤◌, Bool, true, false, ◌&&◌, List, [], ◌∷◌, Some, None, Option, ◌⊎◌, inl, inr, refl, sym, ap, ◌∙◌, subst, ⊎_elim, arith}
use Rattle.std.specs.Prelude.{slice_index, slice_get, if◌then◌else◌, unwrap_or}
use Rattle.std.specs.Option.{option_or}
use Rattle.std.proofs.lemmas.Bool.{cases_lt, cases_eq}
use Rattle.edges.specs.declared.EdgeOp.{EdgeOp}
use Rattle.edges.specs.declared.EdgeOp.TheVariants as op
use Rattle.outlines.specs.Outline.{Part, Parts, Step, Join, Acquire, Release, Wait, Try, Branch, Loop, Inner, Leave, Nil, Cons, passes, passes_all}
use Rattle.outlines.specs.Whole.{AllFrom, IsWhole, IsWholeAll}
use Rattle.outlines.specs.Rows.{Kind, Act, Test, Sleeping, Waking, Joining, Trying, Row, way, row, From}
use Rattle.outlines.specs.Points.{rows, rows_all, end, end_all, head, takes_end, woken_rows}
use Rattle.outline_laws.proofs.Lead.{behind, behind_all}
use Rattle.outline_laws.proofs.Shape.{one_of, one_of_two}
use Rattle.outline_laws.proofs.Live.{IsLive, AllLive}
use Rattle.held_counts.specs.declared.HeldKind.TheVariants.{Relock, NotHeld, HeldDiffers, HeldAtEnd, HeldAtJoin, WaitNotHeld}
use Rattle.held_counts.specs.Counts.{raise, lower, raise_each, after, after_all, first_exit, first_exit_all, counts, counts_all, counts_woken}
use Rattle.held_counts.specs.Refusals.{differ, differs_from, refused, refused_all}
use Rattle.held_counts.specs.Held.{acted, IsAllowed, IsKept, HasCounts}
use Rattle.held_counts.proofs.Small.{none_left, none_right, or_assoc, or_more, unrefused, same_counts, and_both, and_rest, arms_meet, set_cases, set_here, free_of, held_of}

module _ (m : ℕ) where
  -- each mutex is held at most once
  abbrev pub Once : List ℕ → Type 0
  Once here = (r : ℕ) → r < m → slice_index here r ≤ 1

  abbrev ExitsOnce : Option (List ℕ) → Type 0
  ExitsOnce e = (c : List ℕ) → e ≡ Some c → Once c

  pub once_raise : (here : List ℕ) (r : ℕ) → Once here → (r < m → slice_index here r ≡ 0) → Once (raise here r)
  once_raise here r once free s lt = ⊎_elim
      (λ same. omega (arith, same, once s lt))
      (λ at. let none = free (subst (λ x. x < m) at.0 lt) in omega (arith, at.1, none))
      (set_cases here r s (slice_index here r + 1))

  pub once_lower : (here : List ℕ) (r : ℕ) → Once here → Once (lower here r)
  once_lower here r once s lt = ⊎_elim
      (λ same. omega (arith, same, once s lt))
      (λ at. let few = once r (subst (λ x. x < m) at.0 lt) in omega (arith, at.1, few))
      (set_cases here r s (slice_index here r - 1))

  once_each : (here cs : List ℕ) → AllFrom m cs → Once here → Once (raise_each here cs)
  once_each here [] from once = once
  once_each here (c ∷ cs) from once = once_each (raise here c) cs from.1 (once_raise here c once (λ lt. absurd (omega (arith, lt, from.0))))

  -- a monitor that is taken doesn't change what is held of a mutex
  pub other_raised : (here : List ℕ) (c r : ℕ) → m ≤ c → r < m → slice_index (raise here c) r ≡ slice_index here r
  other_raised here c r from lt = ⊎_elim (λ same. same) (λ at. absurd (omega (arith, at.0, from, lt))) (set_cases here c r (slice_index here c + 1))

  others_raised : (here cs : List ℕ) (r : ℕ) → AllFrom m cs → r < m → slice_index (raise_each here cs) r ≡ slice_index here r
  others_raised here [] r from lt = refl
  others_raised here (c ∷ cs) r from lt = others_raised (raise here c) cs r from.1 lt ∙ other_raised here c r from.0 lt

  pub lowered : (here : List ℕ) (r : ℕ) → Once here → r < m → slice_index (lower here r) r ≡ 0
  lowered here r once lt = ⊎_elim (λ e. omega (arith, e, once r lt)) (λ e. e) (set_here here r (slice_index here r - 1))

  once_if : (b : Bool) (x y : List ℕ) → Once x → Once y → Once (if b then x else y)
  once_if true x y one two = one
  once_if false x y one two = two

  once_or : (a b : Option (List ℕ)) → ExitsOnce a → ExitsOnce b → ExitsOnce (option_or a b)
  once_or None b one two c e = two c e
  once_or (Some x) b one two c e = one c e

  once_unwrapped : (e : Option (List ℕ)) (d : List ℕ) → ExitsOnce e → Once d → Once (unwrap_or e d)
  once_unwrapped None d one two = two
  once_unwrapped (Some c) d one two = one c refl

  module _ (nothing : List ℕ) where
    mutual
      once_part : (starts : Bool) (exit : Option (List ℕ)) (here : List ℕ) (x : Part) → IsWhole m x → refused m nothing starts exit here x ≡ None → Once here → Once (after here x) × ExitsOnce (first_exit here x)
      once_part starts exit here (Step line) whole ref once = (once, (λ c e. absurd (cc e)))
      once_part starts exit here (Join line) whole ref once = (once, (λ c e. absurd (cc e)))
      once_part starts exit here (Acquire line r) whole ref once = (once_raise here r once (free_of m r here (unrefused _ Relock line ref)), (λ c e. absurd (cc e)))
      once_part starts exit here (Release line r) whole ref once = (once_lower here r once, (λ c e. absurd (cc e)))
      once_part starts exit here (Wait line r cs) whole ref once =
          (once_raise (raise_each (lower here r) cs) r (once_each (lower here r) cs whole (once_lower here r once)) (λ lt. others_raised (lower here r) cs r whole lt ∙ lowered here r once lt), (λ c e. absurd (cc e)))
      once_part starts exit here (Try line r a b) whole ref once =
          let up = once_raise here r once (free_of m r here (unrefused _ Relock line (none_left _ _ ref))) in
          let arms = none_right _ _ ref in
          let pa = once_parts starts exit (raise here r) a whole.0 (none_left _ _ arms) up in
          let pb = once_parts starts (option_or exit (first_exit_all (raise here r) a)) here b whole.1 (none_left _ _ (none_right _ _ arms)) once in
          (once_if (passes_all a) (after_all (raise here r) a) (after_all here b) pa.0 pb.0, once_or (first_exit_all (raise here r) a) (first_exit_all here b) pa.1 pb.1)
      once_part starts exit here (Branch line a b) whole ref once =
          let pa = once_parts starts exit here a whole.0 (none_left _ _ ref) once in
          let pb = once_parts starts (option_or exit (first_exit_all here a)) here b whole.1 (none_left _ _ (none_right _ _ ref)) once in
          (once_if (passes_all a) (after_all here a) (after_all here b) pa.0 pb.0, once_or (first_exit_all here a) (first_exit_all here b) pa.1 pb.1)
      once_part starts exit here (Loop line body) whole ref once = (once, (once_parts starts exit here body whole (none_left _ _ ref) once).1)
      once_part starts exit here (Inner line f body) whole ref once =
          let r = once_parts false None here body whole.1 ref once in
          (once_unwrapped (first_exit_all here body) (after_all here body) r.1 r.0, (λ c e. absurd (cc e)))
      once_part starts exit here (Leave line) whole ref once = (once, (λ c e. let e' : Some here ≡ Some c = e in let same : here ≡ c = grind arith in subst (λ x. Once x) same once))

      once_parts : (starts : Bool) (exit : Option (List ℕ)) (here : List ℕ) (xs : Parts) → IsWholeAll m xs → refused_all m nothing starts exit here xs ≡ None → Once here → Once (after_all here xs) × ExitsOnce (first_exit_all here xs)
      once_parts starts exit here Nil whole ref once = (once, (λ c e. absurd (cc e)))
      once_parts starts exit here (Cons x xs) whole ref once =
          let one = once_part starts exit here x whole.0 (none_left _ _ ref) once in
          let rest = once_parts starts (option_or exit (first_exit here x)) (after here x) xs whole.1 (none_right _ _ ref) one.0 in
          (rest.0, once_or (first_exit here x) (first_exit_all (after here x) xs) one.1 rest.1)

module _ (held : ℕ → List ℕ) where
  pub behind_woken_counts : (here cs : List ℕ) (p : ℕ) (more : List (List ℕ)) → HasCounts held p (counts_woken here cs more) → HasCounts held (suc (takes_end cs p)) more
  behind_woken_counts here [] p more h = h.1
  behind_woken_counts here (c ∷ cs) p more h = behind_woken_counts (raise here c) cs (suc p) more h.1

  abbrev mutual
    pub behind_counts : (here : List ℕ) (x : Part) (p : ℕ) (more : List (List ℕ)) → HasCounts held p (counts here x more) → HasCounts held (end x p) more
    behind_counts here (Step line) p more h = h.1
    behind_counts here (Join line) p more h = h.1
    behind_counts here (Acquire line r) p more h = h.1
    behind_counts here (Release line r) p more h = h.1
    behind_counts here (Wait line r cs) p more h = behind_woken_counts (lower here r) cs (suc (suc p)) more h.1.1
    behind_counts here (Try line r a b) p more h = behind_all_counts here b (end_all a (suc p)) more (behind_all_counts (raise here r) a (suc p) (counts_all here b more) h.1)
    behind_counts here (Branch line a b) p more h = behind_all_counts here b (end_all a (suc p)) more (behind_all_counts here a (suc p) (counts_all here b more) h.1)
    behind_counts here (Loop line body) p more h = behind_all_counts here body (suc p) more h.1
    behind_counts here (Inner line f body) p more h = behind_all_counts here body (suc p) more h.1
    behind_counts here (Leave line) p more h = h.1

    pub behind_all_counts : (here : List ℕ) (xs : Parts) (p : ℕ) (more : List (List ℕ)) → HasCounts held p (counts_all here xs more) → HasCounts held (end_all xs p) more
    behind_all_counts here Nil p more h = h
    behind_all_counts here (Cons x xs) p more h =
        behind_all_counts (after here x) xs (end x p) more (behind_counts here x p (counts_all (after here x) xs more) h)

  first_woken : (here cs : List ℕ) (p : ℕ) (more : List (List ℕ)) → HasCounts held p (counts_woken here cs more) → held p ≡ here
  first_woken here [] p more h = h.0
  first_woken here (c ∷ cs) p more h = h.0

  first_count : (here : List ℕ) (x : Part) (p : ℕ) (more : List (List ℕ)) → HasCounts held p (counts here x more) → held p ≡ here
  first_count here (Step line) p more h = h.0
  first_count here (Join line) p more h = h.0
  first_count here (Acquire line r) p more h = h.0
  first_count here (Release line r) p more h = h.0
  first_count here (Wait line r cs) p more h = h.0
  first_count here (Try line r a b) p more h = h.0
  first_count here (Branch line a b) p more h = h.0
  first_count here (Loop line body) p more h = h.0
  first_count here (Inner line f body) p more h = h.0
  first_count here (Leave line) p more h = h.0

  pub head_count : (here : List ℕ) (xs : Parts) (p q : ℕ) (more : List (List ℕ)) → HasCounts held p (counts_all here xs more) → (passes_all xs ≡ true → held q ≡ after_all here xs) → held (head xs p q) ≡ here
  head_count here Nil p q more h to = to refl
  head_count here (Cons x xs) p q more h to = first_count here x p (counts_all (after here x) xs more) h

module _ (m : ℕ) (nothing : List ℕ) (src : ℕ → Row) (held : ℕ → List ℕ) (u : ℕ) where
  abbrev Kept : ℕ → Type 0
  Kept i = IsKept m nothing src held i

  -- what was held at the first exit is held where exits lead; those of a start function lead to where its thread has ended
  abbrev ExitsTo : Bool → ℕ → Option (List ℕ) → Type 0
  ExitsTo starts back exit = ((c : List ℕ) → exit ≡ Some c → held back ≡ c) ⊎ ((starts ≡ true) × (held back ≡ nothing))

  narrowed : (starts : Bool) (back : ℕ) (e f : Option (List ℕ)) → ((c : List ℕ) → f ≡ Some c → e ≡ Some c) → ExitsTo starts back e → ExitsTo starts back f
  narrowed starts back e f go to = ⊎_elim (λ all. inl (λ c is. all c (go c is))) (λ over. inr over) to

  one_way : (i q line : ℕ) (kind : Kind) (does : EdgeOp) → src i ≡ row u line kind (way does q ∷ []) → held q ≡ acted does (held i) → IsAllowed m does (held i) → (kind ≡ Joining → held i ≡ nothing) → Kept i
  one_way i q line kind does is to may joins = record {
    account = λ w has. subst (λ x. held x.to ≡ acted x.op (held i)) (one_of (way does q) w has.0 (ap (λ r. slice_get r.ways has.0) (sym is) ∙ has.1)) to;
    allowed = λ w has. subst (λ x. IsAllowed m x.op (held i)) (one_of (way does q) w has.0 (ap (λ r. slice_get r.ways has.0) (sym is) ∙ has.1)) may;
    joins = λ k. joins (ap (λ r. r.kind) (sym is) ∙ k);
    ends = λ none. let no_way : way does q ∷ [] ≡ [] = ap (λ r. r.ways) (sym is) ∙ none in absurd (cc no_way);
  }

  two_ways : (i q z line : ℕ) (kind : Kind) (does : EdgeOp) → src i ≡ row u line kind (way does q ∷ way op.Plain z ∷ []) → held q ≡ acted does (held i) → IsAllowed m does (held i) → held z ≡ held i → (kind ≡ Joining → held i ≡ nothing) → Kept i
  two_ways i q z line kind does is to may other joins = record {
    account = λ w has. ⊎_elim
        (λ e. subst (λ x. held x.to ≡ acted x.op (held i)) e to)
        (λ e. subst (λ x. held x.to ≡ acted x.op (held i)) e other)
        (one_of_two (way does q) (way op.Plain z) w has.0 (ap (λ r. slice_get r.ways has.0) (sym is) ∙ has.1));
    allowed = λ w has. ⊎_elim
        (λ e. subst (λ x. IsAllowed m x.op (held i)) e may)
        (λ e. subst (λ x. IsAllowed m x.op (held i)) e tt)
        (one_of_two (way does q) (way op.Plain z) w has.0 (ap (λ r. slice_get r.ways has.0) (sym is) ∙ has.1));
    joins = λ k. joins (ap (λ r. r.kind) (sym is) ∙ k);
    ends = λ none. let no_way : way does q ∷ way op.Plain z ∷ [] ≡ [] = ap (λ r. r.ways) (sym is) ∙ none in absurd (cc no_way);
  }

  only_here : (i p : ℕ) → p ≤ i → i < suc p → Kept p → Kept i
  only_here i p past lt here = let e : i ≡ p = omega (arith, past, lt) in subst (λ x. Kept x) (sym e) here

  here_or : (i p : ℕ) → p ≤ i → Kept p → (suc p ≤ i → Kept i) → Kept i
  here_or i p past here later = ⊎_elim (λ e. subst (λ x. Kept x) (sym e) here) (λ ne. later (omega (arith, past, ne))) (cases_eq i p)

  woken_kept : (line r : ℕ) (cs : List ℕ) (p q : ℕ) (more : List Row) (cm : List (List ℕ)) (now : List ℕ) → From src p (woken_rows u line r cs p q more) → HasCounts held p (counts_woken now cs cm) →
      held q ≡ raise (raise_each now cs) r → AllFrom m cs → (r < m → slice_index now r ≡ 0) → (i : ℕ) → p ≤ i → i < suc (takes_end cs p) → Kept i
  woken_kept line r [] p q more cm now f h to from free i past lt =
      only_here i p past lt (one_way p q line Waking (op.Reacquire r) f.0 (to ∙ ap (λ c. raise c r) (sym h.0)) (λ below. ap (λ c. slice_index c r) h.0 ∙ free below) (λ k. absurd (cc k)))
  woken_kept line r (c ∷ cs) p q more cm now f h to from free i past lt =
      let next = first_woken held (raise now c) cs (suc p) cm h.1 in
      here_or i p past
      (one_way p (suc p) line Waking (op.Acquire c) f.0 (next ∙ ap (λ z. raise z c) (sym h.0)) (λ below. absurd (omega (arith, below, from.0))) (λ k. absurd (cc k)))
      (λ later. woken_kept line r cs (suc p) q more cm (raise now c) f.1 h.1 to from.1 (λ below. other_raised m now c r from.0 below ∙ free below) i later lt)

  exit_leads : (starts : Bool) (back line : ℕ) (exit : Option (List ℕ)) (here : List ℕ) → ExitsTo starts back (option_or exit (Some here)) → differs_from exit here ≡ false → (starts && differ here nothing) ≡ false → held back ≡ here
  exit_leads starts back line None here to same over =
      ⊎_elim (λ all. all here refl) (λ z. z.1 ∙ sym (same_counts here nothing (and_rest starts (differ here nothing) over z.0))) to
  exit_leads starts back line (Some c) here to same over =
      ⊎_elim (λ all. all c refl ∙ same_counts c here same) (λ z. z.1 ∙ sym (same_counts here nothing (and_rest starts (differ here nothing) over z.0))) to

  mutual
    part_kept : (x : Part) (p q back : ℕ) (more : List Row) (cm : List (List ℕ)) (starts : Bool) (exit : Option (List ℕ)) (here : List ℕ) →
        From src p (rows u x p q back more) → HasCounts held p (counts here x cm) → (passes x ≡ true → held q ≡ after here x) → ExitsTo starts back (option_or exit (first_exit here x)) →
        IsLive x → IsWhole m x → refused m nothing starts exit here x ≡ None → Once m here → (i : ℕ) → p ≤ i → i < end x p → Kept i
    part_kept (Step line) p q back more cm starts exit here f h to out live whole ref once i past lt =
        only_here i p past lt (one_way p q line Act op.Plain f.0 (to refl ∙ sym h.0) tt (λ k. absurd (cc k)))
    part_kept (Join line) p q back more cm starts exit here f h to out live whole ref once i past lt =
        only_here i p past lt (one_way p q line Joining op.Plain f.0 (to refl ∙ sym h.0) tt (λ k. h.0 ∙ same_counts here nothing (unrefused _ HeldAtJoin line ref)))
    part_kept (Acquire line r) p q back more cm starts exit here f h to out live whole ref once i past lt =
        let free = free_of m r here (unrefused _ Relock line ref) in
        only_here i p past lt (one_way p q line Act (op.Acquire r) f.0 (to refl ∙ ap (λ c. raise c r) (sym h.0)) (λ below. ap (λ c. slice_index c r) h.0 ∙ free below) (λ k. absurd (cc k)))
    part_kept (Release line r) p q back more cm starts exit here f h to out live whole ref once i past lt =
        let has = held_of r here (unrefused _ NotHeld line ref) in
        only_here i p past lt (one_way p q line Act (op.Release r) f.0 (to refl ∙ ap (λ c. lower c r) (sym h.0)) (subst (λ c. 0 < slice_index c r) (sym h.0) has) (λ k. absurd (cc k)))
    part_kept (Wait line r cs) p q back more cm starts exit here f h to out live whole ref once i past lt =
        let has = held_of r here (unrefused _ WaitNotHeld line ref) in
        let woken = first_woken held (lower here r) cs (suc (suc p)) cm h.1.1 in
        here_or i p past (one_way p (suc p) line Act (op.Release r) f.0 (h.1.0 ∙ ap (λ c. lower c r) (sym h.0)) (subst (λ c. 0 < slice_index c r) (sym h.0) has) (λ k. absurd (cc k)))
        (λ behind_p. here_or i (suc p) behind_p (one_way (suc p) (suc (suc p)) line Sleeping op.Plain f.1.0 (woken ∙ sym h.1.0) tt (λ k. absurd (cc k)))
        (λ later. woken_kept line r cs (suc (suc p)) q more cm (lower here r) f.1.1 h.1.1 (to refl) whole (λ below. lowered m here r once below) i later lt))
    part_kept (Try line r a b) p q back more cm starts exit here f h to out live whole ref once i past lt =
        let up = raise here r in
        let free = free_of m r here (unrefused _ Relock line (none_left _ _ ref)) in
        let ref_arms = none_right _ _ ref in
        let ref_a = none_left _ _ ref_arms in
        let ref_on = none_right _ _ ref_arms in
        let ref_b = none_left _ _ ref_on in
        let ref_end = none_right _ _ ref_on in
        let meet = arms_meet (passes_all a) (passes_all b) (after_all up a) (after_all here b) (held q) to (unrefused _ HeldDiffers line ref_end) in
        let pb = end_all a (suc p) in
        let fb = behind_all src u a (suc p) q back (rows_all u b pb q back more) f.1 in
        let hb = behind_all_counts held up a (suc p) (counts_all here b cm) h.1 in
        let first = head_count held up a (suc p) q (counts_all here b cm) h.1 meet.0 in
        let other = head_count held here b pb q cm hb meet.1 in
        here_or i p past
        (two_ways p (head a (suc p) q) (head b pb q) line Trying (op.Try r) f.0 (first ∙ ap (λ c. raise c r) (sym h.0)) (λ below. ap (λ c. slice_index c r) h.0 ∙ free below) (other ∙ sym h.0) (λ k. absurd (cc k)))
        (λ behind_p. ⊎_elim
        (λ in_a. parts_kept a (suc p) q back (rows_all u b pb q back more) (counts_all here b cm) starts exit up f.1 h.1 meet.0
        (narrowed starts back _ _ (λ c e. or_more exit (first_exit_all up a) (first_exit_all here b) c e) out) live.0 whole.0 ref_a (once_raise m here r once free) i behind_p in_a)
        (λ over. parts_kept b pb q back more cm starts (option_or exit (first_exit_all up a)) here fb hb meet.1
        (narrowed starts back _ _ (λ c e. sym (or_assoc exit (first_exit_all up a) (first_exit_all here b)) ∙ e) out) live.1 whole.1 ref_b once i over lt)
        (cases_lt i pb))
    part_kept (Branch line a b) p q back more cm starts exit here f h to out live whole ref once i past lt =
        let ref_a = none_left _ _ ref in
        let ref_on = none_right _ _ ref in
        let ref_b = none_left _ _ ref_on in
        let ref_end = none_right _ _ ref_on in
        let meet = arms_meet (passes_all a) (passes_all b) (after_all here a) (after_all here b) (held q) to (unrefused _ HeldDiffers line ref_end) in
        let pb = end_all a (suc p) in
        let fb = behind_all src u a (suc p) q back (rows_all u b pb q back more) f.1 in
        let hb = behind_all_counts held here a (suc p) (counts_all here b cm) h.1 in
        let first = head_count held here a (suc p) q (counts_all here b cm) h.1 meet.0 in
        let other = head_count held here b pb q cm hb meet.1 in
        here_or i p past (two_ways p (head a (suc p) q) (head b pb q) line Test op.Plain f.0 (first ∙ sym h.0) tt (other ∙ sym h.0) (λ k. absurd (cc k)))
        (λ behind_p. ⊎_elim
        (λ in_a. parts_kept a (suc p) q back (rows_all u b pb q back more) (counts_all here b cm) starts exit here f.1 h.1 meet.0
        (narrowed starts back _ _ (λ c e. or_more exit (first_exit_all here a) (first_exit_all here b) c e) out) live.0 whole.0 ref_a once i behind_p in_a)
        (λ over. parts_kept b pb q back more cm starts (option_or exit (first_exit_all here a)) here fb hb meet.1
        (narrowed starts back _ _ (λ c e. sym (or_assoc exit (first_exit_all here a) (first_exit_all here b)) ∙ e) out) live.1 whole.1 ref_b once i over lt)
        (cases_lt i pb))
    part_kept (Loop line body) p q back more cm starts exit here f h to out live whole ref once i past lt =
        let again : passes_all body ≡ true → held p ≡ after_all here body =
        λ t. h.0 ∙ sym (same_counts (after_all here body) here (and_rest (passes_all body) _ (unrefused _ HeldDiffers line (none_right _ _ ref)) t)) in
        let first = head_count held here body (suc p) p cm h.1 again in
        here_or i p past (two_ways p (head body (suc p) p) q line Test op.Plain f.0 (first ∙ sym h.0) tt (to refl ∙ sym h.0) (λ k. absurd (cc k)))
        (λ behind_p. parts_kept body (suc p) p back more cm starts exit here f.1 h.1 again out live whole (none_left _ _ ref) once i behind_p lt)
    part_kept (Inner line g body) p q back more cm starts exit here f h to out live whole ref once i past lt =
        let never : passes_all body ≡ true → held q ≡ after_all here body = λ t. let no_way : true ≡ false = sym t ∙ whole.0 in absurd (cc no_way) in
        let first = head_count held here body (suc p) q cm h.1 never in
        let outs : ExitsTo false q (option_or None (first_exit_all here body)) = inl (λ c e. to refl ∙ ap (λ z. unwrap_or z (after_all here body)) e) in
        here_or i p past (one_way p (head body (suc p) q) line Act op.Plain f.0 (first ∙ sym h.0) tt (λ k. absurd (cc k)))
        (λ behind_p. parts_kept body (suc p) q q more cm false None here f.1 h.1 never outs live whole.1 ref once i behind_p lt)
    part_kept (Leave line) p q back more cm starts exit here f h to out live whole ref once i past lt =
        let leads = exit_leads starts back line exit here out (unrefused _ HeldDiffers line (none_left _ _ ref)) (unrefused _ HeldAtEnd line (none_right _ _ ref)) in
        only_here i p past lt (one_way p back line Act op.Plain f.0 (leads ∙ sym h.0) tt (λ k. absurd (cc k)))

    pub parts_kept : (xs : Parts) (p q back : ℕ) (more : List Row) (cm : List (List ℕ)) (starts : Bool) (exit : Option (List ℕ)) (here : List ℕ) →
        From src p (rows_all u xs p q back more) → HasCounts held p (counts_all here xs cm) → (passes_all xs ≡ true → held q ≡ after_all here xs) → ExitsTo starts back (option_or exit (first_exit_all here xs)) →
        AllLive xs → IsWholeAll m xs → refused_all m nothing starts exit here xs ≡ None → Once m here → (i : ℕ) → p ≤ i → i < end_all xs p → Kept i
    parts_kept Nil p q back more cm starts exit here f h to out live whole ref once i past lt = absurd (omega (arith, past, lt))
    parts_kept (Cons x xs) p q back more cm starts exit here f h to out live whole ref once i past lt =
        let p2 = end x p in
        let n = head xs p2 q in
        let fr = behind src u x p n back (rows_all u xs p2 q back more) f in
        let hr = behind_counts held here x p (counts_all (after here x) xs cm) h in
        let ref_x = none_left _ _ ref in
        ⊎_elim
        (λ in_x. part_kept x p n back (rows_all u xs p2 q back more) (counts_all (after here x) xs cm) starts exit here f h
        (λ ok. head_count held (after here x) xs p2 q cm hr (λ all. to (and_both (passes x) (passes_all xs) ok all)))
        (narrowed starts back _ _ (λ c e. or_more exit (first_exit here x) (first_exit_all (after here x) xs) c e) out) live.0 whole.0 ref_x once i past in_x)
        (λ over. ⊎_elim
        (λ ok. parts_kept xs p2 q back more cm starts (option_or exit (first_exit here x)) (after here x) fr hr (λ all. to (and_both (passes x) (passes_all xs) ok all))
        (narrowed starts back _ _ (λ c e. sym (or_assoc exit (first_exit here x) (first_exit_all (after here x) xs)) ∙ e) out) live.1 whole.1 (none_right _ _ ref)
        (once_part m nothing starts exit here x whole.0 ref_x once).0 i over lt)
        (λ nil. let none : end_all xs p2 ≡ p2 = ap (λ z. end_all z p2) nil in absurd (omega (arith, over, lt, none)))
        live.2)
        (cases_lt i p2)
