-- The walk over all threads.
use Rattle.std.proofs.Common.{◌≡◌, ℕ, zero, suc, ◌<◌, ◌≤◌, Bool, true, false, List, [], ◌∷◌, Some, None, inr, refl, sym, ap, ◌∙◌, subst, ⊎_elim, arith}
use Rattle.std.specs.Prelude.{slice_get, if◌then◌else◌}
use Rattle.std.proofs.lemmas.Bool.{cases_lt, cases_eq}
use Rattle.edges.specs.declared.EdgeOp.TheVariants as op
use Rattle.outlines.specs.Outline.{Part, Parts, Step, Join, Acquire, Release, Wait, Try, Branch, Loop, Inner, Leave, Nil, Cons, Thread, passes, passes_all, live, live_all}
use Rattle.outlines.specs.Whole.{IsWhole, IsWholeAll, ThreadsAreWhole}
use Rattle.outlines.specs.Rows.{Act, Row, way, row, From}
use Rattle.outlines.specs.Points.{rows_all, end_all, thread_rows, thread_end, all_rows}
use Rattle.outline_laws.specs.Leading.{first_point}
use Rattle.outline_laws.proofs.Lead.{behind_all}
use Rattle.outline_laws.proofs.Out.{grows_all}
use Rattle.outline_laws.proofs.Live.{AllLive, all_live, passes_live_all}
use Rattle.outline_laws.proofs.Move.{head_is_first, behind_thread}
use Rattle.outline_laws.proofs.Shape.{one_of}
use Rattle.outline_laws.proofs.Numbers.{ends, ends_length, ends_thread, thread_grows}
use Rattle.held_counts.specs.Counts.{counts_all, thread_counts, all_counts}
use Rattle.held_counts.specs.Refusals.{refused_all, refused_threads}
use Rattle.held_counts.specs.Held.{acted, IsAllowed, IsKept, HasCounts, WalksKeepAccounts, AccountsAreWalked}
use Rattle.held_counts.proofs.Small.{none_left, none_right, none_both}
use Rattle.held_counts.proofs.Kept.{Once, behind_all_counts, head_count, parts_kept}
use Rattle.held_counts.proofs.Walked.{parts_walk}

abbrev kept : Bool → Parts → Parts
kept b xs = if b then live_all xs else Nil

mutual
  whole_live : (m : ℕ) (x : Part) → IsWhole m x → IsWhole m (live x)
  whole_live m (Step line) w = w
  whole_live m (Join line) w = w
  whole_live m (Acquire line r) w = w
  whole_live m (Release line r) w = w
  whole_live m (Wait line r cs) w = w
  whole_live m (Try line r a b) w = (whole_live_all m a w.0, whole_live_all m b w.1)
  whole_live m (Branch line a b) w = (whole_live_all m a w.0, whole_live_all m b w.1)
  whole_live m (Loop line body) w = whole_live_all m body w
  whole_live m (Inner line f body) w = (passes_live_all body ∙ w.0, whole_live_all m body w.1)
  whole_live m (Leave line) w = w

  whole_live_all : (m : ℕ) (xs : Parts) → IsWholeAll m xs → IsWholeAll m (live_all xs)
  whole_live_all m Nil w = tt
  whole_live_all m (Cons x xs) w = (whole_live m x w.0, rest (passes x) (whole_live_all m xs w.1))
    where
      rest : (b : Bool) → IsWholeAll m (live_all xs) → IsWholeAll m (kept b xs)
      rest true z = z
      rest false z = tt

module _ (m : ℕ) (nothing : List ℕ) (src : ℕ → Row) (held : ℕ → List ℕ) where
  abbrev Kept : ℕ → Type 0
  Kept i = IsKept m nothing src held i

  never : (xs : Parts) (q : ℕ) (at : List ℕ) → passes_all xs ≡ false → passes_all xs ≡ true → held q ≡ at
  never xs q at off on = let no_way : true ≡ false = sym on ∙ off in absurd (cc no_way)

  over : (i u line : ℕ) → src i ≡ row u line Act [] → held i ≡ nothing → Kept i
  over i u line is at = record {
    account = λ w has. let none : slice_get [] has.0 ≡ Some w = ap (λ r. slice_get r.ways has.0) (sym is) ∙ has.1 in absurd (cc none);
    allowed = λ w has. let none : slice_get [] has.0 ≡ Some w = ap (λ r. slice_get r.ways has.0) (sym is) ∙ has.1 in absurd (cc none);
    joins = λ k. at;
    ends = λ k. at;
  }

  -- a body and the point where its thread has ended
  body_kept : (u line : ℕ) (xs : Parts) (p : ℕ) (more : List Row) (cm : List (List ℕ)) → From src p (rows_all u xs p (end_all xs p) (end_all xs p) (row u line Act [] ∷ more)) →
      HasCounts held p (counts_all nothing xs (nothing ∷ cm)) → AllLive xs → IsWholeAll m xs → passes_all xs ≡ false → Once m nothing → refused_all m nothing true None nothing xs ≡ None →
      ((i : ℕ) → p ≤ i → i < suc (end_all xs p) → Kept i) × (held p ≡ nothing)
  body_kept u line xs p more cm f h lives whole off once ref =
      let e = end_all xs p in
      let fe = behind_all src u xs p e e (row u line Act [] ∷ more) f in
      let he = behind_all_counts held nothing xs p (nothing ∷ cm) h in
      let first = head_count held nothing xs p e (nothing ∷ cm) h (never xs e _ off) in (
        (λ i past lt. ⊎_elim
            (λ in_body. parts_kept m nothing src held u xs p e e (row u line Act [] ∷ more) (nothing ∷ cm) true None nothing f h (never xs e _ off) (inr (refl, he.0)) lives whole ref once i past in_body)
            (λ far. let at_end : i ≡ e = omega (arith, far, lt) in subst (λ x. Kept x) (sym at_end) (over e u line fe.0 he.0))
            (cases_lt i e)),
        subst (λ x. held x ≡ nothing) (head_is_first xs p) first,
      )

  thread_kept : (t : ℕ) (th : Thread) (p : ℕ) (more : List Row) (cm : List (List ℕ)) → From src p (thread_rows t th p more) → HasCounts held p (thread_counts nothing t th cm) →
      passes_all th.body ≡ false → IsWholeAll m th.body → Once m nothing → refused_all m nothing true None nothing (live_all th.body) ≡ None →
      ((i : ℕ) → p ≤ i → i < thread_end t th p → Kept i) × (held p ≡ nothing) × HasCounts held (thread_end t th p) cm
  thread_kept zero th p more cm f h off whole once ref =
      let xs = live_all th.body in
      let r = body_kept 0 th.end_line xs p more cm f h (all_live th.body) (whole_live_all m th.body whole) (passes_live_all th.body ∙ off) once ref in
      (r.0, r.1, (behind_all_counts held nothing xs p (nothing ∷ cm) h).1)
  thread_kept (suc t) th p more cm f h off whole once ref =
      let xs = live_all th.body in
      let r = body_kept (suc t) th.end_line xs (suc p) more cm f.1 h.1 (all_live th.body) (whole_live_all m th.body whole) (passes_live_all th.body ∙ off) once ref in
      let begun : Kept p = record {
        account = λ w has. let is' : slice_get (way op.Plain (suc p) ∷ []) has.0 ≡ Some w = ap (λ r. slice_get r.ways has.0) (sym f.0) ∙ has.1 in
            subst (λ x. held x.to ≡ acted x.op (held p)) (one_of (way op.Plain (suc p)) w has.0 is') (r.1 ∙ sym h.0);
        allowed = λ w has. let is' : slice_get (way op.Plain (suc p) ∷ []) has.0 ≡ Some w = ap (λ r. slice_get r.ways has.0) (sym f.0) ∙ has.1 in
            subst (λ x. IsAllowed m x.op (held p)) (one_of (way op.Plain (suc p)) w has.0 is') tt;
        joins = λ k. h.0;
        ends = λ k. h.0;
      } in (
        (λ i past lt. ⊎_elim (λ same. subst (λ x. Kept x) (sym same) begun) (λ ne. r.0 i (omega (arith, past, ne)) lt) (cases_eq i p)),
        h.0,
        (behind_all_counts held nothing xs (suc p) (nothing ∷ cm) h.1).1,
      )

  all_kept : (t : ℕ) (ths : List Thread) (p : ℕ) → From src p (all_rows t ths p) → HasCounts held p (all_counts nothing t ths) → ThreadsAreWhole m ths → Once m nothing → refused_threads m nothing ths ≡ None →
      ((i : ℕ) → p ≤ i → i < ends (all_rows t ths p) p → Kept i) × ((u : ℕ) (th : Thread) → slice_get ths u ≡ Some th → held (first_point t ths p u) ≡ nothing)
  all_kept t [] p f h whole once ref = ((λ i past lt. absurd (omega (arith, past, lt))), (λ u th is. absurd (cc is)))
  all_kept t (x ∷ ths) p f h whole once ref =
      let e = thread_end t x p in
      let tops = ends_thread t x p (all_rows (suc t) ths e) in
      let r = thread_kept t x p (all_rows (suc t) ths e) (all_counts nothing (suc t) ths) f h whole.0 whole.1 once (none_left _ _ ref) in
      let rest = all_kept (suc t) ths e (behind_thread src t x p (all_rows (suc t) ths e) f) r.2 whole.2 once (none_right _ _ ref) in (
        (λ i past lt. ⊎_elim (λ mine. r.0 i past mine) (λ far. rest.0 i far (omega (arith, lt, tops))) (cases_lt i e)),
        begins t x ths p r.1 rest.1,
      )
    where
      begins : (t : ℕ) (x : Thread) (ths : List Thread) (p : ℕ) → held p ≡ nothing → ((u : ℕ) (th : Thread) → slice_get ths u ≡ Some th → held (first_point (suc t) ths (thread_end t x p) u) ≡ nothing) →
          (u : ℕ) (th : Thread) → slice_get (x ∷ ths) u ≡ Some th → held (first_point t (x ∷ ths) p u) ≡ nothing
      begins t x ths p at go zero th is = at
      begins t x ths p at go (suc u) th is = go u th is

  thread_walks : (t : ℕ) (th : Thread) (p : ℕ) (more : List Row) → From src p (thread_rows t th p more) → ((i : ℕ) → p ≤ i → i < thread_end t th p → Kept i) → held p ≡ nothing →
      (refused_all m nothing true None nothing (live_all th.body) ≡ None) × ((cm : List (List ℕ)) → HasCounts held (thread_end t th p) cm → HasCounts held p (thread_counts nothing t th cm))
  thread_walks zero th p more f kept_at at =
      let xs = live_all th.body in
      let e = end_all xs p in
      let g = grows_all xs p in
      let fe = behind_all src 0 xs p e e (row 0 th.end_line Act [] ∷ more) f in
      let done = (kept_at e (omega (arith, g)) (omega arith)).ends (ap (λ r. r.ways) fe.0) in
      let w = parts_walk m nothing src held 0 xs p e e (row 0 th.end_line Act [] ∷ more) true None nothing f (all_live th.body) (λ i past lt. kept_at i past (omega (arith, lt)))
      (subst (λ x. held x ≡ nothing) (sym (head_is_first xs p)) at) (λ c none. absurd (cc none)) (λ t. done) in
      (w.0.0, (λ cm h. w.1 (nothing ∷ cm) (done, h)))
  thread_walks (suc t) th p more f kept_at at =
      let xs = live_all th.body in
      let e = end_all xs (suc p) in
      let g = grows_all xs (suc p) in
      let fe = behind_all src (suc t) xs (suc p) e e (row (suc t) th.end_line Act [] ∷ more) f.1 in
      let done = (kept_at e (omega (arith, g)) (omega arith)).ends (ap (λ r. r.ways) fe.0) in
      let begun = (kept_at p (omega arith) (omega (arith, g))).account (way op.Plain (suc p)) (0, ap (λ r. slice_get r.ways 0) f.0) ∙ at in
      let w = parts_walk m nothing src held (suc t) xs (suc p) e e (row (suc t) th.end_line Act [] ∷ more) true None nothing f.1 (all_live th.body) (λ i past lt. kept_at i (omega (arith, past)) (omega (arith, lt)))
      (subst (λ x. held x ≡ nothing) (sym (head_is_first xs (suc p))) begun) (λ c none. absurd (cc none)) (λ t. done) in
      (w.0.0, (λ cm h. (at, w.1 (nothing ∷ cm) (done, h))))

  all_walk : (t : ℕ) (ths : List Thread) (p : ℕ) → From src p (all_rows t ths p) → ((i : ℕ) → p ≤ i → i < ends (all_rows t ths p) p → Kept i) →
      ((u : ℕ) (th : Thread) → slice_get ths u ≡ Some th → held (first_point t ths p u) ≡ nothing) → (refused_threads m nothing ths ≡ None) × HasCounts held p (all_counts nothing t ths)
  all_walk t [] p f kept_at begins = (refl, tt)
  all_walk t (x ∷ ths) p f kept_at begins =
      let e = thread_end t x p in
      let tops = ends_thread t x p (all_rows (suc t) ths e) in
      let far = ends_length (all_rows (suc t) ths e) e in
      let g = thread_grows t x p in
      let w = thread_walks t x p (all_rows (suc t) ths e) f (λ i past lt. kept_at i past (omega (arith, lt, tops, far))) (begins 0 x refl) in
      let rest = all_walk (suc t) ths e (behind_thread src t x p (all_rows (suc t) ths e) f) (λ i past lt. kept_at i (omega (arith, past, g)) (omega (arith, lt, tops))) (λ u th is. begins (suc u) th is) in
      (none_both _ _ w.0 rest.0, w.1 (all_counts nothing (suc t) ths) rest.1)

pub walks_keep : WalksKeepAccounts
walks_keep m nothing ths src held f h whole none ref =
    let all = ends_length (all_rows 0 ths 0) 0 in
    let r = all_kept m nothing src held 0 ths 0 f h whole (λ s lt. omega (arith, none s lt)) ref in
    ((λ i lt. r.0 i (omega arith) (omega (arith, lt, all))), r.1)

pub accounts_walked : AccountsAreWalked
accounts_walked m nothing ths src held f kept_at begins =
    let all = ends_length (all_rows 0 ths 0) 0 in
    all_walk m nothing src held 0 ths 0 f (λ i past lt. kept_at i (omega (arith, lt, all))) begins
