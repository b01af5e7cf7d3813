-- No more tokens of a resource are held than there are points before.
use Rattle.std.proofs.Common.{◌≡◌, ℕ, zero, suc, ◌+◌, ◌-◌, ◌<◌, ◌≤◌, Bool, true, false, List, [], ◌∷◌, Some, None, Option, refl, sym, ap, ⊎_elim, arith}
use Rattle.std.specs.Prelude.{slice_index, if◌then◌else◌, unwrap_or}
use Rattle.std.specs.Option.{option_or}
use Rattle.std.proofs.lemmas.Bool.{cases_lt, cases_eq}
use Rattle.outlines.specs.Outline.{Part, Parts, Step, Join, Acquire, Release, Wait, Try, Branch, Loop, Inner, Leave, Nil, Cons, Thread, passes_all, live_all}
use Rattle.outlines.specs.Points.{end, end_all, takes_end, thread_end, all_rows}
use Rattle.outline_laws.proofs.Out.{grows_all}
use Rattle.outline_laws.proofs.Numbers.{ends, ends_length, ends_thread}
use Rattle.held_counts.specs.Counts.{raise, lower, raise_each, after, after_all, first_exit, first_exit_all, counts, counts_all, counts_woken, thread_counts, all_counts}
use Rattle.held_counts.specs.Held.{HasCounts}
use Rattle.held_counts.specs.Growth.{PartsAddFew, ExitsAddFew, PointsHoldFew}
use Rattle.held_counts.proofs.Small.{set_cases}
use Rattle.held_counts.proofs.Kept.{behind_counts, behind_all_counts}

one_more : (here : List ℕ) (q r : ℕ) → slice_index (raise here q) r ≤ slice_index here r + 1
one_more here q r = ⊎_elim
    (λ e. omega (arith, e))
    (λ e. let same : slice_index here q ≡ slice_index here r = ap (λ x. slice_index here x) (sym e.0) in omega (arith, e.1, same))
    (set_cases here q r (slice_index here q + 1))

no_more : (here : List ℕ) (q r : ℕ) → slice_index (lower here q) r ≤ slice_index here r
no_more here q r = ⊎_elim
    (λ e. omega (arith, e))
    (λ e. let same : slice_index here q ≡ slice_index here r = ap (λ x. slice_index here x) (sym e.0) in omega (arith, e.1, same))
    (set_cases here q r (slice_index here q - 1))

each_more : (here cs : List ℕ) (p r : ℕ) → slice_index (raise_each here cs) r + p ≤ slice_index here r + takes_end cs p
each_more here [] p r = omega arith
each_more here (c ∷ cs) p r = omega (arith, each_more (raise here c) cs (suc p) r, one_more here c r)

either_few : (b : Bool) (x y : List ℕ) (r p top : ℕ) → slice_index x r + p ≤ top → slice_index y r + p ≤ top → slice_index (if b then x else y) r + p ≤ top
either_few true x y r p top one two = one
either_few false x y r p top one two = two

abbrev ExitFew : Option (List ℕ) → ℕ → ℕ → ℕ → Type 0
ExitFew e r p top = (c : List ℕ) → e ≡ Some c → slice_index c r + p ≤ top

or_few : (e f : Option (List ℕ)) (r p top : ℕ) → ExitFew e r p top → ExitFew f r p top → ExitFew (option_or e f) r p top
or_few None f r p top one two c is = two c is
or_few (Some x) f r p top one two c is = one c is

unwrap_few : (e : Option (List ℕ)) (d : List ℕ) (r p top : ℕ) → ExitFew e r p top → slice_index d r + p ≤ top → slice_index (unwrap_or e d) r + p ≤ top
unwrap_few None d r p top one two = two
unwrap_few (Some c) d r p top one two = one c refl

abbrev Few : List ℕ → Option (List ℕ) → List ℕ → ℕ → ℕ → ℕ → Type 0
Few behind_it exit here r p e = (slice_index behind_it r + p ≤ slice_index here r + e) × ExitFew exit r p (slice_index here r + e)

mutual
  part_few : (here : List ℕ) (x : Part) (p r : ℕ) → Few (after here x) (first_exit here x) here r p (end x p)
  part_few here (Step line) p r = (omega arith, (λ c is. absurd (cc is)))
  part_few here (Join line) p r = (omega arith, (λ c is. absurd (cc is)))
  part_few here (Acquire line q) p r = (omega (arith, one_more here q r), (λ c is. absurd (cc is)))
  part_few here (Release line q) p r = (omega (arith, no_more here q r), (λ c is. absurd (cc is)))
  part_few here (Wait line q cs) p r =
      (omega (arith, no_more here q r, each_more (lower here q) cs (suc (suc p)) r, one_more (raise_each (lower here q) cs) q r), (λ c is. absurd (cc is)))
  part_few here (Try line q a b) p r =
      let up = raise here q in
      let pb = end_all a (suc p) in
      let one = one_more here q r in
      let ga = grows_all a (suc p) in
      let gb = grows_all b pb in
      let fa = parts_few up a (suc p) r in
      let fb = parts_few here b pb r in (
        either_few (passes_all a) (after_all up a) (after_all here b) r p (slice_index here r + end_all b pb) (omega (arith, fa.0, one, gb)) (omega (arith, fb.0, ga)),
        or_few (first_exit_all up a) (first_exit_all here b) r p (slice_index here r + end_all b pb) (λ c is. omega (arith, fa.1 c is, one, gb)) (λ c is. omega (arith, fb.1 c is, ga)),
      )
  part_few here (Branch line a b) p r =
      let pb = end_all a (suc p) in
      let ga = grows_all a (suc p) in
      let gb = grows_all b pb in
      let fa = parts_few here a (suc p) r in
      let fb = parts_few here b pb r in (
        either_few (passes_all a) (after_all here a) (after_all here b) r p (slice_index here r + end_all b pb) (omega (arith, fa.0, gb)) (omega (arith, fb.0, ga)),
        or_few (first_exit_all here a) (first_exit_all here b) r p (slice_index here r + end_all b pb) (λ c is. omega (arith, fa.1 c is, gb)) (λ c is. omega (arith, fb.1 c is, ga)),
      )
  part_few here (Loop line body) p r = (omega (arith, grows_all body (suc p)), (λ c is. omega (arith, (parts_few here body (suc p) r).1 c is)))
  part_few here (Inner line f body) p r =
      let fb = parts_few here body (suc p) r in
      (unwrap_few (first_exit_all here body) (after_all here body) r p (slice_index here r + end_all body (suc p)) (λ c is. omega (arith, fb.1 c is)) (omega (arith, fb.0)), (λ c is. absurd (cc is)))
  part_few here (Leave line) p r = (omega arith, (λ c is. let is' : Some here ≡ Some c = is in let same : here ≡ c = grind arith in omega (arith, ap (λ z. slice_index z r) same)))

  parts_few : (here : List ℕ) (xs : Parts) (p r : ℕ) → Few (after_all here xs) (first_exit_all here xs) here r p (end_all xs p)
  parts_few here Nil p r = (omega arith, (λ c is. absurd (cc is)))
  parts_few here (Cons x xs) p r =
      let one = part_few here x p r in
      let rest = parts_few (after here x) xs (end x p) r in
      let g = grows_all xs (end x p) in (
        omega (arith, one.0, rest.0),
        or_few (first_exit here x) (first_exit_all (after here x) xs) r p (slice_index here r + end_all xs (end x p)) (λ c is. omega (arith, one.1 c is, g)) (λ c is. omega (arith, rest.1 c is, one.0)),
      )

pub parts_add_few : PartsAddFew
parts_add_few here xs p r = (parts_few here xs p r).0

pub exits_add_few : ExitsAddFew
exits_add_few here xs p r c is = (parts_few here xs p r).1 c is

module _ (held : ℕ → List ℕ) (r : ℕ) where
  abbrev At : List ℕ → ℕ → ℕ → Type 0
  At here p i = slice_index (held i) r + p ≤ slice_index here r + i

  at_point : (here : List ℕ) (p i : ℕ) → held p ≡ here → i ≡ p → At here p i
  at_point here p i is e = omega (arith, e, ap (λ x. slice_index (held x) r) e, ap (λ c. slice_index c r) is)

  here_or : (here : List ℕ) (p i : ℕ) → held p ≡ here → p ≤ i → (suc p ≤ i → At here p i) → At here p i
  here_or here p i is past later = ⊎_elim (λ e. at_point here p i is e) (λ ne. later (omega (arith, past, ne))) (cases_eq i p)

  woken_at : (now cs : List ℕ) (p : ℕ) (cm : List (List ℕ)) → HasCounts held p (counts_woken now cs cm) → (i : ℕ) → p ≤ i → i < suc (takes_end cs p) → At now p i
  woken_at now [] p cm h i past lt = at_point now p i h.0 (omega (arith, past, lt))
  woken_at now (c ∷ cs) p cm h i past lt = here_or now p i h.0 past (λ later. omega (arith, woken_at (raise now c) cs (suc p) cm h.1 i later lt, one_more now c r))

  mutual
    part_at : (here : List ℕ) (x : Part) (p : ℕ) (cm : List (List ℕ)) → HasCounts held p (counts here x cm) → (i : ℕ) → p ≤ i → i < end x p → At here p i
    part_at here (Step line) p cm h i past lt = at_point here p i h.0 (omega (arith, past, lt))
    part_at here (Join line) p cm h i past lt = at_point here p i h.0 (omega (arith, past, lt))
    part_at here (Acquire line q) p cm h i past lt = at_point here p i h.0 (omega (arith, past, lt))
    part_at here (Release line q) p cm h i past lt = at_point here p i h.0 (omega (arith, past, lt))
    part_at here (Wait line q cs) p cm h i past lt =
        here_or here p i h.0 past
        (λ behind_p. ⊎_elim
        (λ e. let at = at_point (lower here q) (suc p) i h.1.0 e in omega (arith, at, no_more here q r))
        (λ ne. let at = woken_at (lower here q) cs (suc (suc p)) cm h.1.1 i (omega (arith, behind_p, ne)) lt in omega (arith, at, no_more here q r))
        (cases_eq i (suc p)))
    part_at here (Try line q a b) p cm h i past lt =
        let up = raise here q in
        let pb = end_all a (suc p) in
        let ga = grows_all a (suc p) in
        let hb = behind_all_counts held up a (suc p) (counts_all here b cm) h.1 in
        here_or here p i h.0 past
        (λ behind_p. ⊎_elim
        (λ in_a. let at = parts_at up a (suc p) (counts_all here b cm) h.1 i behind_p in_a in omega (arith, at, one_more here q r))
        (λ over. let at = parts_at here b pb cm hb i over lt in omega (arith, at, ga))
        (cases_lt i pb))
    part_at here (Branch line a b) p cm h i past lt =
        let pb = end_all a (suc p) in
        let ga = grows_all a (suc p) in
        let hb = behind_all_counts held here a (suc p) (counts_all here b cm) h.1 in
        here_or here p i h.0 past
        (λ behind_p. ⊎_elim
        (λ in_a. let at = parts_at here a (suc p) (counts_all here b cm) h.1 i behind_p in_a in omega (arith, at))
        (λ over. let at = parts_at here b pb cm hb i over lt in omega (arith, at, ga))
        (cases_lt i pb))
    part_at here (Loop line body) p cm h i past lt =
        here_or here p i h.0 past (λ behind_p. let at = parts_at here body (suc p) cm h.1 i behind_p lt in omega (arith, at))
    part_at here (Inner line f body) p cm h i past lt =
        here_or here p i h.0 past (λ behind_p. let at = parts_at here body (suc p) cm h.1 i behind_p lt in omega (arith, at))
    part_at here (Leave line) p cm h i past lt = at_point here p i h.0 (omega (arith, past, lt))

    parts_at : (here : List ℕ) (xs : Parts) (p : ℕ) (cm : List (List ℕ)) → HasCounts held p (counts_all here xs cm) → (i : ℕ) → p ≤ i → i < end_all xs p → At here p i
    parts_at here Nil p cm h i past lt = absurd (omega (arith, past, lt))
    parts_at here (Cons x xs) p cm h i past lt =
        ⊎_elim
        (λ in_x. part_at here x p (counts_all (after here x) xs cm) h i past in_x)
        (λ over.
        let at = parts_at (after here x) xs (end x p) cm (behind_counts held here x p (counts_all (after here x) xs cm) h) i over lt in
        omega (arith, at, (part_few here x p r).0))
        (cases_lt i (end x p))

  thread_at : (nothing : List ℕ) (t : ℕ) (th : Thread) (p : ℕ) (cm : List (List ℕ)) → HasCounts held p (thread_counts nothing t th cm) →
      ((i : ℕ) → p ≤ i → i < thread_end t th p → slice_index (held i) r ≤ slice_index nothing r + i) × HasCounts held (thread_end t th p) cm
  thread_at nothing zero th p cm h =
      let xs = live_all th.body in
      let e = end_all xs p in
      let he = behind_all_counts held nothing xs p (nothing ∷ cm) h in (
        (λ i past lt. ⊎_elim
            (λ in_body. let at = parts_at nothing xs p (nothing ∷ cm) h i past in_body in omega (arith, at, past))
            (λ over. let at = at_point nothing e i he.0 (omega (arith, over, lt)) in omega (arith, at, over))
            (cases_lt i e)),
        he.1,
      )
  thread_at nothing (suc t) th p cm h =
      let xs = live_all th.body in
      let e = end_all xs (suc p) in
      let he = behind_all_counts held nothing xs (suc p) (nothing ∷ cm) h.1 in (
        (λ i past lt. ⊎_elim
            (λ first. let at = at_point nothing p i h.0 first in omega (arith, at, past))
            (λ ne. ⊎_elim
            (λ in_body. let at = parts_at nothing xs (suc p) (nothing ∷ cm) h.1 i (omega (arith, past, ne)) in_body in omega (arith, at, past))
            (λ over. let at = at_point nothing e i he.0 (omega (arith, over, lt)) in omega (arith, at, over))
            (cases_lt i e))
            (cases_eq i p)),
        he.1,
      )

  all_at : (nothing : List ℕ) (t : ℕ) (ths : List Thread) (p : ℕ) → HasCounts held p (all_counts nothing t ths) → (i : ℕ) → p ≤ i → i < ends (all_rows t ths p) p → slice_index (held i) r ≤ slice_index nothing r + i
  all_at nothing t [] p h i past lt = absurd (omega (arith, past, lt))
  all_at nothing t (th ∷ ths) p h i past lt =
      let e = thread_end t th p in
      let tops = ends_thread t th p (all_rows (suc t) ths e) in
      let one = thread_at nothing t th p (all_counts nothing (suc t) ths) h in
      ⊎_elim (λ mine. one.0 i past mine) (λ over. all_at nothing (suc t) ths e one.1 i over (omega (arith, lt, tops))) (cases_lt i e)

pub points_hold_few : PointsHoldFew
points_hold_few nothing ths held h i r lt = all_at held r nothing 0 ths 0 h i (omega arith) (omega (arith, lt, ends_length (all_rows 0 ths 0) 0))
