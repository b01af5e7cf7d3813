-- Rows and counts are as many, and points show both.
use Rattle.std.proofs.Common.{◌≡◌, ℕ, zero, suc, ◌+◌, ◌<◌, List, [], ◌∷◌, length, Option, Some, None, replicate, refl, ap, subst, zero-add, ◌∙◌, arith}
use Rattle.std.specs.Prelude.{slice_get, slice_index, ⊤}
use Rattle.edges.specs.declared.Point.{Point}
use Rattle.net_laws.specs.Shown.{thread_at, waiting_at, held_at}
use Rattle.outlines.specs.Outline.{Part, Parts, Step, Join, Acquire, Release, Wait, Try, Branch, Loop, Inner, Leave, Nil, Cons, Thread, live_all}
use Rattle.outlines.specs.Rows.{Row, Act, row, row_at, is_sleeping}
use Rattle.outlines.specs.Points.{woken_rows, end, end_all, head, rows, rows_all, all_rows}
use Rattle.outline_laws.specs.Nets.{IsNetOf}
use Rattle.held_counts.specs.Counts.{raise, lower, after, counts_woken, counts, counts_all, all_counts}
use Rattle.held_counts.specs.Held.{HasCounts}
use Rattle.outline_pieces.specs.Shown.{points_of}
use Rattle.outline_pieces.specs.Nets.{parts_net, held_of, counts_in, FoundNetsAreHeld}

-- as many counts as rows
abbrev Match : List Row → List (List ℕ) → Type 0
Match [] [] = ⊤
Match [] (c ∷ cs) = ⊥
Match (r ∷ rs) [] = ⊥
Match (r ∷ rs) (c ∷ cs) = Match rs cs

match_woken : (t line r p q : ℕ) (here cs : List ℕ) (more : List Row) (cmore : List (List ℕ)) → Match more cmore →
    Match (woken_rows t line r cs p q more) (counts_woken here cs cmore)
match_woken t line r p q here [] more cmore so = so
match_woken t line r p q here (c ∷ cs) more cmore so = match_woken t line r (suc p) q (raise here c) cs more cmore so

mutual
  match : (t : ℕ) (x : Part) (p q back : ℕ) (here : List ℕ) (more : List Row) (cmore : List (List ℕ)) → Match more cmore →
      Match (rows t x p q back more) (counts here x cmore)
  match t (Step line) p q back here more cmore so = so
  match t (Join line) p q back here more cmore so = so
  match t (Acquire line r) p q back here more cmore so = so
  match t (Release line r) p q back here more cmore so = so
  match t (Wait line r cs) p q back here more cmore so = match_woken t line r (suc (suc p)) q (lower here r) cs more cmore so
  match t (Try line r a b) p q back here more cmore so =
      let i = end_all a (suc p) in
      match_all t a (suc p) q back (raise here r) (rows_all t b i q back more) (counts_all here b cmore) (match_all t b i q back here more cmore so)
  match t (Branch line a b) p q back here more cmore so =
      let i = end_all a (suc p) in
      match_all t a (suc p) q back here (rows_all t b i q back more) (counts_all here b cmore) (match_all t b i q back here more cmore so)
  match t (Loop line body) p q back here more cmore so = match_all t body (suc p) p back here more cmore so
  match t (Inner line f body) p q back here more cmore so = match_all t body (suc p) q q here more cmore so
  match t (Leave line) p q back here more cmore so = so

  match_all : (t : ℕ) (xs : Parts) (p q back : ℕ) (here : List ℕ) (more : List Row) (cmore : List (List ℕ)) → Match more cmore →
      Match (rows_all t xs p q back more) (counts_all here xs cmore)
  match_all t Nil p q back here more cmore so = so
  match_all t (Cons x xs) p q back here more cmore so =
      match t x p (head xs (end x p) q) back here (rows_all t xs (end x p) q back more) (counts_all (after here x) xs cmore)
      (match_all t xs (end x p) q back (after here x) more cmore so)

match_threads : (nothing : List ℕ) (t : ℕ) (ths : List Thread) (p : ℕ) → Match (all_rows t ths p) (all_counts nothing t ths)
match_threads nothing t [] p = tt
match_threads nothing zero (th ∷ ths) p =
    let e = end_all (live_all th.body) p in
    match_all 0 (live_all th.body) p e e nothing (row 0 th.end_line Act [] ∷ all_rows 1 ths (suc e)) (nothing ∷ all_counts nothing 1 ths)
    (match_threads nothing 1 ths (suc e))
match_threads nothing (suc t) (th ∷ ths) p =
    let e = end_all (live_all th.body) (suc p) in
    match_all (suc t) (live_all th.body) (suc p) e e nothing (row (suc t) th.end_line Act [] ∷ all_rows (suc (suc t)) ths (suc e))
    (nothing ∷ all_counts nothing (suc (suc t)) ths) (match_threads nothing (suc (suc t)) ths (suc e))

as_many : (rs : List Row) (cs : List (List ℕ)) → Match rs cs → length (points_of rs cs) ≡ length rs
as_many [] [] so = refl
as_many [] (c ∷ cs) never = absurd never
as_many (r ∷ rs) [] never = absurd never
as_many (r ∷ rs) (c ∷ cs) so = ap suc (as_many rs cs so)

threads_at : (rs : List Row) (cs : List (List ℕ)) (p : ℕ) → p < length (points_of rs cs) → thread_at (slice_get (points_of rs cs) p) ≡ (row_at rs p).thread
threads_at [] cs p lt = absurd (omega arith)
threads_at (r ∷ rs) [] p lt = absurd (omega arith)
threads_at (r ∷ rs) (c ∷ cs) zero lt = refl
threads_at (r ∷ rs) (c ∷ cs) (suc p) lt = threads_at rs cs p (omega arith)

waits_at : (rs : List Row) (cs : List (List ℕ)) (p : ℕ) → p < length (points_of rs cs) → waiting_at (slice_get (points_of rs cs) p) ≡ is_sleeping (row_at rs p).kind
waits_at [] cs p lt = absurd (omega arith)
waits_at (r ∷ rs) [] p lt = absurd (omega arith)
waits_at (r ∷ rs) (c ∷ cs) zero lt = refl
waits_at (r ∷ rs) (c ∷ cs) (suc p) lt = waits_at rs cs p (omega arith)

has_counts : (rs : List Row) (cs : List (List ℕ)) → Match rs cs → (held : ℕ → List ℕ) (p : ℕ) →
    ((i : ℕ) → held (p + i) ≡ held_of (slice_get (points_of rs cs) i)) → HasCounts held p cs
has_counts [] [] so held p at = tt
has_counts [] (c ∷ cs) never held p at = absurd never
has_counts (r ∷ rs) [] never held p at = tt
has_counts (r ∷ rs) (c ∷ cs) so held p at =
    let here : p ≡ p + 0 = omega arith in
    (ap held here ∙ at 0, has_counts rs cs so held (suc p) (λ i. let e : suc p + i ≡ p + suc i = omega arith in ap held e ∙ at (suc i)))

held_is : (x : Option Point) (r : ℕ) → held_at x r ≡ slice_index (held_of x) r
held_is None r = refl
held_is (Some p) r = refl

pub found_nets_are_held : FoundNetsAreHeld
found_nets_are_held mutexes tokens ths flow found named whole =
    let nothing = replicate (length tokens) 0 in
    let rs = all_rows 0 ths 0 in
    let cs = all_counts nothing 0 ths in
    let so = match_threads nothing 0 ths 0 in
    let within : (p : ℕ) → p < length flow.points → p < length (points_of rs cs) =
    λ p lt. let P : List Point → Type 0 = λ l. p < length l in subst P found.points lt in
    let n = parts_net mutexes tokens flow in
    let net : IsNetOf n ths = record {
      threads = found.threads;
      points = ap length found.points ∙ as_many rs cs so;
      edges = found.edges;
      thread_of = λ p lt. ap (λ l. thread_at (slice_get l p)) found.points ∙ threads_at rs cs p (within p lt);
      waiting = λ p lt. ap (λ l. waiting_at (slice_get l p)) found.points ∙ waits_at rs cs p (within p lt);
    } in
    record {
      net = net;
      named = named;
      whole = whole;
      accepted = found.accepted;
      counted = has_counts rs cs so (counts_in flow) 0 (λ i. ap (counts_in flow) (zero-add i) ∙ ap (λ l. held_of (slice_get l i)) found.points);
      held = λ p r lt. held_is (slice_get flow.points p) r;
    }
