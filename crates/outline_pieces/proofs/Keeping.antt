-- What is kept of the pieces of outlines: what is live of them.
use Rattle.std.proofs.Common.{◌≡◌, ℕ, zero, suc, ◌+◌, Bool, true, false, List, [], ◌∷◌, length, refl, sym, ap, ◌∙◌, None, Some, arith}
use Rattle.std.specs.Prelude.{◌&&◌, if◌then◌else◌}
use Rattle.outlines.specs.Outline.{Part, Parts, Step, Join, Acquire, Release, Wait, Try, Branch, Loop, Inner, Leave, Nil, Cons, Thread, passes, passes_all, live, live_all}
use Rattle.outlines.specs.Points.{end, end_all, takes_end, thread_end, all_rows}
use Rattle.outline_laws.proofs.Numbers.{ends, ends_length, ends_thread}
use Rattle.outline_pieces.specs.declared.pieces.Piece.{Piece}
use Rattle.outline_pieces.specs.declared.pieces.Piece.TheVariants as piece
use Rattle.outline_pieces.specs.declared.pieces.Place.{Place}
use Rattle.outline_pieces.specs.declared.pieces.Deed.TheVariants as deed
use Rattle.outline_pieces.specs.declared.course.Open.{Open}
use Rattle.outline_pieces.specs.Pieces.{woken_pieces, pieces, pieces_all, threads_pieces}
use Rattle.outline_pieces.specs.Places.{place, woken_places, places, places_all, threads_places, first_in}
use Rattle.outline_pieces.specs.Courses.{course, start, Run, mapped, run}

-- open where control doesn't reach
abbrev skipped : ℕ → Open
skipped n = record { reached = false; at = n; passed = false }

abbrev reached_at : ℕ → Bool → Open
reached_at n b = record { reached = true; at = n; passed = b }

skip_woken : (line r : ℕ) (cs : List ℕ) (os : List Open) (n t : ℕ) (ps : List Piece) →
    run (course os false n t) (woken_pieces line r cs ps) ≡ run (course os false n t) ps
skip_woken line r [] os n t ps = refl
skip_woken line r (c ∷ cs) os n t ps = skip_woken line r cs os n t ps

-- nothing is kept where control doesn't reach
mutual
  skip : (x : Part) (os : List Open) (n t : ℕ) (ps : List Piece) → run (course os false n t) (pieces x ps) ≡ run (course os false n t) ps
  skip (Step line) os n t ps = refl
  skip (Join line) os n t ps = refl
  skip (Acquire line r) os n t ps = refl
  skip (Release line r) os n t ps = refl
  skip (Wait line r cs) os n t ps = skip_woken line r cs os n t ps
  skip (Try line r a b) os n t ps =
      skip_all a (skipped n ∷ os) n t (piece.Else ∷ pieces_all b (piece.ArmsEnd ∷ ps)) ∙ skip_all b (skipped n ∷ os) n t (piece.ArmsEnd ∷ ps)
  skip (Branch line a b) os n t ps =
      skip_all a (skipped n ∷ os) n t (piece.Else ∷ pieces_all b (piece.ArmsEnd ∷ ps)) ∙ skip_all b (skipped n ∷ os) n t (piece.ArmsEnd ∷ ps)
  skip (Loop line body) os n t ps = skip_all body (skipped n ∷ os) n t (piece.LoopEnd ∷ ps)
  skip (Inner line f body) os n t ps = skip_all body (skipped n ∷ os) n t (piece.InnerEnd ∷ ps)
  skip (Leave line) os n t ps = refl

  skip_all : (xs : Parts) (os : List Open) (n t : ℕ) (ps : List Piece) → run (course os false n t) (pieces_all xs ps) ≡ run (course os false n t) ps
  skip_all Nil os n t ps = refl
  skip_all (Cons x xs) os n t ps = skip x os n t (pieces_all xs ps) ∙ skip_all xs os n t ps

keep_woken : (line r : ℕ) (cs : List ℕ) (os : List Open) (n t : ℕ) (ps : List Piece) →
    run (course os true n t) (woken_pieces line r cs ps) ≡ mapped (woken_places t line r cs n) (run (course os true (suc (takes_end cs n)) t) ps)
keep_woken line r [] os n t ps = refl
keep_woken line r (c ∷ cs) os n t ps = ap (mapped (λ l. place t n (piece.Pass line (deed.Take c)) ∷ l)) (keep_woken line r cs os (suc n) t ps)

-- where control reaches, what is kept is what is live
mutual
  keep : (x : Part) (os : List Open) (n t : ℕ) (ps : List Piece) →
      run (course os true n t) (pieces x ps) ≡ mapped (places t (live x) n) (run (course os (passes x) (end (live x) n) t) ps)
  keep (Step line) os n t ps = refl
  keep (Join line) os n t ps = refl
  keep (Acquire line r) os n t ps = refl
  keep (Release line r) os n t ps = refl
  keep (Wait line r cs) os n t ps =
      ap (mapped (λ l. place t n (piece.Pass line (deed.Wait r)) ∷ place t (suc n) (piece.Pass line deed.Sleep) ∷ l)) (keep_woken line r cs os (suc (suc n)) t ps)
  keep (Try line r a b) os n t ps =
      let i = end_all (live_all a) (suc n) in
      ap (mapped (λ l. place t n (piece.Fork line (Some r)) ∷ l)) (keep_all a (reached_at n false ∷ os) (suc n) t (piece.Else ∷ pieces_all b (piece.ArmsEnd ∷ ps)))
      ∙ ap (mapped (λ l. place t n (piece.Fork line (Some r)) ∷ places_all t (live_all a) (suc n) (place t n piece.Else ∷ l)))
      (keep_all b (reached_at n (passes_all a) ∷ os) i t (piece.ArmsEnd ∷ ps))
  keep (Branch line a b) os n t ps =
      let i = end_all (live_all a) (suc n) in
      ap (mapped (λ l. place t n (piece.Fork line None) ∷ l)) (keep_all a (reached_at n false ∷ os) (suc n) t (piece.Else ∷ pieces_all b (piece.ArmsEnd ∷ ps)))
      ∙ ap (mapped (λ l. place t n (piece.Fork line None) ∷ places_all t (live_all a) (suc n) (place t n piece.Else ∷ l)))
      (keep_all b (reached_at n (passes_all a) ∷ os) i t (piece.ArmsEnd ∷ ps))
  keep (Loop line body) os n t ps =
      ap (mapped (λ l. place t n (piece.Loop line) ∷ l)) (keep_all body (reached_at n true ∷ os) (suc n) t (piece.LoopEnd ∷ ps))
  keep (Inner line f body) os n t ps =
      ap (mapped (λ l. place t n (piece.Inner line) ∷ l)) (keep_all body (reached_at n true ∷ os) (suc n) t (piece.InnerEnd ∷ ps))
  keep (Leave line) os n t ps = refl

  keep_all : (xs : Parts) (os : List Open) (n t : ℕ) (ps : List Piece) →
      run (course os true n t) (pieces_all xs ps) ≡ mapped (places_all t (live_all xs) n) (run (course os (passes_all xs) (end_all (live_all xs) n) t) ps)
  keep_all Nil os n t ps = refl
  keep_all (Cons x xs) os n t ps =
      keep x os n t (pieces_all xs ps)
      ∙ ap (mapped (places t (live x) n)) (rest (passes x) (end (live x) n) (keep_all xs os (end (live x) n) t ps) (skip_all xs os (end (live x) n) t ps))
    where
      rest : (b : Bool) (i : ℕ) →
          run (course os true i t) (pieces_all xs ps) ≡ mapped (places_all t (live_all xs) i) (run (course os (passes_all xs) (end_all (live_all xs) i) t) ps) →
          run (course os false i t) (pieces_all xs ps) ≡ run (course os false i t) ps →
          run (course os b i t) (pieces_all xs ps)
          ≡ mapped (places_all t (if b then live_all xs else Nil) i) (run (course os (b && passes_all xs) (end_all (if b then live_all xs else Nil) i) t) ps)
      rest true i kept skipped = kept
      rest false i kept skipped = skipped

-- what is kept of threads, and how far that leads
abbrev behind : ℕ → List Thread → ℕ → ℕ
behind t [] p = p
behind t (th ∷ ths) p = behind (suc t) ths (suc (end_all (live_all th.body) (first_in t p)))

abbrev all_of : ℕ → List Thread → ℕ
all_of t [] = t
all_of t (th ∷ ths) = all_of (suc t) ths

keep_threads : (ths : List Thread) (os : List Open) (n t : ℕ) →
    run (course os false n t) (threads_pieces ths) ≡ record { kept = threads_places t ths n; last = course os false (behind t ths n) (all_of t ths) }
keep_threads [] os n t = refl
keep_threads (th ∷ ths) os n t =
    let i = first_in t n in
    let e = end_all (live_all th.body) i in
    let first : List Place → List Place = λ l. place t n (piece.Begin th.line) ∷ l in
    ap (mapped first) (keep_all th.body os i t (piece.Finish th.end_line ∷ threads_pieces ths))
    ∙ ap (mapped (λ l. first (places_all t (live_all th.body) i (place t e (piece.Finish th.end_line) ∷ l)))) (keep_threads ths os (suc e) (suc t))

pub keeps : (ths : List Thread) → (run start (threads_pieces ths)).kept ≡ threads_places 0 ths 0
keeps ths = ap (λ (r : Run). r.kept) (keep_threads ths [] 0 0)

all_threads : (ths : List Thread) (t : ℕ) → all_of t ths ≡ t + length ths
all_threads [] t = omega arith
all_threads (th ∷ ths) t = omega (arith, all_threads ths (suc t))

pub ends_in_thread : (ths : List Thread) → (run start (threads_pieces ths)).last.thread ≡ length ths
ends_in_thread ths = ap (λ (r : Run). r.last.thread) (keep_threads ths [] 0 0) ∙ all_threads ths 0 ∙ omega arith

-- the number behind is that of the rows
behind_rows : (t : ℕ) (ths : List Thread) (p : ℕ) → ends (all_rows t ths p) p ≡ behind t ths p
behind_rows t [] p = refl
behind_rows zero (th ∷ ths) p =
    let e = thread_end 0 th p in
    ends_thread 0 th p (all_rows 1 ths e) ∙ behind_rows 1 ths e
behind_rows (suc t) (th ∷ ths) p =
    let e = thread_end (suc t) th p in
    ends_thread (suc t) th p (all_rows (suc (suc t)) ths e) ∙ behind_rows (suc (suc t)) ths e

pub ends_at_points : (ths : List Thread) → (run start (threads_pieces ths)).last.next ≡ length (all_rows 0 ths 0)
ends_at_points ths =
    ap (λ (r : Run). r.last.next) (keep_threads ths [] 0 0) ∙ sym (behind_rows 0 ths 0) ∙ ends_length (all_rows 0 ths 0) 0 ∙ omega arith
