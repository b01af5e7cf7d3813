-- The walk over the places of outlines: it finds their counts and their first refusal.
use Rattle.std.proofs.Common.{◌≡◌, ℕ, zero, suc, Bool, true, false, List, [], ◌∷◌, refl, sym, ap, subst, ⊎_elim, ◌∙◌, Option, Some, None}
use Rattle.std.specs.Prelude.{◌&&◌, ◌||◌, if◌then◌else◌, nat_lt, unwrap_or}
use Rattle.std.specs.Option.{option_or}
use Rattle.edges.specs.declared.Point.{Point}
use Rattle.outlines.specs.Outline.{Part, Parts, Step, Join, Acquire, Release, Wait, Try, Branch, Loop, Inner, Leave, Nil, Cons, Thread, passes, passes_all, live_all}
use Rattle.outlines.specs.Rows.{Row, Act, row}
use Rattle.outlines.specs.Points.{woken_rows, end, end_all, head, rows, rows_all, thread_rows, thread_end, all_rows}
use Rattle.outline_laws.proofs.Live.{IsLive, AllLive, all_live}
use Rattle.held_counts.specs.Counts.{raise, lower, raise_each, after, after_all, first_exit, first_exit_all, counts_woken, counts, counts_all, thread_counts, all_counts}
use Rattle.held_counts.specs.Refusals.{Refusal, refuse, is_held, differ, refused, refused_all, refused_threads}
use Rattle.held_counts.specs.declared.HeldKind.TheVariants.{Relock, HeldDiffers}
use Rattle.held_counts.proofs.Small.{or_none, or_assoc}
use Rattle.outline_pieces.specs.declared.pieces.Piece.TheVariants as piece
use Rattle.outline_pieces.specs.declared.pieces.Place.{Place}
use Rattle.outline_pieces.specs.declared.walk.Arms.{Arms}
use Rattle.outline_pieces.specs.declared.walk.Looped.{Looped}
use Rattle.outline_pieces.specs.declared.walk.Caller.{Caller}
use Rattle.outline_pieces.specs.declared.walk.Walk.{Walk}
use Rattle.outline_pieces.specs.Places.{woken_places, places, places_all, place, first_in, thread_places, threads_places}
use Rattle.outline_pieces.specs.Walks.{walk, Outcome, Refused, Held, refused_or, mapped, walked, point, begin_point, with_point, arms_of, looped_at, caller}
use Rattle.outline_pieces.specs.Shown.{points_of}

-- first a refusal, and then points before others
abbrev heed : Option Refusal → (List Point → List Point) → Outcome → Outcome
heed r f o = refused_or r (mapped f o)

abbrev same : List Point → List Point
same l = l

heed_none : (o : Outcome) → o ≡ heed None same o
heed_none (Refused r) = refl
heed_none (Held ps) = refl

chained : (r s : Option Refusal) (f g : List Point → List Point) (o : Outcome) → heed r f (heed s g o) ≡ heed (option_or r s) (λ l. f (g l)) o
chained (Some r) s f g o = refl
chained None (Some s) f g o = refl
chained None None f g (Refused r) = refl
chained None None f g (Held ps) = refl

and_true : (b : Bool) → b && true ≡ b
and_true true = refl
and_true false = refl

-- an opening piece, a body, and its end
around : (r s t : Option Refusal) (f g : List Point → List Point) (o : Outcome) →
    heed r f (heed s g (heed t same o)) ≡ heed (option_or r (option_or s t)) (λ l. f (g l)) o
around r s t f g o = ap (heed r f) (chained s t g same o) ∙ chained r (option_or s t) f g o

both_arms : (r s t u : Option Refusal) (f g h : List Point → List Point) (o : Outcome) →
    heed r f (heed s g (heed None same (heed t h (heed u same o)))) ≡ heed (option_or r (option_or s (option_or t u))) (λ l. f (g (h l))) o
both_arms r s t u f g h o =
    ap (λ z. heed r f (heed s g z)) (around None t u same h o) ∙ ap (heed r f) (chained s (option_or t u) g h o) ∙ chained r (option_or s (option_or t u)) f (λ l. g (h l)) o

-- the points of a part with what is held there
abbrev woken_points : ℕ → ℕ → List ℕ → List ℕ → List Point → List Point
woken_points t line here [] more = point t line false here ∷ more
woken_points t line here (c ∷ cs) more = point t line false here ∷ woken_points t line (raise here c) cs more

abbrev mutual
  points : ℕ → List ℕ → Part → List Point → List Point
  points t here (Step line) more = point t line false here ∷ more
  points t here (Join line) more = point t line false here ∷ more
  points t here (Acquire line r) more = point t line false here ∷ more
  points t here (Release line r) more = point t line false here ∷ more
  points t here (Wait line r cs) more = point t line false here ∷ point t line true (lower here r) ∷ woken_points t line (lower here r) cs more
  points t here (Try line r a b) more = point t line false here ∷ points_all t (raise here r) a (points_all t here b more)
  points t here (Branch line a b) more = point t line false here ∷ points_all t here a (points_all t here b more)
  points t here (Loop line body) more = point t line false here ∷ points_all t here body more
  points t here (Inner line f body) more = point t line false here ∷ points_all t here body more
  points t here (Leave line) more = point t line false here ∷ more

  points_all : ℕ → List ℕ → Parts → List Point → List Point
  points_all t here Nil more = more
  points_all t here (Cons x xs) more = points t here x (points_all t (after here x) xs more)

-- these are the points of the rows with the counts
show_woken : (t line r p q : ℕ) (here cs : List ℕ) (more : List Row) (cmore : List (List ℕ)) →
    points_of (woken_rows t line r cs p q more) (counts_woken here cs cmore) ≡ woken_points t line here cs (points_of more cmore)
show_woken t line r p q here [] more cmore = refl
show_woken t line r p q here (c ∷ cs) more cmore = ap (λ l. point t line false here ∷ l) (show_woken t line r (suc p) q (raise here c) cs more cmore)

mutual
  show : (t : ℕ) (x : Part) (p q back : ℕ) (here : List ℕ) (more : List Row) (cmore : List (List ℕ)) →
      points_of (rows t x p q back more) (counts here x cmore) ≡ points t here x (points_of more cmore)
  show t (Step line) p q back here more cmore = refl
  show t (Join line) p q back here more cmore = refl
  show t (Acquire line r) p q back here more cmore = refl
  show t (Release line r) p q back here more cmore = refl
  show t (Wait line r cs) p q back here more cmore =
      ap (λ l. point t line false here ∷ point t line true (lower here r) ∷ l) (show_woken t line r (suc (suc p)) q (lower here r) cs more cmore)
  show t (Try line r a b) p q back here more cmore =
      let i = end_all a (suc p) in
      ap (λ l. point t line false here ∷ l)
      (show_all t a (suc p) q back (raise here r) (rows_all t b i q back more) (counts_all here b cmore)
      ∙ ap (points_all t (raise here r) a) (show_all t b i q back here more cmore))
  show t (Branch line a b) p q back here more cmore =
      let i = end_all a (suc p) in
      ap (λ l. point t line false here ∷ l)
      (show_all t a (suc p) q back here (rows_all t b i q back more) (counts_all here b cmore)
      ∙ ap (points_all t here a) (show_all t b i q back here more cmore))
  show t (Loop line body) p q back here more cmore = ap (λ l. point t line false here ∷ l) (show_all t body (suc p) p back here more cmore)
  show t (Inner line f body) p q back here more cmore = ap (λ l. point t line false here ∷ l) (show_all t body (suc p) q q here more cmore)
  show t (Leave line) p q back here more cmore = refl

  show_all : (t : ℕ) (xs : Parts) (p q back : ℕ) (here : List ℕ) (more : List Row) (cmore : List (List ℕ)) →
      points_of (rows_all t xs p q back more) (counts_all here xs cmore) ≡ points_all t here xs (points_of more cmore)
  show_all t Nil p q back here more cmore = refl
  show_all t (Cons x xs) p q back here more cmore =
      show t x p (head xs (end x p) q) back here (rows_all t xs (end x p) q back more) (counts_all (after here x) xs cmore)
      ∙ ap (points t here x) (show_all t xs (end x p) q back (after here x) more cmore)

module _ (m : ℕ) (nothing : List ℕ) where
  abbrev goes : List ℕ → Bool → Option (List ℕ) → Bool → List Arms → List Looped → List Caller → List Place → Outcome
  goes here reached exit starts arms loops callers ps = walked m nothing (walk here reached exit starts arms loops callers) ps

  hold_woken : (t p line r : ℕ) (here cs : List ℕ) (exit : Option (List ℕ)) (starts : Bool) (arms : List Arms) (loops : List Looped) (callers : List Caller) (ps : List Place) →
      goes here true exit starts arms loops callers (woken_places t line r cs p ps)
      ≡ heed None (woken_points t line here cs) (goes (raise (raise_each here cs) r) true exit starts arms loops callers ps)
  hold_woken t p line r here [] exit starts arms loops callers ps = refl
  hold_woken t p line r here (c ∷ cs) exit starts arms loops callers ps =
      ap (heed None (λ l. point t line false here ∷ l)) (hold_woken t (suc p) line r (raise here c) cs exit starts arms loops callers ps)
      ∙ chained None None (λ l. point t line false here ∷ l) (woken_points t line (raise here c) cs)
      (goes (raise (raise_each (raise here c) cs) r) true exit starts arms loops callers ps)

  -- what a part and the parts behind it come to, where control passes the part or doesn't
  abbrev Behind : Part → Parts → ℕ → ℕ → List ℕ → Option (List ℕ) → Bool → List Arms → List Looped → List Caller → List Place → Bool → Type 0
  Behind x ys t p here exit starts arms loops callers ps b =
      heed (refused m nothing starts exit here x) (points t here x)
      (goes (after here x) b (option_or exit (first_exit here x)) starts arms loops callers (places_all t ys (end x p) ps))
      ≡ heed (option_or (refused m nothing starts exit here x) (refused_all m nothing starts (option_or exit (first_exit here x)) (after here x) ys))
      (λ l. points t here x (points_all t (after here x) ys l))
      (goes (after_all (after here x) ys) (b && passes_all ys) (option_or exit (option_or (first_exit here x) (first_exit_all (after here x) ys)))
      starts arms loops callers ps)

  off : (x : Part) (xs : Parts) (t p : ℕ) (here : List ℕ) (exit : Option (List ℕ)) (starts : Bool) (arms : List Arms) (loops : List Looped)
      (callers : List Caller) (ps : List Place) (b : Bool) → xs ≡ Nil → Behind x xs t p here exit starts arms loops callers ps b
  off x xs t p here exit starts arms loops callers ps b nil =
      let P : Parts → Type 0 = λ ys. Behind x ys t p here exit starts arms loops callers ps b in
      let r = refused m nothing starts exit here x in
      let f = points t here x in
      let behind : Bool → Option (List ℕ) → Outcome = λ z e. goes (after here x) z (option_or exit e) starts arms loops callers ps in
      subst P (sym nil)
      (ap (λ z. heed z f (behind b (first_exit here x))) (sym (or_none r))
      ∙ ap (λ z. heed (option_or r None) f (behind z (first_exit here x))) (sym (and_true b))
      ∙ ap (λ e. heed (option_or r None) f (behind (b && true) e)) (sym (or_none (first_exit here x))))

  on : (x : Part) (xs : Parts) (t p : ℕ) (here : List ℕ) (exit : Option (List ℕ)) (starts : Bool) (arms : List Arms) (loops : List Looped)
      (callers : List Caller) (ps : List Place) (b : Bool) → b ≡ true →
      goes (after here x) true (option_or exit (first_exit here x)) starts arms loops callers (places_all t xs (end x p) ps)
      ≡ heed (refused_all m nothing starts (option_or exit (first_exit here x)) (after here x) xs) (points_all t (after here x) xs)
      (goes (after_all (after here x) xs) (passes_all xs) (option_or (option_or exit (first_exit here x)) (first_exit_all (after here x) xs))
      starts arms loops callers ps) →
      Behind x xs t p here exit starts arms loops callers ps b
  on x xs t p here exit starts arms loops callers ps false never held = absurd (cc never)
  on x xs t p here exit starts arms loops callers ps true always held =
      let r = refused m nothing starts exit here x in
      let s = refused_all m nothing starts (option_or exit (first_exit here x)) (after here x) xs in
      let f = points t here x in
      let g = points_all t (after here x) xs in
      let behind : Option (List ℕ) → Outcome = λ e. goes (after_all (after here x) xs) (passes_all xs) e starts arms loops callers ps in
      let one = first_exit here x in
      let other = first_exit_all (after here x) xs in
      ap (heed r f) held
      ∙ chained r s f g (behind (option_or (option_or exit one) other))
      ∙ ap (λ e. heed (option_or r s) (λ l. f (g l)) (behind e)) (or_assoc exit one other)

  mutual
    hold : (x : Part) → IsLive x → (t p : ℕ) (here : List ℕ) (exit : Option (List ℕ)) (starts : Bool) (arms : List Arms) (loops : List Looped) (callers : List Caller) (ps : List Place) →
        goes here true exit starts arms loops callers (places t x p ps)
        ≡ heed (refused m nothing starts exit here x) (points t here x) (goes (after here x) (passes x) (option_or exit (first_exit here x)) starts arms loops callers ps)
    hold (Step line) live t p here exit starts arms loops callers ps =
        ap (λ e. heed None (λ l. point t line false here ∷ l) (goes here true e starts arms loops callers ps)) (sym (or_none exit))
    hold (Join line) live t p here exit starts arms loops callers ps =
        ap (λ e. heed (refused m nothing starts exit here (Join line)) (λ l. point t line false here ∷ l) (goes here true e starts arms loops callers ps)) (sym (or_none exit))
    hold (Acquire line r) live t p here exit starts arms loops callers ps =
        ap (λ e. heed (refused m nothing starts exit here (Acquire line r)) (λ l. point t line false here ∷ l) (goes (raise here r) true e starts arms loops callers ps))
        (sym (or_none exit))
    hold (Release line r) live t p here exit starts arms loops callers ps =
        ap (λ e. heed (refused m nothing starts exit here (Release line r)) (λ l. point t line false here ∷ l) (goes (lower here r) true e starts arms loops callers ps))
        (sym (or_none exit))
    hold (Wait line r cs) live t p here exit starts arms loops callers ps =
        let free = refused m nothing starts exit here (Wait line r cs) in
        let first : List Point → List Point = λ l. point t line false here ∷ l in
        let asleep : List Point → List Point = λ l. point t line true (lower here r) ∷ l in
        let woken = woken_points t line (lower here r) cs in
        let here' = raise (raise_each (lower here r) cs) r in
        ap (λ z. heed free first (heed None asleep z)) (hold_woken t (suc (suc p)) line r (lower here r) cs exit starts arms loops callers ps)
        ∙ ap (heed free first) (chained None None asleep woken (goes here' true exit starts arms loops callers ps))
        ∙ chained free None first (λ l. asleep (woken l)) (goes here' true exit starts arms loops callers ps)
        ∙ ap (λ z. heed z (points t here (Wait line r cs)) (goes here' true exit starts arms loops callers ps)) (or_none free)
        ∙ ap (λ e. heed free (points t here (Wait line r cs)) (goes here' true e starts arms loops callers ps)) (sym (or_none exit))
    hold (Try line r a b) live t p here exit starts arms loops callers ps =
        let i = end_all a (suc p) in
        let taken : List ℕ = raise here r in
        let one = first_exit_all taken a in
        let other = first_exit_all here b in
        let r0 : Option Refusal = refuse (nat_lt r m && is_held here r) Relock line in
        let ra = refused_all m nothing starts exit taken a in
        let rb = refused_all m nothing starts (option_or exit one) here b in
        let rc = refuse (passes_all a && passes_all b && differ (after_all taken a) (after_all here b)) HeldDiffers line in
        let f : List Point → List Point = λ l. point t line false here ∷ l in
        let g = points_all t taken a in
        let h = points_all t here b in
        let behind : Option (List ℕ) → Outcome = λ e. goes (if passes_all a then after_all taken a else after_all here b) (passes_all a || passes_all b) e starts arms loops callers ps in
        let last = place t p piece.ArmsEnd ∷ ps in
        ap (heed r0 f) (hold_all a live.0 t (suc p) taken exit starts (arms_of line here false ∷ arms) loops callers (place t p piece.Else ∷ places_all t b i last))
        ∙ ap (λ z. heed r0 f (heed ra g (heed None same z)))
        (hold_all b live.1 t i here (option_or exit one) starts (arms_of line (after_all taken a) (passes_all a) ∷ arms) loops callers last)
        ∙ both_arms r0 ra rb rc f g h (behind (option_or (option_or exit one) other))
        ∙ ap (λ e. heed (option_or r0 (option_or ra (option_or rb rc))) (λ l. f (g (h l))) (behind e)) (or_assoc exit one other)
    hold (Branch line a b) live t p here exit starts arms loops callers ps =
        let i = end_all a (suc p) in
        let taken : List ℕ = here in
        let one = first_exit_all taken a in
        let other = first_exit_all here b in
        let r0 : Option Refusal = None in
        let ra = refused_all m nothing starts exit taken a in
        let rb = refused_all m nothing starts (option_or exit one) here b in
        let rc = refuse (passes_all a && passes_all b && differ (after_all taken a) (after_all here b)) HeldDiffers line in
        let f : List Point → List Point = λ l. point t line false here ∷ l in
        let g = points_all t taken a in
        let h = points_all t here b in
        let behind : Option (List ℕ) → Outcome = λ e. goes (if passes_all a then after_all taken a else after_all here b) (passes_all a || passes_all b) e starts arms loops callers ps in
        let last = place t p piece.ArmsEnd ∷ ps in
        ap (heed r0 f) (hold_all a live.0 t (suc p) taken exit starts (arms_of line here false ∷ arms) loops callers (place t p piece.Else ∷ places_all t b i last))
        ∙ ap (λ z. heed r0 f (heed ra g (heed None same z)))
        (hold_all b live.1 t i here (option_or exit one) starts (arms_of line (after_all taken a) (passes_all a) ∷ arms) loops callers last)
        ∙ both_arms r0 ra rb rc f g h (behind (option_or (option_or exit one) other))
        ∙ ap (λ e. heed (option_or r0 (option_or ra (option_or rb rc))) (λ l. f (g (h l))) (behind e)) (or_assoc exit one other)
    hold (Loop line body) live t p here exit starts arms loops callers ps =
        let rb = refused_all m nothing starts exit here body in
        let rc = refuse (passes_all body && differ (after_all here body) here) HeldDiffers line in
        let f : List Point → List Point = λ l. point t line false here ∷ l in
        ap (heed None f) (hold_all body live t (suc p) here exit starts arms (looped_at line here ∷ loops) callers (place t p piece.LoopEnd ∷ ps))
        ∙ around None rb rc f (points_all t here body) (goes here true (option_or exit (first_exit_all here body)) starts arms loops callers ps)
    hold (Inner line c body) live t p here exit starts arms loops callers ps =
        let rb = refused_all m nothing false None here body in
        let f : List Point → List Point = λ l. point t line false here ∷ l in
        let g = points_all t here body in
        let behind : Option (List ℕ) → Outcome = λ e. goes (unwrap_or (first_exit_all here body) (after_all here body)) true e starts arms loops callers ps in
        ap (heed None f) (hold_all body live t (suc p) here None false arms loops (caller exit starts ∷ callers) (place t p piece.InnerEnd ∷ ps))
        ∙ around None rb None f g (behind exit)
        ∙ ap (λ z. heed z (λ l. f (g l)) (behind exit)) (or_none rb)
        ∙ ap (λ e. heed rb (λ l. f (g l)) (behind e)) (sym (or_none exit))
    hold (Leave line) live t p here exit starts arms loops callers ps = refl

    hold_all : (xs : Parts) → AllLive xs → (t p : ℕ) (here : List ℕ) (exit : Option (List ℕ)) (starts : Bool) (arms : List Arms) (loops : List Looped) (callers : List Caller) (ps : List Place) →
        goes here true exit starts arms loops callers (places_all t xs p ps)
        ≡ heed (refused_all m nothing starts exit here xs) (points_all t here xs)
        (goes (after_all here xs) (passes_all xs) (option_or exit (first_exit_all here xs)) starts arms loops callers ps)
    hold_all Nil live t p here exit starts arms loops callers ps =
        heed_none (goes here true exit starts arms loops callers ps)
        ∙ ap (λ e. heed None same (goes here true e starts arms loops callers ps)) (sym (or_none exit))
    hold_all (Cons x xs) live t p here exit starts arms loops callers ps =
        let out = option_or exit (first_exit here x) in
        hold x live.0 t p here exit starts arms loops callers (places_all t xs (end x p) ps)
        ∙ ⊎_elim
        (λ go. on x xs t p here exit starts arms loops callers ps (passes x) go (hold_all xs live.1 t (end x p) (after here x) out starts arms loops callers ps))
        (λ nil. off x xs t p here exit starts arms loops callers ps (passes x) nil)
        live.2

  -- the points of a thread, and the first refusals of threads
  thread_held : (r s : Option Refusal) (f g h : List Point → List Point) (ps : List Point) →
      heed None f (heed r g (heed None h (refused_or s (Held ps)))) ≡ refused_or (option_or r s) (Held (f (g (h ps))))
  thread_held (Some r) s f g h ps = refl
  thread_held None (Some s) f g h ps = refl
  thread_held None None f g h ps = refl

  abbrev thread_points : ℕ → Thread → List Point → List Point
  thread_points t th ps = with_point (begin_point t th.line nothing) (points_all t nothing (live_all th.body) (point t th.end_line false nothing ∷ ps))

  show_thread : (t : ℕ) (th : Thread) (p : ℕ) (more : List Row) (cmore : List (List ℕ)) →
      thread_points t th (points_of more cmore) ≡ points_of (thread_rows t th p more) (thread_counts nothing t th cmore)
  show_thread zero th p more cmore =
      let e = end_all (live_all th.body) p in
      sym (show_all 0 (live_all th.body) p e e nothing (row 0 th.end_line Act [] ∷ more) (nothing ∷ cmore))
  show_thread (suc t) th p more cmore =
      let e = end_all (live_all th.body) (suc p) in
      ap (λ l. point (suc t) th.line false nothing ∷ l)
      (sym (show_all (suc t) (live_all th.body) (suc p) e e nothing (row (suc t) th.end_line Act [] ∷ more) (nothing ∷ cmore)))

  hold_thread : (t : ℕ) (th : Thread) (p : ℕ) (w : Walk) (r : Option Refusal) (rows : List Row) (counts : List (List ℕ)) (ps : List Place) →
      ((v : Walk) → walked m nothing v ps ≡ refused_or r (Held (points_of rows counts))) →
      walked m nothing w (thread_places t th p ps)
      ≡ refused_or (option_or (refused_all m nothing true None nothing (live_all th.body)) r)
      (Held (points_of (thread_rows t th p rows) (thread_counts nothing t th counts)))
  hold_thread t th p w r rows counts ps so =
      let body = live_all th.body in
      let i = first_in t p in
      let rb = refused_all m nothing true None nothing body in
      let last : List Point → List Point = λ l. point t th.end_line false nothing ∷ l in
      let f = with_point (begin_point t th.line nothing) in
      let g = points_all t nothing body in
      ap (heed None f)
      (hold_all body (all_live th.body) t i nothing None true w.arms w.loops w.callers (place t (end_all body i) (piece.Finish th.end_line) ∷ ps)
      ∙ ap (λ z. heed rb g (heed None last z))
      (so (walk (after_all nothing body) (passes_all body) (option_or None (first_exit_all nothing body)) true w.arms w.loops w.callers)))
      ∙ thread_held rb r f g last (points_of rows counts)
      ∙ ap (λ l. refused_or (option_or rb r) (Held l)) (show_thread t th p rows counts)

  pub hold_threads : (t : ℕ) (ths : List Thread) (p : ℕ) (w : Walk) →
      walked m nothing w (threads_places t ths p)
      ≡ refused_or (refused_threads m nothing ths) (Held (points_of (all_rows t ths p) (all_counts nothing t ths)))
  hold_threads t [] p w = refl
  hold_threads zero (th ∷ ths) p w =
      let e = thread_end 0 th p in
      hold_thread 0 th p w (refused_threads m nothing ths) (all_rows 1 ths e) (all_counts nothing 1 ths) (threads_places 1 ths e) (hold_threads 1 ths e)
  hold_threads (suc t) (th ∷ ths) p w =
      let e = thread_end (suc t) th p in
      hold_thread (suc t) th p w (refused_threads m nothing ths) (all_rows (suc (suc t)) ths e) (all_counts nothing (suc (suc t)) ths)
      (threads_places (suc (suc t)) ths e) (hold_threads (suc (suc t)) ths e)
