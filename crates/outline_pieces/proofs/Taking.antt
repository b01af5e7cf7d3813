-- A builder takes pieces one after the other.
use Rattle.std.proofs.Common.{◌≡◌, ℕ, zero, suc, ◌+◌, ◌<◌, ◌≤◌, Bool, true, false, List, [], ◌∷◌, ◌++◌, length, take, get_or, refl, sym, ap, subst, ◌∙◌, Option, None, Some, Result, Ok, Err, OnOk, arith, append_assoc, append-nil}
use Rattle.std.specs.Result.{is_err}
use Rattle.std.proofs.lemmas.List.{take_more, take_all}
use Rattle.outlines.specs.Outline.{Thread}
use Rattle.outlines.specs.Points.{all_rows}
use Rattle.outline_pieces.specs.declared.pieces.Piece.{Piece}
use Rattle.outline_pieces.specs.declared.pieces.Piece.TheVariants.{Begin, Pass, Fork, Loop, Inner, Leave, Else, ArmsEnd, LoopEnd, InnerEnd, Finish}
use Rattle.outline_pieces.specs.declared.pieces.Deed.TheVariants as deed
use Rattle.outline_pieces.specs.declared.pieces.Place.{Place}
use Rattle.outline_pieces.specs.declared.course.Open.{Open}
use Rattle.outline_pieces.specs.declared.course.Course.{Course}
use Rattle.outline_pieces.specs.declared.builder.Builder.{Builder}
use Rattle.outline_pieces.specs.declared.builder.TheConstants.{MOST_POINTS}
use Rattle.outline_pieces.specs.Pieces.{woken_pieces, wait_pieces, threads_pieces}
use Rattle.outline_pieces.specs.Places.{threads_places, first_in}
use Rattle.outline_pieces.specs.Courses.{start, count, turned, closed, step, kept_by, before, Run, mapped, run}
use Rattle.outline_pieces.specs.Taken.{HasTaken}
use Rattle.outline_pieces.proofs.Keeping.{keeps, ends_in_thread, ends_at_points}

counts_up : (b : Bool) (p : ℕ) → p ≤ count b p
counts_up true p = omega arith
counts_up false p = omega arith

begins_up : (t p : ℕ) → p ≤ first_in t p
begins_up zero p = omega arith
begins_up (suc t) p = omega arith

turns : (os : List Open) (c : Course) → (turned os c).next ≡ c.next
turns [] c = refl
turns (o ∷ os) c = refl

closes : (os : List Open) (c : Course) → (closed os c).next ≡ c.next
closes [] c = refl
closes (o ∷ os) c = refl

turns_in : (os : List Open) (c : Course) → (turned os c).thread ≡ c.thread
turns_in [] c = refl
turns_in (o ∷ os) c = refl

closes_in : (os : List Open) (c : Course) → (closed os c).thread ≡ c.thread
closes_in [] c = refl
closes_in (o ∷ os) c = refl

-- points only come up
steps_up : (c : Course) (x : Piece) → c.next ≤ (step c x).next
steps_up c (Begin line) = begins_up c.thread c.next
steps_up c (Pass line d) = counts_up c.reached c.next
steps_up c (Fork line tried) = counts_up c.reached c.next
steps_up c (Loop line) = counts_up c.reached c.next
steps_up c (Inner line) = counts_up c.reached c.next
steps_up c (Leave line) = counts_up c.reached c.next
steps_up c Else = omega (arith, turns c.around c)
steps_up c ArmsEnd = omega (arith, closes c.around c)
steps_up c LoopEnd = omega (arith, closes c.around c)
steps_up c InnerEnd = omega (arith, closes c.around c)
steps_up c (Finish line) = omega arith

runs_up : (c : Course) (ps : List Piece) → c.next ≤ (run c ps).last.next
runs_up c [] = omega arith
runs_up c (x ∷ ps) = omega (arith, steps_up c x, runs_up (step c x) ps)

-- each thread has a point
pub stays_counted : (c : Course) (x : Piece) → c.thread ≤ c.next → (step c x).thread ≤ (step c x).next
stays_counted c (Begin line) le = omega (arith, begins_up c.thread c.next)
stays_counted c (Pass line d) le = omega (arith, counts_up c.reached c.next)
stays_counted c (Fork line tried) le = omega (arith, counts_up c.reached c.next)
stays_counted c (Loop line) le = omega (arith, counts_up c.reached c.next)
stays_counted c (Inner line) le = omega (arith, counts_up c.reached c.next)
stays_counted c (Leave line) le = omega (arith, counts_up c.reached c.next)
stays_counted c Else le = omega (arith, turns c.around c, turns_in c.around c)
stays_counted c ArmsEnd le = omega (arith, closes c.around c, closes_in c.around c)
stays_counted c LoopEnd le = omega (arith, closes c.around c, closes_in c.around c)
stays_counted c InnerEnd le = omega (arith, closes c.around c, closes_in c.around c)
stays_counted c (Finish line) le = omega arith

more_kept : (ps : List Place) (p : Option Place) (r : Run) → mapped (λ l. ps ++ l) (mapped (before p) r) ≡ mapped (λ l. (ps ++ before p []) ++ l) r
more_kept ps None r = ap (λ z. mapped (λ l. z ++ l) r) (sym (append-nil ps))
more_kept ps (Some p) r = ap (λ l. record { kept = l; last = r.last }) (sym (append_assoc ps (p ∷ []) r.kept))

pub takes : (m n : ℕ) (b later : Builder) (ps : List Piece) (x : Piece) → b.failed ≡ false → b.course.next ≤ MOST_POINTS →
    later.mutexes ≡ b.mutexes → later.resources ≡ b.resources → later.course ≡ step b.course x → later.kept ≡ b.kept ++ before (kept_by b.course x) [] →
    HasTaken m n b ps → HasTaken m n later (ps ++ x ∷ [])
takes m n b later ps x going few mutexes resources course kept has =
    let is : (rest : List Piece) → run start ((ps ++ x ∷ []) ++ rest) ≡ mapped (λ l. later.kept ++ l) (run later.course rest) =
    λ rest. ap (run start) (append_assoc ps (x ∷ []) rest) ∙ has.kept going few (x ∷ rest)
    ∙ more_kept b.kept (kept_by b.course x) (run (step b.course x) rest)
    ∙ ap (λ z. mapped (λ l. z ++ l) (run (step b.course x) rest)) (sym kept)
    ∙ ap (λ z. mapped (λ l. later.kept ++ l) (run z rest)) (sym course) in
    record {
      mutexes_are = mutexes ∙ has.mutexes_are;
      resources_are = resources ∙ has.resources_are;
      kept = λ on le rest. is rest;
      many = λ on lt rest. omega (arith, ap (λ (r : Run). r.last.next) (is rest), runs_up later.course rest);
    }

-- what is dropped
pub drops : (m n : ℕ) (b : Builder) (ps : List Piece) (x : Piece) → MOST_POINTS < b.course.next → HasTaken m n b ps → HasTaken m n b (ps ++ x ∷ [])
drops m n b ps x over has = record {
  mutexes_are = has.mutexes_are;
  resources_are = has.resources_are;
  kept = λ on le rest. absurd (omega arith);
  many = λ on lt rest. let P : List Piece → Type 0 = λ z. MOST_POINTS < (run start z).last.next in subst P (sym (append_assoc ps (x ∷ []) rest)) (has.many on lt (x ∷ rest));
}

pub fails : (m n : ℕ) (b later : Builder) (ps qs : List Piece) → later.failed ≡ true → later.mutexes ≡ b.mutexes → later.resources ≡ b.resources →
    HasTaken m n b ps → HasTaken m n later qs
fails m n b later ps qs failed mutexes resources has = record {
  mutexes_are = mutexes ∙ has.mutexes_are;
  resources_are = resources ∙ has.resources_are;
  kept = λ on le rest. absurd (cc (failed, on));
  many = λ on lt rest. absurd (cc (failed, on));
}

-- what a builder has kept of all pieces of threads
all_taken : (m n : ℕ) (b : Builder) (ths : List Thread) → b.failed ≡ false → b.course.next ≤ MOST_POINTS → HasTaken m n b (threads_pieces ths) →
    run start (threads_pieces ths) ≡ record { kept = b.kept; last = b.course }
all_taken m n b ths going few has =
    ap (run start) (sym (append-nil (threads_pieces ths))) ∙ has.kept going few [] ∙ ap (λ l. record { kept = l; last = b.course }) (append-nil b.kept)

pub kept_of : (m n : ℕ) (b : Builder) (ths : List Thread) → b.failed ≡ false → b.course.next ≤ MOST_POINTS → HasTaken m n b (threads_pieces ths) →
    b.kept ≡ threads_places 0 ths 0
kept_of m n b ths going few has = sym (ap (λ (r : Run). r.kept) (all_taken m n b ths going few has)) ∙ keeps ths

pub thread_of : (m n : ℕ) (b : Builder) (ths : List Thread) → b.failed ≡ false → b.course.next ≤ MOST_POINTS → HasTaken m n b (threads_pieces ths) →
    b.course.thread ≡ length ths
thread_of m n b ths going few has = sym (ap (λ (r : Run). r.last.thread) (all_taken m n b ths going few has)) ∙ ends_in_thread ths

pub few_points : (m n : ℕ) (b : Builder) (ths : List Thread) → b.failed ≡ false → b.course.next ≤ MOST_POINTS → HasTaken m n b (threads_pieces ths) →
    length (all_rows 0 ths 0) ≤ 4096
few_points m n b ths going few has =
    let is : b.course.next ≡ length (all_rows 0 ths 0) = sym (ap (λ (r : Run). r.last.next) (all_taken m n b ths going few has)) ∙ ends_at_points ths in
    omega arith

pub many_points : (m n : ℕ) (b : Builder) (ths : List Thread) → b.failed ≡ false → MOST_POINTS < b.course.next → HasTaken m n b (threads_pieces ths) →
    4096 < length (all_rows 0 ths 0)
many_points m n b ths going over has =
    let is : (run start (threads_pieces ths ++ [])).last.next ≡ length (all_rows 0 ths 0) =
    ap (λ z. (run start z).last.next) (append-nil (threads_pieces ths)) ∙ ends_at_points ths in
    omega (arith, has.many going over [])

pub at_ok : {T E P : Type 0} (r : Result T E) → false ≡ is_err r → OnOk r P → P
at_ok (Ok x) is p = p
at_ok (Err e) is p = absurd (cc is)

-- the takes of a wait
abbrev pub take_pieces : ℕ → List ℕ → List Piece
take_pieces line [] = []
take_pieces line (c ∷ cs) = Pass line (deed.Take c) ∷ take_pieces line cs

takes_join : (line : ℕ) (xs ys : List ℕ) → take_pieces line (xs ++ ys) ≡ take_pieces line xs ++ take_pieces line ys
takes_join line [] ys = refl
takes_join line (c ∷ cs) ys = ap (λ l. Pass line (deed.Take c) ∷ l) (takes_join line cs ys)

takes_end : (line r : ℕ) (cs : List ℕ) → take_pieces line cs ++ Pass line (deed.Retake r) ∷ [] ≡ woken_pieces line r cs []
takes_end line r [] = refl
takes_end line r (c ∷ cs) = ap (λ l. Pass line (deed.Take c) ∷ l) (takes_end line r cs)

-- the pieces of a wait up to some of its takes
abbrev pub up_to : List Piece → ℕ → ℕ → List ℕ → List Piece
up_to ps line r cs = ps ++ Pass line (deed.Wait r) ∷ Pass line deed.Sleep ∷ take_pieces line cs

pub sleeps_first : (ps : List Piece) (line r : ℕ) → (ps ++ Pass line (deed.Wait r) ∷ []) ++ Pass line deed.Sleep ∷ [] ≡ up_to ps line r []
sleeps_first ps line r = append_assoc ps (Pass line (deed.Wait r) ∷ []) (Pass line deed.Sleep ∷ [])

pub takes_next : (ps : List Piece) (line r i : ℕ) (cs : List ℕ) → i < length cs →
    up_to ps line r (take i cs) ++ Pass line (deed.Take (get_or cs i 0)) ∷ [] ≡ up_to ps line r (take (i + 1) cs)
takes_next ps line r i cs lt =
    append_assoc ps (Pass line (deed.Wait r) ∷ Pass line deed.Sleep ∷ take_pieces line (take i cs)) (Pass line (deed.Take (get_or cs i 0)) ∷ [])
    ∙ ap (λ l. ps ++ Pass line (deed.Wait r) ∷ Pass line deed.Sleep ∷ l) (sym (takes_join line (take i cs) (get_or cs i 0 ∷ [])))
    ∙ ap (up_to ps line r) (sym (take_more cs i 0 lt))

pub takes_last : (ps : List Piece) (line r i : ℕ) (cs : List ℕ) → length cs ≤ i →
    up_to ps line r (take i cs) ++ Pass line (deed.Retake r) ∷ [] ≡ ps ++ wait_pieces line r cs []
takes_last ps line r i cs le =
    ap (λ z. up_to ps line r z ++ Pass line (deed.Retake r) ∷ []) (take_all i cs le)
    ∙ append_assoc ps (Pass line (deed.Wait r) ∷ Pass line deed.Sleep ∷ take_pieces line cs) (Pass line (deed.Retake r) ∷ [])
    ∙ ap (λ l. ps ++ Pass line (deed.Wait r) ∷ Pass line deed.Sleep ∷ l) (takes_end line r cs)
