-- The points of threads are a marking.
use Rattle.std.proofs.Common.{◌≡◌, ℕ, zero, suc, ◌+◌, ◌<◌, List, [], ◌∷◌, length, map, Option, Some, refl, sym, ap, ◌∙◌, arith}
use Rattle.std.specs.Prelude.{ℤ, sum_by, slice_get}
use Rattle.std.specs.List.{range_with_len}
use Rattle.std.proofs.lemmas.List.{length-map}
use Rattle.std.proofs.lemmas.List.FromFn.{get_or-map-range_with_len, length-map-range_with_len}
use Rattle.std.proofs.lemmas.List.Sums.{sum_by-cons}
use Rattle.std.proofs.lemmas.Option.{same_Some, slice_get_within, slice_get-get_or}
use Rattle.c_tree.specs.declared.program.Mode.{Mode}
use Rattle.c_tree.specs.Lined.{Program, bare_program}
use Rattle.c_tree.specs.Numbering.{Creation, creations, thread_count}
use Rattle.c_tree.specs.Values.{constant}
use Rattle.contexts.specs.Numbered.{after_all}
use Rattle.contexts.specs.Outlined.{Code}
use Rattle.contexts.specs.Outlines.{starts}
use Rattle.contexts.specs.Threads.{code_of, Threads}
use Rattle.outlines.specs.Outline.{Thread}
use Rattle.outline_laws.proofs.Placed.{src_of}
use Rattle.net_laws.specs.Net.{Net}
use Rattle.reached_states.specs.Counts.{tokens_held}
use Rattle.reached_states.proofs.Counts.{counts_fit, taken_is_counted}
use Rattle.accounts.specs.Points.{points_of}
use Rattle.accounts.specs.Accounts.{IsNetOfProgram}
use Rattle.accounts.specs.Laws.{StatesAreMarked, HeldIsMarked, FreeIsMarked}
use Rattle.accounts.proofs.Outlined.{formed_outlined}
use Rattle.accounts.proofs.Located.{point_within, point_of_thread}

-- ---- as many outlines as threads

counted_threads : (code : Code) (ss : List (List ℕ × List (Option ℤ))) (es : List Thread) (k : ℕ) → Threads code ss es k → length es ≡ length ss
counted_threads code [] [] k t = refl
counted_threads code [] (e ∷ es) k t = absurd t
counted_threads code (s ∷ ss) [] k t = absurd t
counted_threads code (s ∷ ss) (e ∷ es) k t = ap suc (counted_threads code ss es (after_all e.body (suc k)) t.1)

pub threads_are : (p : Program) (mode : Mode) (es : List Thread) (places : List ℕ) (n : Net) (counts : ℕ → List ℕ) → IsNetOfProgram p mode es places n counts → length es ≡ thread_count (bare_program p)
threads_are p mode es places n counts net =
    let has = formed_outlined p mode es places net.formed net.shaped net.found in
    let named : Creation → List ℕ × List (Option ℤ) = λ c. (c.function, constant c.arg ∷ []) in
    let all : length es ≡ suc (length (map named (creations (bare_program p)))) = counted_threads (code_of p places) (starts p) es 0 has.outlines.threads in
    let others = length-map (creations (bare_program p)) named in
    omega (arith, all, others)

-- ---- their points

pub thread_there : (es : List Thread) (t : ℕ) → t < length es → (th : Thread) × (slice_get es t ≡ Some th)
thread_there [] t lt = absurd (omega (arith, lt))
thread_there (e ∷ es) zero lt = (e, refl)
thread_there (e ∷ es) (suc t) lt = thread_there es t (omega (arith, lt))

pub point_at : (es : List Thread) (points : ℕ → ℕ) (t : ℕ) → t < length es → slice_get (points_of es points) t ≡ Some (points t)
point_at es points t lt =
    let long = length-map-range_with_len points 0 (length es) in
    slice_get-get_or (points_of es points) t 0 (omega (arith, lt, long)) ∙ ap Some (get_or-map-range_with_len points 0 (length es) t t 0 lt (omega arith))

pub point_found : (es : List Thread) (points : ℕ → ℕ) (t q : ℕ) → slice_get (points_of es points) t ≡ Some q → (t < length es) × (points t ≡ q)
point_found es points t q is =
    let long = length-map-range_with_len points 0 (length es) in
    let lt : t < length es = omega (arith, long, slice_get_within (points_of es points) t q is) in
    (lt, same_Some (points t) q (sym (point_at es points t lt) ∙ is))

-- ---- what is held at them

summed : (f g points : ℕ → ℕ) (a k : ℕ) → ((t : ℕ) → t < a + k → f t ≡ g (points t)) → sum_by f (range_with_len a k) ≡ sum_by g (map points (range_with_len a k))
summed f g points a zero same = refl
summed f g points a (suc k) same =
    let one = sum_by-cons f a (range_with_len (a + 1) k) in
    let other = sum_by-cons g (points a) (map points (range_with_len (a + 1) k)) in
    let first = same a (omega arith) in
    let more = summed f g points (a + 1) k (λ t below. same t (omega (arith, below))) in
    omega (arith, one, other, first, more)

pub held_marked : HeldIsMarked
held_marked p mode es places n counts s points net accounts r =
    ap (λ k. sum_by (λ t. tokens_held (bare_program p) s t r) (range_with_len 0 k)) (sym (threads_are p mode es places n counts net))
    ∙ summed (λ t. tokens_held (bare_program p) s t r) (λ q. n.held q r) points 0 (length es)
    (λ t below. let th = thread_there es t (omega (arith, below)) in accounts.holds t th.0 th.1 r)

pub states_marked : StatesAreMarked
states_marked p mode es places n counts input s points net reached accounts = record {
  each = length-map-range_with_len points 0 (length es) ∙ sym net.held.net.threads;
  stands = λ t q is.
      let found = point_found es points t q is in
      let th = thread_there es t found.0 in
      let at = accounts.at_points.located t th.0 th.1 in
      let within = point_within es t th.0 th.1 (accounts.at_points.positions t) (points t) at in
      let same = found.1 in
      let all = net.held.net.points in
      let lt : q < n.points = omega (arith, same, within, all) in
      (lt, net.held.net.thread_of q lt ∙ ap (λ z. (src_of es z).thread) (sym same) ∙ point_of_thread es t th.0 th.1 (accounts.at_points.positions t) (points t) at);
  fits = λ r lt.
      let held = held_marked p mode es places n counts s points net accounts r in
      let fit = counts_fit (bare_program p) input s r reached in
      let tokens = net.tokens r lt in
      omega (arith, held, fit, tokens);
}

pub free_marked : FreeIsMarked
free_marked p mode es places n counts input s points net reached accounts r lt =
    let held = held_marked p mode es places n counts s points net accounts r in
    let taken = taken_is_counted (bare_program p) input s r reached in
    let tokens = net.tokens r lt in
    (λ is. sym held ∙ taken.0 is ∙ sym tokens, λ all. taken.1 (held ∙ all ∙ tokens))
