-- Where the threads of a program have outlines, the walk finds these.
use Rattle.std.specs.Prelude.{◌≡◌, ◌≤◌, ℕ, ℤ, suc, true, List, [], ◌∷◌, length, Some}
use Rattle.std.specs.declared.option.Option.{Option}
use Rattle.std.proofs.Common.{arith, refl, ap, subst, sym, ◌∙◌}
use Rattle.c_tree.specs.Lined.{Function, Program}
use Rattle.c_meaning.proofs.Reading.{some_is}
use Rattle.outlines.specs.Outline.{Thread}
use Rattle.rule_facts.specs.FromLast.{from_last, named_in}
use Rattle.rule_facts.specs.Regular.{Regular}
use Rattle.rule_facts.proofs.Behind.{regular_names}
use Rattle.contexts.specs.Resolved.{passed, writes_of}
use Rattle.contexts.specs.Walk.{Walked, Found, then_walk, Above}
use Rattle.contexts.specs.Outlines.{above_of, outlines, walk_starts, starts}
use Rattle.contexts.specs.Outlined.{Code}
use Rattle.contexts.specs.Numbered.{after_all}
use Rattle.contexts.specs.Threads.{context_in, code_of, IsThread, Threads, Outlines, contexts_end}
use Rattle.contexts.specs.Firsts.{HasFirstParts}
use Rattle.context_laws.proofs.Numbers.{Knows, rises_all, ends_rise}
use Rattle.context_laws.proofs.Steady.{SteadyBehind, steady}
use Rattle.context_laws.proofs.Sound.{Matches, all_match, StartsIn, starts_in, context_first, knows_all}
use Rattle.context_laws.proofs.OutlinedWalk.{Stood, stood, Walks, enter_walk, list_walk}

-- ---- threads

record ThreadFound (code : Code) (above : Above) (name : List ℕ) (args : List (Option ℤ)) (n : List ℕ) (e : Thread) : Type 0 where
  pub m : List ℕ
  pub found : above.enter name args n ≡ Found e m
  pub behind : length m ≡ after_all e.body (suc (length n))
  pub knows : Knows code n → Knows code m

thread_walk : (code : Code) (fs : List (ℕ × Function)) → SteadyBehind code.program fs → Matches code fs → (name : List ℕ) (args : List (Option ℤ)) → named_in fs name ≡ true → (n : List ℕ) (e : Thread)
    → IsThread code name args (length n) e → after_all e.body (suc (length n)) ≤ 256 → ThreadFound code (above_of code.program fs) name args n e
thread_walk code fs all there name args ok n e th few =
    let room : suc (length n) ≤ after_all e.body (suc (length n)) = rises_all e.body (suc (length n)) in
    let g : Stood code fs name (th.place, th.f) = stood code fs all there name ok (th.place, th.f) th.is in
    let r : Walks code (above_of code.program g.above) (writes_of code.program th.f) (passed (writes_of code.program th.f) th.f.params args) (Some th.f.end_line) th.f.body (th.place ∷ n) e.body =
    list_walk code (writes_of code.program th.f) (passed (writes_of code.program th.f) th.f.params args) (Some th.f.end_line) th.f.body e.body th.outlined g.above g.behind g.there g.body
    (passed (writes_of code.program th.f) th.f.params args) (λ name z e. e) (th.place ∷ n) th.numbered few in
    record {
      m = r.m;
      found = g.enters args n ∙ enter_walk code (above_of code.program g.above) th.place th.f args n e.body (omega arith) r ∙ same r.m;
      behind = r.behind;
      knows = λ h. r.knows (th.known, h);
    }
  where
    same : (m : List ℕ) → Found (record { context = length n; line = th.f.line; end_line = th.f.end_line; body = e.body }) m ≡ Found e m
    same m = ap (λ (k : ℕ). lined k th.f.line th.f.end_line m) (sym th.context) ∙ ap (λ (k : ℕ). lined e.context k th.f.end_line m) (sym th.line) ∙ ap (λ (k : ℕ). lined e.context e.line k m) (sym th.end_line)
      where
        lined : ℕ → ℕ → ℕ → List ℕ → Walked Thread
        lined k line end_line m = Found (record { context = k; line = line; end_line = end_line; body = e.body }) m

record StartsFound (code : Code) (above : Above) (ss : List (List ℕ × List (Option ℤ))) (n : List ℕ) (es : List Thread) : Type 0 where
  pub m : List ℕ
  pub found : walk_starts above ss n ≡ Found es m
  pub behind : length m ≡ contexts_end es (length n)
  pub knows : Knows code n → Knows code m

starts_walk : (code : Code) (fs : List (ℕ × Function)) → SteadyBehind code.program fs → Matches code fs → (ss : List (List ℕ × List (Option ℤ))) → StartsIn (named_in fs) ss → (n : List ℕ) (es : List Thread)
    → Threads code ss es (length n) → contexts_end es (length n) ≤ 256 → StartsFound code (above_of code.program fs) ss n es
starts_walk code fs all there [] ok n [] threads few = record { m = n; found = refl; behind = refl; knows = λ h. h }
starts_walk code fs all there [] ok n (e ∷ es) threads few = absurd threads
starts_walk code fs all there (s ∷ ss) ok n [] threads few = absurd threads
starts_walk code fs all there (s ∷ ss) ok n (e ∷ es) threads few =
    let up : after_all e.body (suc (length n)) ≤ contexts_end es (after_all e.body (suc (length n))) = ends_rise es (after_all e.body (suc (length n))) in
    let first : ThreadFound code (above_of code.program fs) s.0 s.1 n e = thread_walk code fs all there s.0 s.1 ok.0 n e threads.0 (omega arith) in
    let r : StartsFound code (above_of code.program fs) ss first.m es =
    starts_walk code fs all there ss ok.1 first.m es (subst (λ k. Threads code ss es k) (sym first.behind) threads.1) (subst (λ k. contexts_end es k ≤ 256) (sym first.behind) few) in
    record {
      m = r.m;
      found = ap (λ w. then_walk w (λ x i. then_walk (walk_starts (above_of code.program fs) ss i) (λ xs k. Found (x ∷ xs) k))) first.found ∙ ap (λ w. then_walk w (λ xs k. Found (e ∷ xs) k)) r.found;
      behind = r.behind ∙ ap (λ k. contexts_end es k) first.behind;
      knows = λ h. r.knows (first.knows h);
    }

-- ---- places

-- what the last context's function is, and that of those before it
context_last : (n m : List ℕ) (i j : ℕ) → length n ≡ length m → context_in (j ∷ m) (length n) ≡ Some i → j ≡ i
context_last n m i j same is = some_is j i (sym (context_first m j) ∙ ap (λ k. context_in (j ∷ m) k) (sym same) ∙ is)

-- contexts that are known are those that are listed, where there are as many
known_once : (code : Code) (n m : List ℕ) → length n ≡ length m → Knows code n → Knows code m → n ≡ m
known_once code [] [] same kn km = refl
known_once code [] (j ∷ m) same kn km = cc same
known_once code (i ∷ n) [] same kn km = cc same
known_once code (i ∷ n) (j ∷ m) same kn km =
    let less : length n ≡ length m = omega arith in
    let here : i ≡ j = some_is i j (sym kn.0 ∙ ap code.context less ∙ km.0) in
    ap (λ k. k ∷ n) here ∙ ap (λ ks. j ∷ ks) (known_once code n m less kn.1 km.1)

pub outlined_walk : (p : Program) (es : List Thread) (places : List ℕ) → Regular p → HasFirstParts p → Outlines p es places → outlines p ≡ Found es places
outlined_walk p es places regular firsts there =
    let code : Code = code_of p places in
    let r : StartsFound code (above_of code.program (from_last p)) (starts p) [] es =
    starts_walk code (from_last p) (steady p regular firsts) (all_match p places) (starts p) (starts_in p (regular_names p regular)) [] es there.threads (subst (λ k. k ≤ 256) there.counted there.few) in
    r.found ∙ ap (λ n. Found es n) (known_once code r.m places (r.behind ∙ sym there.counted) (r.knows tt) (knows_all code places (λ k j is. is)))

-- two findings that are equal
found_both : (w : Walked (List Thread)) (es fs : List Thread) (n m : List ℕ) → w ≡ Found es n → w ≡ Found fs m → (es ≡ fs) × (n ≡ m)
found_both w es fs n m first second = let same : Found es n ≡ Found fs m = sym first ∙ second in (cc same, cc same)

pub outlined_once : (p : Program) (es fs : List Thread) (places others : List ℕ) → Regular p → HasFirstParts p → Outlines p es places → Outlines p fs others → (es ≡ fs) × (places ≡ others)
outlined_once p es fs places others regular firsts one two =
    found_both (outlines p) es fs places others (outlined_walk p es places regular firsts one) (outlined_walk p fs others regular firsts two)
