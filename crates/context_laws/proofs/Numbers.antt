-- Numbers of contexts along outlines.
use Rattle.std.specs.Prelude.{◌≡◌, ◌≤◌, ℕ, suc, List, [], ◌∷◌, length, Some, None, ⊤}
use Rattle.std.specs.declared.option.Option.{Option}
use Rattle.std.proofs.Common.{arith, refl, ap, subst, sym, ◌∙◌}
use Rattle.outlines.specs.Outline as outline
use Rattle.outlines.specs.Outline.{Part, Parts, Thread, joined}
use Rattle.contexts.specs.Outlined.{Code, end_parts}
use Rattle.contexts.specs.Walk.{part}
use Rattle.contexts.specs.Numbered.{Numbered, NumberedAll, after, after_all}
use Rattle.contexts.specs.Threads.{contexts_end}

pub numbered_joined : (xs ys : Parts) (n : ℕ) → NumberedAll xs n → NumberedAll ys (after_all xs n) → NumberedAll (joined xs ys) n
numbered_joined outline.Nil ys n front back = back
numbered_joined (outline.Cons x xs) ys n front back = (front.0, numbered_joined xs ys _ front.1 back)

pub after_joined : (xs ys : Parts) (n : ℕ) → after_all (joined xs ys) n ≡ after_all ys (after_all xs n)
after_joined outline.Nil ys n = refl
after_joined (outline.Cons x xs) ys n = after_joined xs ys _

pub after_end : (ends : Option ℕ) (n : ℕ) → after_all (end_parts ends) n ≡ n
after_end None n = refl
after_end (Some line) n = refl

mutual
  -- numbers only rise
  pub rises : (x : Part) (n : ℕ) → n ≤ after x n
  rises (outline.Try line r a b) n =
      let front : n ≤ after_all a n = rises_all a n in let back : after_all a n ≤ after_all b (after_all a n) = rises_all b (after_all a n) in omega arith
  rises (outline.Branch line a b) n =
      let front : n ≤ after_all a n = rises_all a n in let back : after_all a n ≤ after_all b (after_all a n) = rises_all b (after_all a n) in omega arith
  rises (outline.Loop line body) n = rises_all body n
  rises (outline.Inner line k body) n = let one : suc n ≤ after_all body (suc n) = rises_all body (suc n) in omega arith
  rises x n = omega arith

  pub rises_all : (xs : Parts) (n : ℕ) → n ≤ after_all xs n
  rises_all outline.Nil n = omega arith
  rises_all (outline.Cons x xs) n = let front : n ≤ after x n = rises x n in let back : after x n ≤ after_all xs (after x n) = rises_all xs (after x n) in omega arith

pub ends_rise : (es : List Thread) (n : ℕ) → n ≤ contexts_end es n
ends_rise [] n = omega arith
ends_rise (e ∷ es) n =
    let front : suc n ≤ after_all e.body (suc n) = rises_all e.body (suc n) in
    let back : after_all e.body (suc n) ≤ contexts_end es (after_all e.body (suc n)) = ends_rise es (after_all e.body (suc n)) in omega arith

-- ---- the functions of contexts

-- each context's function stands at its place, the contexts from the last
abbrev pub Knows : Code → List ℕ → Type 0
Knows code [] = ⊤
Knows code (j ∷ n) = (code.context (length n) ≡ Some j) × Knows code n

-- a walk from the contexts n to m, with these parts
pub record Goes (code : Code) (n : List ℕ) (xs : Parts) (m : List ℕ) : Type 0 where
  pub numbered : NumberedAll xs (length n)
  pub behind : length m ≡ after_all xs (length n)
  pub knows : Knows code m → Knows code n
  pub few : length n ≤ 256 → length m ≤ 256

pub goes_nowhere : (code : Code) (n : List ℕ) → Goes code n outline.Nil n
goes_nowhere code n = record { numbered = tt; behind = refl; knows = λ h. h; few = λ h. h }

-- a part without contexts
pub goes_flat : (code : Code) (n : List ℕ) (x : Part) → Numbered x (length n) → length n ≡ after x (length n) → Goes code n (part x) n
goes_flat code n x numbered same = record { numbered = (numbered, tt); behind = same; knows = λ h. h; few = λ h. h }

pub numbered_behind : (code : Code) (n k : List ℕ) (xs ys : Parts) (m : List ℕ) → Goes code n xs k → Goes code k ys m → NumberedAll ys (after_all xs (length n))
numbered_behind code n k xs ys m front back = subst (λ i. NumberedAll ys i) front.behind back.numbered

pub ends_behind : (code : Code) (n k : List ℕ) (xs ys : Parts) (m : List ℕ) → Goes code n xs k → Goes code k ys m → length m ≡ after_all ys (after_all xs (length n))
ends_behind code n k xs ys m front back = back.behind ∙ ap (λ i. after_all ys i) front.behind

pub goes_on : (code : Code) (n k : List ℕ) (xs ys : Parts) (m : List ℕ) → Goes code n xs k → Goes code k ys m → Goes code n (joined xs ys) m
goes_on code n k xs ys m front back = record {
  numbered = numbered_joined xs ys (length n) front.numbered (numbered_behind code n k xs ys m front back);
  behind = ends_behind code n k xs ys m front back ∙ sym (after_joined xs ys (length n));
  knows = λ h. front.knows (back.knows h);
  few = λ h. back.few (front.few h);
}

-- a part that holds these
pub goes_inside : (code : Code) (n : List ℕ) (xs : Parts) (m : List ℕ) (x : Part) → Goes code n xs m → (NumberedAll xs (length n) → Numbered x (length n)) → after_all xs (length n) ≡ after x (length n) → Goes code n (part x) m
goes_inside code n xs m x there numbered same = record { numbered = (numbered there.numbered, tt); behind = there.behind ∙ same; knows = there.knows; few = there.few }
