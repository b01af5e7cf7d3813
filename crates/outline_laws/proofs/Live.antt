-- What is live has nothing behind what control doesn't pass.
use Rattle.std.proofs.Common.{◌≡◌, Bool, true, false, ◌⊎◌, inl, inr, refl, ap, ◌∙◌}
use Rattle.std.specs.Prelude.{◌&&◌, ◌||◌, if◌then◌else◌, ⊤}
use Rattle.outlines.specs.Outline.{Part, Parts, Step, Join, Acquire, Release, Wait, Try, Branch, Loop, Inner, Leave, Nil, Cons, passes, passes_all, live, live_all}

-- only what never passes has nothing behind it
abbrev mutual
  pub IsLive : Part → Type 0
  IsLive (Step line) = ⊤
  IsLive (Join line) = ⊤
  IsLive (Acquire line r) = ⊤
  IsLive (Release line r) = ⊤
  IsLive (Wait line r cs) = ⊤
  IsLive (Try line r a b) = AllLive a × AllLive b
  IsLive (Branch line a b) = AllLive a × AllLive b
  IsLive (Loop line body) = AllLive body
  IsLive (Inner line f body) = AllLive body
  IsLive (Leave line) = ⊤

  pub AllLive : Parts → Type 0
  AllLive Nil = ⊤
  AllLive (Cons x xs) = IsLive x × AllLive xs × ((passes x ≡ true) ⊎ (xs ≡ Nil))

abbrev kept : Bool → Parts → Parts
kept b xs = if b then live_all xs else Nil

mutual
  pub passes_live : (x : Part) → passes (live x) ≡ passes x
  passes_live (Step line) = refl
  passes_live (Join line) = refl
  passes_live (Acquire line r) = refl
  passes_live (Release line r) = refl
  passes_live (Wait line r cs) = refl
  passes_live (Try line r a b) = ap (λ z. z || passes_all (live_all b)) (passes_live_all a) ∙ ap (λ z. passes_all a || z) (passes_live_all b)
  passes_live (Branch line a b) = ap (λ z. z || passes_all (live_all b)) (passes_live_all a) ∙ ap (λ z. passes_all a || z) (passes_live_all b)
  passes_live (Loop line body) = refl
  passes_live (Inner line f body) = refl
  passes_live (Leave line) = refl

  pub passes_live_all : (xs : Parts) → passes_all (live_all xs) ≡ passes_all xs
  passes_live_all Nil = refl
  passes_live_all (Cons x xs) = ap (λ z. z && passes_all (kept (passes x) xs)) (passes_live x) ∙ both (passes x) (passes_live_all xs)
    where
      both : (b : Bool) → passes_all (live_all xs) ≡ passes_all xs → b && passes_all (kept b xs) ≡ b && passes_all xs
      both true e = e
      both false e = refl

mutual
  is_live : (x : Part) → IsLive (live x)
  is_live (Step line) = tt
  is_live (Join line) = tt
  is_live (Acquire line r) = tt
  is_live (Release line r) = tt
  is_live (Wait line r cs) = tt
  is_live (Try line r a b) = (all_live a, all_live b)
  is_live (Branch line a b) = (all_live a, all_live b)
  is_live (Loop line body) = all_live body
  is_live (Inner line f body) = all_live body
  is_live (Leave line) = tt

  pub all_live : (xs : Parts) → AllLive (live_all xs)
  all_live Nil = tt
  all_live (Cons x xs) = let r = rest (passes x) (all_live xs) (passes_live x) in (is_live x, r.0, r.1)
    where
      rest : (b : Bool) → AllLive (live_all xs) → passes (live x) ≡ b → AllLive (kept b xs) × ((passes (live x) ≡ true) ⊎ (kept b xs ≡ Nil))
      rest true all e = (all, inl e)
      rest false all e = (tt, inr refl)

empty : (b : Bool) → kept b Nil ≡ Nil
empty true = refl
empty false = refl
