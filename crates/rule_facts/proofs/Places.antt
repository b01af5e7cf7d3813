-- Functions by their places.
use Rattle.std.proofs.Common.{List, [], ap, arith, inl, inr, subst, suc, sym, zero, ℕ, ◌+◌, ◌∙◌, ◌∷◌, ◌≡◌, ◌≤◌}
use Rattle.std.specs.Prelude.{Some, slice_get}
use Rattle.std.specs.List.{enumerate_from}
use Rattle.c_tree.specs.Lined.{Function}
use Rattle.c_rules.proofs.Members.{In}

pub in_functions : (k : ℕ) (fs : List Function) (f : ℕ × Function) → In f (enumerate_from k fs) → In f.1 fs
in_functions k [] f at = absurd at
in_functions k (g ∷ fs) f (inl e) = inl (ap (λ h. h.1) e)
in_functions k (g ∷ fs) f (inr at) = inr (in_functions (k + 1) fs f at)

-- a function's place
pub data Placed (fs : List (ℕ × Function)) (g : Function) : Type 0 where
  placed : (j : ℕ) → In (j, g) fs → Placed fs g

placed_more : (h : ℕ × Function) (fs : List (ℕ × Function)) (g : Function) → Placed fs g → Placed (h ∷ fs) g
placed_more h fs g (Placed.placed j at) = Placed.placed j (inr at)

pub place_in : (k : ℕ) (fs : List Function) (g : Function) → In g fs → Placed (enumerate_from k fs) g
place_in k [] g at = absurd at
place_in k (f ∷ fs) g (inl e) = Placed.placed k (inl (ap (λ h. (k, h)) e))
place_in k (f ∷ fs) g (inr at) = placed_more (k, f) (enumerate_from (k + 1) fs) g (place_in (k + 1) fs g at)

at_least : (n : ℕ) (fs : List Function) (k : ℕ) (a : Function) → In (k, a) (enumerate_from n fs) → n ≤ k
at_least n [] k a at = absurd at
at_least n (f ∷ fs) k a (inl e) = let same : n ≡ k = ap (λ x. x.0) e in omega arith
at_least n (f ∷ fs) k a (inr at) = let more = at_least (n + 1) fs k a at in omega arith

pub one_at : (n : ℕ) (fs : List Function) (k : ℕ) (a b : Function) → In (k, a) (enumerate_from n fs) → In (k, b) (enumerate_from n fs) → a ≡ b
one_at n [] k a b at bt = absurd at
one_at n (f ∷ fs) k a b (inl e) (inl d) = ap (λ x. x.1) (sym e) ∙ ap (λ x. x.1) d
one_at n (f ∷ fs) k a b (inl e) (inr bt) = let same : n ≡ k = ap (λ x. x.0) e in let more = at_least (n + 1) fs k b bt in absurd (omega arith)
one_at n (f ∷ fs) k a b (inr at) (inl e) = let same : n ≡ k = ap (λ x. x.0) e in let more = at_least (n + 1) fs k a at in absurd (omega arith)
one_at n (f ∷ fs) k a b (inr at) (inr bt) = one_at (n + 1) fs k a b at bt

pub listed_at : (n k : ℕ) (fs : List Function) (f : Function) → slice_get fs k ≡ Some f → In (n + k, f) (enumerate_from n fs)
listed_at n k [] f e = absurd (cc e)
listed_at n zero (g ∷ fs) f e = let same : g ≡ f = cc e in let here : n ≡ n + 0 = omega arith in inl (λ i. (here i, same i))
listed_at n (suc k) (g ∷ fs) f e =
    let here : n + 1 + k ≡ n + suc k = omega arith in inr (subst (λ m. In (m, f) (enumerate_from (n + 1) fs)) here (listed_at (n + 1) k fs f e))
