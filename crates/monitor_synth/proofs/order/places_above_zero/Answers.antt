use Rattle.std.proofs.Common.{◌≡◌, ◌<◌, ◌≤◌, ◌+◌, ℕ, List, [], ◌∷◌, ◌++◌, length, sym, ap, ◌∙◌, subst, ⊎_elim, arith}
use Rattle.std.specs.Prelude.{slice_index, All, Contains}
use Rattle.std.proofs.lemmas.Bool.{cases_lt}
use Rattle.std.proofs.lemmas.List.Elements.{All-push, Contains-push, Contains-append_left}
use Rattle.monitor_synth.proofs.order.places_above_zero.Goals as goal
use Rattle.monitor_synth.proofs.order.places_above_zero.Goals.{then-number-gt0+in_ok-push, else-number-gt0}

abbrev Lists : List ℕ → ℕ → List ℕ → Type 0
Lists w i xs = All (λ q. q < length w) xs × ((q : ℕ) → q < i → 0 < slice_index w q → Contains xs q)

-- one place more, which is put in
more : (w : List ℕ) (i : ℕ) (xs ys : List ℕ) → i < length w → ys ≡ xs ++ i ∷ [] → Lists w i xs → Lists w (i + 1) ys
more w i xs ys lt pushed so_far = subst (Lists w (i + 1)) (sym pushed) (
  All-push (λ q. q < length w) xs i so_far.0 lt,
  λ q below above.
      ⊎_elim
      (λ less. Contains-append_left xs (i ∷ []) q (so_far.1 q less above))
      (λ le. let same : q ≡ i = omega (arith, le, below) in subst (Contains (xs ++ i ∷ [])) (sym same) (Contains-push xs i))
      (cases_lt q i),
)

-- one place more, whose number is 0
none_more : (w : List ℕ) (i : ℕ) (xs ys : List ℕ) → slice_index w i ≤ 0 → ys ≡ xs → Lists w i xs → Lists w (i + 1) ys
none_more w i xs ys none same_list so_far = subst (Lists w (i + 1)) (sym same_list) (
  so_far.0,
  λ q below above.
      ⊎_elim
      (λ less. so_far.1 q less above)
      (λ le. let same : q ≡ i = omega (arith, le, below) in absurd (omega (arith, above, none, ap (slice_index w) same)))
      (cases_lt q i),
)

pub loop-p-preserved : goal.loop-p-preserved
loop-p-preserved c =
    let w = c.args.w.now in
    let inv = c.loop-p.invariant in
    let xs = c.loop-p.places.items in
    let ys = c.if-number-gt0.places.items in
    let is : Lists w (c.loop-p.p + 1) ys =
    elim c.if-number-gt0.branch [
      | then-number-gt0+in_ok-push b ↦ more w c.loop-p.p xs ys c.loop-p-test.true (ap (λ v. v.items) b.places-is ∙ b.in_ok-push.ensures.items) (inv.below, inv.each)
      | else-number-gt0 b ↦ none_more w c.loop-p.p xs ys b.if-number-gt0.false (ap (λ v. v.items) b.places-is) (inv.below, inv.each)
    ] in
    record { below = is.0; each = is.1 }
